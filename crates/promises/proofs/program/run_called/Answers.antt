use Rattle.std.proofs.Common.{inl}
use Rattle.promises.proofs.Exiting.{exits}
use Rattle.promises.proofs.program.run_called.Goals as goal

pub returns-in-Ok : goal.returns-in-Ok
returns-in-Ok g c = exits _ _ _ c.in-Ok.outcome _ c.report_outcome.ensures (rw c.in-Ok.is at c.run_words.ensures)

pub returns-in-Err : goal.returns-in-Err
returns-in-Err g c = inl (c.report_refusal.ensures, (rw c.in-Err.is at c.run_words.ensures))
