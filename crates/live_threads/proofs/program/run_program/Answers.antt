use Rattle.live_threads.proofs.Prelude.{None}
use Rattle.live_threads.proofs.RunEnds.{unread}
use Rattle.live_threads.proofs.program.run_program.Goals as goal

pub returns-in-Err : goal.returns-in-Err
returns-in-Err g c = unread _ _ _ None _ c.new.ensures.input c.new.ensures.output c.new.ensures.log c.report_unread.ensures
