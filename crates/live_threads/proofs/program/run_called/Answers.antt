use Rattle.live_threads.proofs.RunEnds.{ends}
use Rattle.live_threads.proofs.program.run_called.Goals as goal

pub returns : goal.returns
returns g c = ends _ _ _ _ _ _ c.run_words-outcome.ensures c.report_run.ensures
