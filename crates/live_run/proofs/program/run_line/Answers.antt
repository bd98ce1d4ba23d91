use Rattle.live_run.proofs.LineRuns.{begins_logged, begins_plain}
use Rattle.live_run.proofs.program.run_line.Goals as goal

pub returns-in-None : goal.returns-in-None
returns-in-None g c = begins_plain c.args.line.now _ _ _ _ c.requires c.in-None.is c.serve.ensures

pub returns-in-Ok-log_at : goal.returns-in-Ok-log_at
returns-in-Ok-log_at g c = begins_logged c.args.line.now c.in-Some.path _ _ _ _ _ _ c.keep_on.ensures.input c.keep_on.ensures.output c.keep_on.ensures.has_log c.in-Some.is c.serve-in-Ok-log_at.ensures
