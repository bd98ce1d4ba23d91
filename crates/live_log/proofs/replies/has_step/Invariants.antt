use Rattle.live_log.proofs.Prelude.{length}
use Rattle.live_log.proofs.replies.has_step.Given as goal

abbrev pub decreases-loop-rest : goal.decreases-loop-rest
decreases-loop-rest l = length l.rest
