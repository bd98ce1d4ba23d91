use Rattle.desk_layouts.proofs.Prelude.{length}
use Rattle.desk_layouts.proofs.strip.global_ends.Given as goal

abbrev pub decreases-loop-rest : goal.decreases-loop-rest
decreases-loop-rest l = length l.rest
