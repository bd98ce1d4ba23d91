use Rattle.layout_check.proofs.Prelude.{length}
use Rattle.layout_check.proofs.Hops.{AreStarts}
use Rattle.layout_check.proofs.trees.mark_starts.Given as goal

abbrev pub invariant-loop-hop : goal.invariant-loop-hop
invariant-loop-hop l = AreStarts l.hops (length l.initial.marks) l.hop-index l.marks
