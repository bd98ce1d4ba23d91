use Rattle.layout_check.proofs.Prelude.{length}
use Rattle.layout_check.proofs.Hops.{AreEntered}
use Rattle.layout_check.proofs.trees.enter.Given as goal

abbrev pub invariant-loop-hop : goal.invariant-loop-hop
invariant-loop-hop l = AreEntered l.hops l.root (length l.initial.entered) l.hop-index l.entered l.parents.items
