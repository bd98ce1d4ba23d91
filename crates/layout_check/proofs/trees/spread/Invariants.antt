use Rattle.layout_check.proofs.Hops.{AreFollowed}
use Rattle.layout_check.proofs.trees.spread.Given as goal

abbrev pub invariant-loop-hop : goal.invariant-loop-hop
invariant-loop-hop l = AreFollowed l.hops l.hop-index l.initial.reached l.reached l.has_grown
