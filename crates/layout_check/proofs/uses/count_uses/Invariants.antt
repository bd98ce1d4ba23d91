use Rattle.layout_check.proofs.Prelude.{length}
use Rattle.layout_check.proofs.Hops.{AreUsed}
use Rattle.layout_check.proofs.uses.count_uses.Given as goal

abbrev pub invariant-loop-node : goal.invariant-loop-node
invariant-loop-node l = AreUsed l.nodes (length l.initial.marks) l.node-index l.initial.uses.items l.marks l.uses.items
