use Rattle.layout_check.proofs.Prelude.{length}
use Rattle.layout_check.proofs.Hops.{AreMarked}
use Rattle.layout_check.proofs.trees.mark_all.Given as goal

abbrev pub invariant-loop-number : goal.invariant-loop-number
invariant-loop-number l = AreMarked l.numbers (length l.initial.marks) l.number-index l.marks
