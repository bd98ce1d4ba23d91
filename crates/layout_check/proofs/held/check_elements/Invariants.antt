use Rattle.layout_check.proofs.HeldOnce.{AreHeldUpTo}
use Rattle.layout_check.proofs.held.check_elements.Given as goal

abbrev pub invariant-loop-place : goal.invariant-loop-place
invariant-loop-place l = AreHeldUpTo l.circuit l.elements l.place l.tables.items l.latches.items
