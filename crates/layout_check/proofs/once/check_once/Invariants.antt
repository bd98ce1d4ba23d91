use Rattle.layout_check.proofs.Prelude.{length}
use Rattle.layout_check.proofs.HeldOnce.{ArePlacesUpTo}
use Rattle.layout_check.proofs.once.check_once.Given as goal

abbrev pub invariant-loop-place : goal.invariant-loop-place
invariant-loop-place l = ArePlacesUpTo l.numbers l.count l.place l.places.items
