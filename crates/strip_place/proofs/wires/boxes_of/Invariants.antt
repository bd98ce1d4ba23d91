use Rattle.strip_place.proofs.Swaps.{AreBoxesSoFar}
use Rattle.strip_place.proofs.wires.boxes_of.Given as goal

abbrev pub invariant-loop-number : goal.invariant-loop-number
invariant-loop-number l = AreBoxesSoFar l.points l.nets l.number l.boxes.items
