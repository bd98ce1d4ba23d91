use Rattle.layout_check.proofs.Prelude.{◌≡◌, ◌+◌, length, take}
use Rattle.layout_check.proofs.BlePlaces.{bles_in}
use Rattle.layout_check.proofs.elements.ble_number.Given as goal

abbrev pub invariant-loop-number : goal.invariant-loop-number
invariant-loop-number l = l.place ≡ length (bles_in (take l.number l.blocks)) + l.left
