use Rattle.pinned_places.proofs.Prelude.{◌≡◌, [], drop, pins_read, pads_after}
use Rattle.pinned_places.proofs.pads.pads_of.Given as goal

-- the pins that are left go on from the pads so far
abbrev pub invariant-loop-pin : goal.invariant-loop-pin
invariant-loop-pin l = pads_after l.packed l.strip [] (pins_read l.pins) ≡ pads_after l.packed l.strip l.pads.items (drop l.pin-index (pins_read l.pins))
