use Rattle.strip_place.proofs.Prelude.{◌≡◌, ◌++◌, map, take, places_in_order, spot_of}
use Rattle.strip_place.proofs.start.add_spots.Given as goal

abbrev pub invariant-loop-number : goal.invariant-loop-number
invariant-loop-number l = l.spots.items ≡ l.initial.spots.items ++ map spot_of (take l.number (places_in_order l.places))
