use Rattle.strip_place.proofs.Prelude.{◌≡◌, take, places_by_block}
use Rattle.strip_place.proofs.placing.Placing.places.Given as goal

abbrev pub invariant-loop-block : goal.invariant-loop-block
invariant-loop-block l = l.places.items ≡ take l.block (places_by_block l.self)
