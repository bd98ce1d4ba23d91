use Rattle.strip_place.proofs.Prelude.{◌≡◌, take, zip, keys_of, entries_of, places_by_block}
use Rattle.strip_place.proofs.placing.Placing.to_kept_places.Given as goal

abbrev pub invariant-loop-block : goal.invariant-loop-block
invariant-loop-block l = entries_of l.entries.items ≡ take l.block (zip (keys_of l.self.packed) (places_by_block l.self))
