use Rattle.pinned_places.proofs.Prelude.{◌≡◌, take, zip, keys_of, entries_of}
use Rattle.pinned_places.proofs.placed.kept_of.Given as goal

abbrev pub invariant-loop-block : goal.invariant-loop-block
invariant-loop-block l = entries_of l.entries.items ≡ take l.block (zip (keys_of l.packed) l.places)
