-- The places of blocks at the start.
use Rattle.std.specs.Prelude.{not, List, [], ◌∷◌, ◌++◌, map, find, Option, option_and_then, unwrap_or}
use Rattle.std.specs.List.{flat_map, list_any, zip}
use Rattle.std.specs.Option.{option_to_list}
use Rattle.strip_place.specs.Prelude.{PackedCircuit, keys_of, Strip, Kind, Place, place_at, places_of, KeptPlaces, kept_place, is_same_place}
use Rattle.strip_place.specs.Keeping.{kind_for}
use Rattle.strip_place.specs.Task.{task_of}

-- the place of a block: the one that is kept for it, or the first of its kind, in the strip's
-- order, that isn't taken
abbrev pub place_for : Strip → List Place → Kind × Option Place → Place
place_for strip taken block = unwrap_or block.1 (unwrap_or (find (λ place. not (list_any (is_same_place place) taken)) (places_of strip block.0)) (place_at 0 0 0))

-- the places of blocks, one block after another, when these places are taken
abbrev pub placed_behind : Strip → List Place → List (Kind × Option Place) → List Place
placed_behind strip taken [] = []
placed_behind strip taken (block ∷ blocks) = place_for strip taken block ∷ placed_behind strip (taken ++ place_for strip taken block ∷ []) blocks

-- the places at the start, by block: a block with a kept place has that, and the others take, in
-- order, the first free place of their kind
unfoldable pub placed_first : Strip → List Kind → List (Option Place) → List Place
placed_first strip kinds kept = placed_behind strip (flat_map option_to_list kept) (zip kinds kept)

-- the place that is kept for each block, if there is one and it is a place of the block's kind in
-- the strip
abbrev pub kept_by_block : Strip → PackedCircuit → KeptPlaces → List (Option Place)
kept_by_block strip packed kept = map (λ key. option_and_then (λ place. find (is_same_place place) (places_of strip (kind_for key.kind))) (kept_place kept key)) (keys_of packed)

abbrev pub places_at_start : Strip → PackedCircuit → KeptPlaces → List Place
places_at_start strip packed kept = placed_first strip (task_of packed).kinds (kept_by_block strip packed kept)
