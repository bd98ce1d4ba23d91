-- Places that are kept for blocks.
use Rattle.std.specs.Prelude.{List, [], ◌∷◌, Option}
use Rattle.std.specs.FinMap.{find, put}
use Rattle.cluster.specs.Keys.{BlockKey, key_order}
use Rattle.grid.specs.declared.place.Place.{Place}

-- a map from blocks' keys to places, as a list in the order of the keys, so that each map is
-- exactly one list
abbrev pub KeptPlaces : Type 0
KeptPlaces = List (BlockKey × Place)

-- the map of these entries; of two entries with equal keys the first is used
unfoldable pub in_order : List (BlockKey × Place) → KeptPlaces
in_order [] = []
in_order (entry ∷ entries) = put key_order entry.0 entry.1 (in_order entries)

-- the place that is kept for the block with this key, if there is one
abbrev pub kept_place : KeptPlaces → BlockKey → Option Place
kept_place kept key = find key_order key kept
