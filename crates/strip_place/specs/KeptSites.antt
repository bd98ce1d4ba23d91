-- Private: the sites of kept places.
use Rattle.std.specs.Prelude.{ℕ, ◌+◌, List, map, Option, option_map, Contains}
use Rattle.std.specs.List.{position_or_len}
use Rattle.strip_place.specs.Prelude.{PackedCircuit, keys_of, BlockKind, Strip, Kind, Place, places_of, IsStripSize, KeptPlaces, kept_place, is_same_place}
use Rattle.strip_place.specs.Keeping.{kind_for}
use Rattle.strip_place.specs.Sites.{first_site}

-- it is a place of this kind in the strip
pub record IsPlaceOf (strip : Strip) (kind : Kind) (place : Place) : Type 0 where
  pub size : IsStripSize strip
  pub there : Contains (places_of strip kind) place

-- the site of a place, for a block of this kind
abbrev pub site_of : Strip → BlockKind → Place → ℕ
site_of strip kind place = first_site strip (kind_for kind) + position_or_len (is_same_place place) (places_of strip (kind_for kind))

-- the site that is kept for each block, if there is one
abbrev pub kept_sites_of : Strip → PackedCircuit → KeptPlaces → List (Option ℕ)
kept_sites_of strip packed kept = map (λ key. option_map (site_of strip key.kind) (kept_place kept key)) (keys_of packed)
