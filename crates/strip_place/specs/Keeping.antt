-- Places that are kept for blocks.
use Rattle.std.specs.Prelude.{◌≡◌, Some, Contains}
use Rattle.strip_place.specs.Prelude.{BlockKey, BlockKind, Cluster, Strip, Kind, Logic, Pad, Place, places_of, KeptPlaces, kept_place}

-- the kind of place that blocks of a kind need
abbrev pub kind_for : BlockKind → Kind
kind_for Cluster = Logic
kind_for _ = Pad

-- each kept place is a place of the strip, of the kind that its block needs, and no place is kept
-- twice
pub record AreKeptOn (strip : Strip) (kept : KeptPlaces) : Type 0 where
  pub by_kind : (key : BlockKey) (place : Place) → kept_place kept key ≡ Some place → Contains (places_of strip (kind_for key.kind)) place
  pub one_to_one : (key other : BlockKey) (place : Place) → kept_place kept key ≡ Some place → kept_place kept other ≡ Some place → key ≡ other
