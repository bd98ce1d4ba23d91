-- Blocks of a packed circuit on places of a strip.
use Rattle.std.specs.Prelude.{ℕ, ◌≡◌, ◌<◌, ◌==◌, ◌&&◌, Bool, List, length, slice_index_or, Contains}
use Rattle.cluster.specs.declared.block.Block.{Block}
use Rattle.cluster.specs.declared.block.Block.TheVariants.{Cluster}
use Rattle.cluster.specs.Clusters.{PackedCircuit}
use Rattle.cluster.specs.Blocks.{blocks_of}
use Rattle.grid.specs.declared.Strip.{Strip}
use Rattle.grid.specs.declared.place.Place.{Place}
use Rattle.grid.specs.Places.{place_at, places_of}
use Rattle.block_places.specs.Fits.{kind_of}

-- a block and its place
abbrev pub block_at : PackedCircuit → ℕ → Block
block_at packed block = slice_index_or (blocks_of packed) block (Cluster 0)

abbrev pub place_of : List Place → ℕ → Place
place_of places block = slice_index_or places block (place_at 0 0 0)

-- the two places are equal
abbrev pub is_same_place : Place → Place → Bool
is_same_place place other = place.x == other.x && (place.y == other.y && place.subblock == other.subblock)

-- each block of a packed circuit has a place of its kind in the strip, by block number, and no two
-- blocks have the same place
pub record ArePlaced (strip : Strip) (packed : PackedCircuit) (places : List Place) : Type 0 where
  pub long : length places ≡ length (blocks_of packed)
  pub by_kind : (block : ℕ) → block < length (blocks_of packed) → Contains (places_of strip (kind_of (block_at packed block))) (place_of places block)
  pub one_to_one : (block other : ℕ) → block < length (blocks_of packed) → other < length (blocks_of packed) → place_of places block ≡ place_of places other → block ≡ other
