-- Private: placed blocks, one by one.
use Rattle.std.specs.Prelude.{ℕ, ◌<◌, List, length}
use Rattle.pathfinder.specs.Prelude.{PackedCircuit, blocks_of, Strip, Place, ArePlaced}

-- the blocks have places, and this is the number of one of them
pub record IsPlacedBlock (strip : Strip) (packed : PackedCircuit) (places : List Place) (block : ℕ) : Type 0 where
  pub placed : ArePlaced strip packed places
  pub within : block < length (blocks_of packed)
