-- The column that the most nets cross.
use Rattle.std.specs.Prelude.{ℕ, ◌≡◌, ◌<◌, ◌≤◌, List}
use Rattle.cluster.specs.Clusters.{PackedCircuit}
use Rattle.grid.specs.declared.place.Place.{Place}
use Rattle.track_bound.specs.Crossings.{crossing_count}
use Rattle.track_bound.specs.declared.crossing.Crossing.{Crossing}

-- of the columns from 1 to the last, it is the first of those that the most nets cross
pub record IsBusiest (packed : PackedCircuit) (places : List Place) (last : ℕ) (crossing : Crossing) : Type 0 where
  pub low : 1 ≤ crossing.column
  pub high : crossing.column ≤ last
  pub nets : crossing.nets ≡ crossing_count packed places crossing.column
  pub most : (column : ℕ) → 1 ≤ column → column ≤ last → crossing_count packed places column ≤ crossing.nets
  pub first : (column : ℕ) → 1 ≤ column → column < crossing.column → crossing_count packed places column < crossing.nets
