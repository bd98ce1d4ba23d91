-- The starts that are in a track's plane, with bounds.
use Rattle.std.specs.Prelude.{ℕ, ◌^◌, ◌<◌, ◌-◌, ◌⊎◌, Some, List, Contains, map, sum_by}
use Rattle.plane_search.specs.Prelude.{Leads, IsLowerBound}
use Rattle.plane_search.specs.Planes.{Family}
use Rattle.plane_search.specs.declared.planes.Start.{Start}

abbrev pub places_of : List Start → List ℕ
places_of starts = map (λ (start : Start). start.place) starts

-- Each path from the entry costs more than the limit, which is not the greatest.
pub record IsTooFar (f : Family) (track most entry : ℕ) : Type 0 where
  pub few : most < 2 ^ 64 - 1
  pub more : (rest : List ℕ) → Leads (f.plane track) f.exit entry rest
      → most < sum_by (f.plane track).cost rest

-- Each is a start of the track's plane with a lower bound, and each other start is too far.
pub record AreStarts (f : Family) (track most : ℕ) (starts : List Start) : Type 0 where
  pub among : (start : Start) → Contains starts start → Contains (f.entries track) start.place
  pub bounded : (start : Start) → Contains starts start
      → IsLowerBound (f.plane track) f.exit start.place (Some start.ahead)
  pub all : (entry : ℕ) → Contains (f.entries track) entry
      → Contains (places_of starts) entry ⊎ IsTooFar f track most entry
