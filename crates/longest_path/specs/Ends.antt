-- Private: the longest path among the longest ways.
use Rattle.std.specs.Prelude.{ℕ, ◌≡◌, ◌+◌, List, length}
use Rattle.blif.specs.LookupTables.{LookupTable}
use Rattle.longest_path.specs.declared.longest.Longest.{Longest}
use Rattle.longest_path.specs.declared.longest.Longest.TheVariants.{Path, NoPath, Loop}
use Rattle.longest_path.specs.declared.reach.Reach.{Reach}
use Rattle.longest_path.specs.Reaches.{AreUnreached, IsFarthest, steps_to}
use Rattle.longest_path.specs.Tracing.{IsThrough}

-- the path leads to the farthest of the ends
pub record LeadsToFarthest (tables : List LookupTable) (reach : List Reach) (ends : List ℕ) (from : ℕ) (numbers : List ℕ) (to : ℕ) : Type 0 where
  pub farthest : IsFarthest reach ends to
  pub through : IsThrough tables from numbers to
  pub first : steps_to reach from ≡ 1
  pub count : length numbers + 1 ≡ steps_to reach to

abbrev pub IsEnd : List LookupTable → List Reach → List ℕ → Longest → Type 0
IsEnd tables reach ends (Path path) = LeadsToFarthest tables reach ends path.from path.tables.items path.to
IsEnd tables reach ends NoPath = AreUnreached reach ends
IsEnd tables reach ends Loop = ⊥
