-- Private: the longest ways of all.
use Rattle.std.specs.Prelude.{ℕ, ◌≡◌, ◌+◌, ◌<◌, ◌≤◌, List, length}
use Rattle.blif.specs.LookupTables.{LookupTable}
use Rattle.longest_path.specs.declared.reach.Reach.{Reach}
use Rattle.longest_path.specs.Paths.{IsIn, IsWay}
use Rattle.longest_path.specs.Reaches.{AreFound, AreSmall, steps_to}

-- the starts are reached, and a way that leads on from a net that is reached is not longer than
-- what was found
pub record IsSettled (nets : ℕ) (tables : List LookupTable) (starts : List ℕ) (reach : List Reach) : Type 0 where
  pub long : length reach ≡ nets
  pub found : AreFound tables starts reach
  pub started : (net : ℕ) → IsIn starts net → 0 < steps_to reach net
  pub settled : (from : ℕ) (through : List LookupTable) (to : ℕ) → 0 < steps_to reach from → IsWay tables from through to → steps_to reach from + length through ≤ steps_to reach to

-- after some passes each way with at most that number of tables was found, and after one at least
-- some net has that number of steps, and one
pub record IsOnTheWay (passes nets : ℕ) (tables : List LookupTable) (starts : List ℕ) (reach : List Reach) : Type 0 where
  pub long : length reach ≡ nets
  pub small : AreSmall reach
  pub found : AreFound tables starts reach
  pub started : (net : ℕ) → IsIn starts net → 0 < steps_to reach net
  pub covered : (from : ℕ) (through : List LookupTable) (to : ℕ) → IsIn starts from → IsWay tables from through to → length through ≤ passes → length through + 1 ≤ steps_to reach to
  pub far : 0 < passes → (net : ℕ) × (passes + 1 ≤ steps_to reach net)
