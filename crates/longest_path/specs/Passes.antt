-- Private: the passes over the tables.
use Rattle.std.specs.Prelude.{ℕ, ◌≡◌, ◌+◌, ◌<◌, ◌≤◌, List, length, slice_get, Some}
use Rattle.blif.specs.LookupTables.{LookupTable}
use Rattle.longest_path.specs.declared.pass.PassEnd.{PassEnd}
use Rattle.longest_path.specs.declared.pass.PassEnd.TheVariants.{Loop, Same, Raised}
use Rattle.longest_path.specs.declared.reach.Reach.{Reach}
use Rattle.longest_path.specs.Paths.{HasLoop, IsIn}
use Rattle.longest_path.specs.Reaches.{AreFound, AreSmall, steps_to}

-- the output of each of the first tables is at least one step farther than its inputs were
abbrev pub AreRaised : List LookupTable → ℕ → List Reach → List Reach → Type 0
AreRaised tables count old new =
    (number : ℕ) (table : LookupTable) → number < count → slice_get tables number ≡ Some table
    → (net : ℕ) → IsIn table.inputs net → 0 < steps_to old net → steps_to old net + 1 ≤ steps_to new table.output

-- the first tables were gone over
pub record IsPassed (tables : List LookupTable) (starts : List ℕ) (count : ℕ) (old new : List Reach) : Type 0 where
  pub long : length new ≡ length old
  pub small : AreSmall new
  pub found : AreFound tables starts new
  pub rises : (net : ℕ) → steps_to old net ≤ steps_to new net
  pub raised : AreRaised tables count old new

-- some net is farther than it was
abbrev pub IsFarther : List Reach → List Reach → Type 0
IsFarther old new = (net : ℕ) × (steps_to old net < steps_to new net)

-- the possible results of a pass
abbrev pub PassEnds : List LookupTable → List ℕ → List Reach → PassEnd → Type 0
PassEnds tables starts old Loop = HasLoop tables
PassEnds tables starts old (Same new) = (new.items ≡ old) × IsPassed tables starts (length tables) old new.items
PassEnds tables starts old (Raised new) = IsPassed tables starts (length tables) old new.items × IsFarther old new.items
