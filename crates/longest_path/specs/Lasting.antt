-- Private: the nets to which ways lead that are as long as one likes.
use Rattle.std.specs.Prelude.{ℕ, ◌≡◌, ◌<◌, ◌≤◌, All, Bool, true, false, List, ◌∷◌, length, slice_get, slice_index_or, Some}
use Rattle.blif.specs.declared.circuit.TheConstants.{MAX_NETS}
use Rattle.blif.specs.LawfulCircuits.{IsTableWithin}
use Rattle.blif.specs.LookupTables.{LookupTable}
use Rattle.longest_path.specs.declared.trace.StepBack.{StepBack}
use Rattle.longest_path.specs.Paths.{IsIn, IsWay}

-- the net is marked
abbrev pub IsMarked : List Bool → ℕ → Type 0
IsMarked marks net = slice_index_or marks net false ≡ true

-- the net is one of these and marked; none of these is
abbrev pub IsMarkedAmong : List Bool → List ℕ → ℕ → Type 0
IsMarkedAmong marks nets net = IsIn nets net × IsMarked marks net

abbrev pub NoneIsMarked : List Bool → List ℕ → Type 0
NoneIsMarked marks nets = (k : ℕ) → k < length nets → slice_index_or marks (slice_index_or nets k 0) false ≡ false

-- the net is marked, and not marked next; there is no such net
abbrev pub IsFirstLost : List Bool → List Bool → ℕ → Type 0
IsFirstLost marks next net = IsMarked marks net × (slice_index_or next net false ≡ false)

abbrev pub NoneIsLost : List Bool → List Bool → Type 0
NoneIsLost marks next = (net : ℕ) → IsMarked marks net → IsMarked next net

-- one of the first tables drives the net and reads a marked net
pub record IsLedTo (tables : List LookupTable) (count : ℕ) (marks : List Bool) (net : ℕ) : Type 0 where
  pub number : ℕ
  pub table : LookupTable
  pub early : number < count
  pub is : slice_get tables number ≡ Some table
  pub drives : table.output ≡ net
  pub before : ℕ
  pub among : IsMarkedAmong marks table.inputs before

-- next, just the nets are marked to which one of the first tables leads
pub record AreLedTo (tables : List LookupTable) (count : ℕ) (marks next : List Bool) : Type 0 where
  pub long : length next ≡ length marks
  pub led : (net : ℕ) → IsMarked next net → IsLedTo tables count marks net
  pub all : (net : ℕ) → IsLedTo tables count marks net → IsMarked next net

-- a way leads through one table at least from the net back to it
abbrev pub IsOnLoop : List LookupTable → ℕ → Type 0
IsOnLoop tables net = (table : LookupTable) × (others : List LookupTable) × IsWay tables net (table ∷ others) net

-- each marked net is led to from a marked net, and each net of a loop is marked
pub record IsLasting (tables : List LookupTable) (marks : List Bool) : Type 0 where
  pub few : length marks ≤ MAX_NETS
  pub within : All (IsTableWithin (length marks)) tables
  pub led : (net : ℕ) → IsMarked marks net → IsLedTo tables (length tables) marks net
  pub loops : (net : ℕ) → IsOnLoop tables net → IsMarked marks net

-- the table drives the net, and reads this marked net
pub record IsMarkedBack (tables : List LookupTable) (marks : List Bool) (net : ℕ) (back : StepBack) : Type 0 where
  pub table : LookupTable
  pub is : slice_get tables back.table ≡ Some table
  pub drives : table.output ≡ net
  pub among : IsMarkedAmong marks table.inputs back.net

-- the net is at that place of these; it is at none
abbrev pub IsPlaceOf : List ℕ → ℕ → ℕ → Type 0
IsPlaceOf nets net place = (place < length nets) × (slice_index_or nets place 0 ≡ net)

abbrev pub IsMissing : List ℕ → ℕ → Type 0
IsMissing nets net = (k : ℕ) → k < length nets → slice_index_or nets k 0 ≡ net → ⊥
