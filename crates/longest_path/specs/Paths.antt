-- The longest path through the tables of a circuit.
use Rattle.std.specs.Prelude.{ℕ, ◌≡◌, ◌<◌, ◌≤◌, List, [], ◌∷◌, ◌++◌, length, map, slice_get, slice_index, Some}
use Rattle.blif.specs.LookupTables.{LookupTable}
use Rattle.blif.specs.declared.circuit.Circuit.{Circuit}
use Rattle.longest_path.specs.declared.longest.Longest.{Longest}
use Rattle.longest_path.specs.declared.longest.Longest.TheVariants.{Path, NoPath, Loop}

-- the net is one of these
abbrev pub IsIn : List ℕ → ℕ → Type 0
IsIn nets net = (k : ℕ) × (k < length nets) × (slice_index nets k ≡ net)

-- these tables have these numbers
abbrev pub AreAt : List LookupTable → List ℕ → List LookupTable → Type 0
AreAt tables numbers through = map (slice_get tables) numbers ≡ map Some through

-- the table is one of these
abbrev pub IsTable : List LookupTable → LookupTable → Type 0
IsTable tables table = (number : ℕ) × (slice_get tables number ≡ Some table)

-- a way from one net to another goes through these tables, the last one first: each table drives
-- the net to which the way leads, and reads a net to which the others lead
abbrev pub IsWay : List LookupTable → ℕ → List LookupTable → ℕ → Type 0
IsWay tables from [] to = from ≡ to
IsWay tables from (table ∷ others) to =
    IsTable tables table × (table.output ≡ to) × ((net : ℕ) × IsIn table.inputs net × IsWay tables from others net)

-- some tables form a loop: a way leads through one at least, back to its first net
abbrev pub HasLoop : List LookupTable → Type 0
HasLoop tables = (net : ℕ) × (table : LookupTable) × (others : List LookupTable) × IsWay tables net (table ∷ others) net

-- the tables of these numbers form a loop: a way leads through them, the last one first, back to
-- the net at which it begins
pub record IsLoop (tables : List LookupTable) (numbers : List ℕ) : Type 0 where
  pub net : ℕ
  pub through : List LookupTable
  pub some : 0 < length numbers
  pub at : AreAt tables numbers through
  pub way : IsWay tables net through net

-- the nets at which paths begin: inputs, and the outputs of latches
abbrev pub starts_of : Circuit → List ℕ
starts_of circuit = circuit.inputs ++ map (λ latch. latch.output) circuit.latches

-- the nets at which paths end: outputs, and the inputs of latches
abbrev pub ends_of : Circuit → List ℕ
ends_of circuit = circuit.outputs ++ map (λ latch. latch.input) circuit.latches

-- a path from one net to another, through these tables, the last one first
pub record IsPath (circuit : Circuit) (from : ℕ) (tables : List LookupTable) (to : ℕ) : Type 0 where
  pub start : IsIn (starts_of circuit) from
  pub end : IsIn (ends_of circuit) to
  pub way : IsWay circuit.tables from tables to

-- no path has more tables
abbrev pub IsMost : Circuit → ℕ → Type 0
IsMost circuit most = (from : ℕ) (tables : List LookupTable) (to : ℕ) → IsPath circuit from tables to → length tables ≤ most

-- the longest path of a circuit: one between those nets through the tables of those numbers, the
-- last one first, and none has more tables; or there is no path; or some tables form a loop
abbrev pub IsLongest : Circuit → Longest → Type 0
IsLongest circuit (Path path) =
    (HasLoop circuit.tables → ⊥) × IsMost circuit (length path.tables.items)
    × ((tables : List LookupTable) × IsPath circuit path.from tables path.to × AreAt circuit.tables path.tables.items tables)
IsLongest circuit NoPath =
    (HasLoop circuit.tables → ⊥) × ((from : ℕ) (tables : List LookupTable) (to : ℕ) → IsPath circuit from tables to → ⊥)
IsLongest circuit Loop = HasLoop circuit.tables
