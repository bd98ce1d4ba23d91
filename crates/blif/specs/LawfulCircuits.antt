-- The invariant of every circuit that is read from a text.
use Rattle.std.specs.Prelude.{ℕ, ◌≡◌, ◌≢◌, ◌<◌, ◌≤◌, Bool, true, List, ◌++◌, All, AllPairs, length, map, nat_eq}
use Rattle.std.specs.List.{AllPass, list_any}
use Rattle.std.specs.Option.{ForSome}
use Rattle.blif.specs.declared.circuit.Circuit.{Circuit}
use Rattle.blif.specs.declared.latches.Latch.{Latch}
use Rattle.blif.specs.declared.circuit.TheConstants.{MAX_NETS}
use Rattle.blif.specs.LookupTables.{LookupTable}

-- the table reads and drives nets below the count
pub record IsTableWithin (count : ℕ) (table : LookupTable) : Type 0 where
  pub inputs : All (λ net. net < count) table.inputs
  pub output : table.output < count

-- the latch reads, drives and is controlled by nets below the count
pub record IsLatchWithin (count : ℕ) (latch : Latch) : Type 0 where
  pub input : latch.input < count
  pub output : latch.output < count
  pub control : ForSome latch.control (λ net. net < count)

-- whether the net is among the nets
abbrev pub has_net : List ℕ → ℕ → Bool
has_net nets net = list_any (nat_eq net) nets

-- the nets by what drives them: the inputs, then the outputs of tables, then those of latches
abbrev pub drivers_of : Circuit → List ℕ
drivers_of circuit = circuit.inputs ++ (map (λ table. table.output) circuit.tables ++ map (λ latch. latch.output) circuit.latches)

-- the nets that the latch reads are driven
pub record IsLatchDriven (drivers : List ℕ) (latch : Latch) : Type 0 where
  pub input : has_net drivers latch.input ≡ true
  pub control : ForSome latch.control (λ net. has_net drivers net ≡ true)

-- the number of nets is within the limit, all their names differ, and each number in the circuit is
-- that of a net. No net is driven twice or is an output twice, and each net that is read is driven.
-- Tables and latches are in the order of their lines, and each has a line of its own.
pub record IsCircuit (circuit : Circuit) : Type 0 where
  pub few : length circuit.nets ≤ MAX_NETS
  pub named_once : AllPairs (λ name other. name ≢ other) circuit.nets
  pub inputs : All (λ net. net < length circuit.nets) circuit.inputs
  pub outputs : All (λ net. net < length circuit.nets) circuit.outputs
  pub tables : All (IsTableWithin (length circuit.nets)) circuit.tables
  pub latches : All (IsLatchWithin (length circuit.nets)) circuit.latches
  pub driven_once : AllPairs (λ net other. net ≢ other) (drivers_of circuit)
  pub shown_once : AllPairs (λ net other. net ≢ other) circuit.outputs
  pub driven_outputs : AllPass (has_net (drivers_of circuit)) circuit.outputs
  pub driven_tables : All (λ table. AllPass (has_net (drivers_of circuit)) table.inputs) circuit.tables
  pub driven_latches : All (IsLatchDriven (drivers_of circuit)) circuit.latches
  pub tables_rise : AllPairs (λ table later. table.line < later.line) circuit.tables
  pub latches_rise : AllPairs (λ latch later. latch.line < later.line) circuit.latches
  pub lines_apart : All (λ table. All (λ latch. table.line ≢ latch.line) circuit.latches) circuit.tables

-- each table has at most lut_size inputs
abbrev pub IsNarrow : ℕ → Circuit → Type 0
IsNarrow lut_size circuit = All (λ table. length table.inputs ≤ lut_size) circuit.tables
