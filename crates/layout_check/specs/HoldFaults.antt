-- Why a BLE holds no table and no latch of a circuit.
use Rattle.std.specs.Prelude.{ℕ, ◌≡◌, ◌<◌, ◌==◌, true, false, List, [], ◌∷◌, Contains, None, Some, count_by, slice_get}
use Rattle.layout_check.specs.Prelude.{Circuit, Latch, LookupTable, has, LogicElement, is_read_once, is_same_net, receives}
use Rattle.layout_check.specs.declared.fault.HoldFault.{HoldFault}
use Rattle.layout_check.specs.declared.fault.HoldFault.TheVariants.{NotDriven, Clocked, Table, WrongClock, Latch as LatchAlone, Pair, ReadElsewhere}
use Rattle.layout_check.specs.declared.fault.ReadFault.{ReadFault}
use Rattle.layout_check.specs.declared.fault.ReadFault.TheVariants.{Lacks, Extra, Twice}

-- what a fault says of the nets that the BLE receives, against these
abbrev pub IsReadFault : LogicElement → List ℕ → ReadFault → Type 0
IsReadFault element nets (Lacks net) = Contains nets net × (has element.inputs net ≡ false)
IsReadFault element nets (Extra net) = Contains element.inputs net × (has nets net ≡ false)
IsReadFault element nets (Twice net) = 1 < count_by (λ input. input == net) element.inputs

-- the BLE drives what the table with this number drives
pub record DrivesAsTable (circuit : Circuit) (element : LogicElement) (number : ℕ) (table : LookupTable) : Type 0 where
  pub at : slice_get circuit.tables number ≡ Some table
  pub same : element.output ≡ table.output

-- the BLE drives what the latch with this number drives
pub record DrivesAsLatch (circuit : Circuit) (element : LogicElement) (number : ℕ) (latch : Latch) : Type 0 where
  pub at : slice_get circuit.latches number ≡ Some latch
  pub same : element.output ≡ latch.output

-- it also doesn't receive just the data of the latch, which the other table drives
pub record DrivesAsPair (circuit : Circuit) (element : LogicElement) (number behind : ℕ) (table : LookupTable) (latch : Latch) : Type 0 where
  pub at : slice_get circuit.tables number ≡ Some table
  pub drives : DrivesAsLatch circuit element behind latch
  pub stored : latch.input ≡ table.output
  pub never_alone : receives element (latch.input ∷ []) ≡ false

-- what a fault says of the BLE
abbrev pub IsHoldFault : Circuit → LogicElement → HoldFault → Type 0
IsHoldFault circuit element NotDriven =
    ((table : LookupTable) → Contains circuit.tables table → element.output ≡ table.output → ⊥) × ((latch : Latch) → Contains circuit.latches latch → element.output ≡ latch.output → ⊥)
IsHoldFault circuit element (Clocked number) = (table : LookupTable) × DrivesAsTable circuit element number table × (is_same_net element.clock None ≡ false)
IsHoldFault circuit element (Table number fault) = (table : LookupTable) × DrivesAsTable circuit element number table × IsReadFault element table.inputs fault
IsHoldFault circuit element (WrongClock number) = (latch : Latch) × DrivesAsLatch circuit element number latch × (is_same_net element.clock latch.control ≡ false)
IsHoldFault circuit element (LatchAlone number fault) =
    (latch : Latch) × DrivesAsLatch circuit element number latch × ((table : LookupTable) → Contains circuit.tables table → latch.input ≡ table.output → ⊥) × IsReadFault element (latch.input ∷ []) fault
IsHoldFault circuit element (Pair number behind fault) = (table : LookupTable) × (latch : Latch) × DrivesAsPair circuit element number behind table latch × IsReadFault element table.inputs fault
IsHoldFault circuit element (ReadElsewhere number behind) = (table : LookupTable) × (latch : Latch) × DrivesAsPair circuit element number behind table latch × (receives element table.inputs ≡ true) × (is_read_once circuit table.output ≡ false)
