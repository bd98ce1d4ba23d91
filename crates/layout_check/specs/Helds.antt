-- Private: what BLEs hold, by number.
use Rattle.std.specs.Prelude.{ℕ, ◌≡◌, ◌<◌, ◌+◌, ◌==◌, Bool, true, false, ◌||◌, List, Option, None, Some, count_by, length, slice_get, slice_index_or, take}
use Rattle.std.specs.List.{flat_map, list_any}
use Rattle.std.specs.Option.{ForSome, option_map_or}
use Rattle.layout_check.specs.Prelude.{Circuit, Latch, IsCircuit, LookupTable, LogicElement, holds_latch, holds_table, is_latch, is_pair, LaidBle, LaidBlock}
use Rattle.layout_check.specs.declared.fault.BleNumber.{BleNumber}
use Rattle.layout_check.specs.declared.held.HeldFault.{HeldFault}
use Rattle.layout_check.specs.declared.held.HeldFault.TheVariants.{Unlawful, Ble, TableTwice, NoTable, LatchTwice, NoLatch}
use Rattle.layout_check.specs.declared.once.OnceFault.{OnceFault}
use Rattle.layout_check.specs.declared.once.OnceFault.TheVariants.{Twice, Never}
use Rattle.layout_check.specs.HoldFaults.{IsHoldFault}

-- the BLE with this number is at this place among the BLEs of all blocks
pub record IsNumberOf (blocks : List LaidBlock) (place : ℕ) (number : BleNumber) : Type 0 where
  pub laid : LaidBlock
  pub at_block : slice_get blocks number.block ≡ Some laid
  pub ble : LaidBle
  pub at_ble : slice_get laid.bles number.ble ≡ Some ble
  pub offset : place ≡ length (flat_map (λ block. block.bles) (take number.block blocks)) + number.ble

-- the BLE is the latch, or it is the table with the latch
abbrev pub IsLatchOrPair : Circuit → LogicElement → ℕ → Option ℕ → Type 0
IsLatchOrPair circuit element number None = (latch : Latch) × (slice_get circuit.latches number ≡ Some latch) × (is_latch element latch ≡ true)
IsLatchOrPair circuit element number (Some k) =
    (table : LookupTable) × (latch : Latch) × (slice_get circuit.tables k ≡ Some table) × (slice_get circuit.latches number ≡ Some latch) × (is_pair circuit element table latch ≡ true)

-- it is that number
abbrev pub is_number : ℕ → Option ℕ → Bool
is_number k number = option_map_or (λ other. other == k) number false

-- the BLE holds this table and this latch, one of them at least, and nothing else
pub record IsHeld (circuit : Circuit) (element : LogicElement) (held behind : Option ℕ) : Type 0 where
  pub tables : (k : ℕ) (table : LookupTable) → slice_get circuit.tables k ≡ Some table → holds_table circuit element table ≡ is_number k held
  pub latches : (k : ℕ) (latch : Latch) → slice_get circuit.latches k ≡ Some latch → holds_latch circuit element latch ≡ is_number k behind
  pub some : (list_any (holds_table circuit element) circuit.tables || list_any (holds_latch circuit element) circuit.latches) ≡ true
  pub table_in : ForSome held (λ k. k < length circuit.tables)
  pub latch_in : ForSome behind (λ k. k < length circuit.latches)

-- these are the tables and latches that the BLEs hold
pub record AreHeld (circuit : Circuit) (elements : List LogicElement) (held behind : List (Option ℕ)) : Type 0 where
  pub long : length held ≡ length elements
  pub also : length behind ≡ length elements
  pub each : (k : ℕ) (element : LogicElement) → slice_get elements k ≡ Some element → IsHeld circuit element (slice_index_or held k None) (slice_index_or behind k None)

-- what it says that a number doesn't occur just once
abbrev pub IsOnceFault : List (Option ℕ) → ℕ → OnceFault → Type 0
IsOnceFault numbers count (Twice k place other) = (k < count) × (place < other) × (slice_get numbers place ≡ Some (Some k)) × (slice_get numbers other ≡ Some (Some k))
IsOnceFault numbers count (Never k) = (k < count) × (count_by (is_number k) numbers ≡ 0)

-- each number that has a place occurs there and nowhere else, and those without a place don't occur
pub record ArePlaces (numbers places : List (Option ℕ)) : Type 0 where
  pub none : (k : ℕ) → slice_index_or places k None ≡ None → count_by (is_number k) numbers ≡ 0
  pub some : (k place : ℕ) → slice_index_or places k None ≡ Some place → (slice_get numbers place ≡ Some (Some k)) × (count_by (is_number k) numbers ≡ 1)

-- the BLE at this place holds the table, or the latch
abbrev pub HoldsTableIn : Circuit → List LogicElement → LookupTable → ℕ → Type 0
HoldsTableIn circuit elements table place = (element : LogicElement) × (slice_get elements place ≡ Some element) × (holds_table circuit element table ≡ true)

abbrev pub HoldsLatchIn : Circuit → List LogicElement → Latch → ℕ → Type 0
HoldsLatchIn circuit elements latch place = (element : LogicElement) × (slice_get elements place ≡ Some element) × (holds_latch circuit element latch ≡ true)

-- what a fault says of the BLEs
abbrev pub IsHeldFault : Circuit → List LogicElement → HeldFault → Type 0
IsHeldFault circuit elements (Unlawful net) = IsCircuit circuit → ⊥
IsHeldFault circuit elements (Ble place fault) = (element : LogicElement) × (slice_get elements place ≡ Some element) × IsHoldFault circuit element fault
IsHeldFault circuit elements (TableTwice k place other) =
    (table : LookupTable) × (slice_get circuit.tables k ≡ Some table) × (place < other) × HoldsTableIn circuit elements table place × HoldsTableIn circuit elements table other
IsHeldFault circuit elements (NoTable k) = (table : LookupTable) × (slice_get circuit.tables k ≡ Some table) × (count_by (λ element. holds_table circuit element table) elements ≡ 0)
IsHeldFault circuit elements (LatchTwice k place other) =
    (latch : Latch) × (slice_get circuit.latches k ≡ Some latch) × (place < other) × HoldsLatchIn circuit elements latch place × HoldsLatchIn circuit elements latch other
IsHeldFault circuit elements (NoLatch k) = (latch : Latch) × (slice_get circuit.latches k ≡ Some latch) × (count_by (λ element. holds_latch circuit element latch) elements ≡ 0)

-- the faults of tables and of latches
abbrev pub of_tables : OnceFault → HeldFault
of_tables (Twice k place other) = TableTwice k place other
of_tables (Never k) = NoTable k

abbrev pub of_latches : OnceFault → HeldFault
of_latches (Twice k place other) = LatchTwice k place other
of_latches (Never k) = NoLatch k
