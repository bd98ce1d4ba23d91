-- What `check_layout` tests of a layout, and what is wrong with it.
use Rattle.std.specs.Prelude.{ℕ, ◌≡◌, ◌≢◌, ◌<◌, ◌≤◌, true, false, List, All, AllPairs, Contains, Some, count_by, length, map, slice_get}
use Rattle.std.specs.List.{flat_map, list_any}
use Rattle.std.specs.Option.{option_map_or}
use Rattle.layout_check.specs.Prelude.{Arch, Circuit, Latch, IsCircuit, LookupTable, has, LogicElement, kind_of, is_global, Strip, places_of, holds_latch, holds_table, IsLaid, IsNarrowBle, ble_places, input_at, output_at, wants, IsFed, LaidBle, LaidBlock, LaidNet, Layout, traced_ble, traced_bles, path_nodes, is_same_node, Node, capacity_of, Basis}
use Rattle.layout_check.specs.declared.fault.BleNumber.{BleNumber}
use Rattle.layout_check.specs.declared.fault.EntryFault.TheVariants.{TwoDrivers}
use Rattle.layout_check.specs.declared.fault.NetFault.TheVariants.{Entry}
use Rattle.layout_check.specs.declared.fault.Wrong.{Wrong}
use Rattle.layout_check.specs.declared.fault.Wrong.TheVariants.{Block, SamePlace, Inputs, Outputs, NotGlobal, LeftOut, SameNet, NoEntry, Unlawful, Ble, TableTwice, NoTable, LatchTwice, NoLatch, Net}
use Rattle.layout_check.specs.BlockFaults.{IsBlockFault, IsBlockRight}
use Rattle.layout_check.specs.HoldFaults.{IsHoldFault}
use Rattle.layout_check.specs.NetFaults.{IsNetFault}

-- The clauses of `Implements`, in its words, except for `held`: that each table and each latch of
-- the circuit is in exactly one BLE (`AreBlesOf`).
pub record IsConnected (circuit : Circuit) (arch : Arch) (strip : Strip) (layout : Layout) : Type 0 where
  pub fed : All (λ laid. All (IsFed arch laid) laid.bles) layout.blocks
  pub few_bles : All (λ laid. length laid.bles ≤ ble_places arch laid.block) layout.blocks
  pub narrow : All (λ laid. All (IsNarrowBle arch) laid.bles) layout.blocks
  pub laid : All (IsLaid circuit arch strip layout) layout.nets
  pub all : All (λ laid. (net : ℕ) → wants arch net laid ≡ true → has (map (λ between. between.net) layout.nets) net ≡ true) layout.blocks
  pub once : AllPairs (λ between other. between.net ≢ other.net) layout.nets
  pub globals : (net : ℕ) → has layout.globals net ≡ is_global circuit net
  pub inputs : flat_map (λ laid. input_at laid.block) layout.blocks ≡ circuit.inputs
  pub outputs : flat_map (λ laid. output_at laid.block) layout.blocks ≡ circuit.outputs
  pub placed : All (λ laid. Contains (places_of strip (kind_of laid.block)) laid.place) layout.blocks
  pub apart : AllPairs (λ laid other. laid.place ≢ other.place) layout.blocks
  pub carried : (node : Node) → count_by (λ between. list_any (is_same_node node) (path_nodes between.paths)) layout.nets ≤ capacity_of arch strip node

-- this is what the BLE with this number is when it is traced
pub record IsBleAt (arch : Arch) (blocks : List LaidBlock) (number : BleNumber) (element : LogicElement) : Type 0 where
  pub laid : LaidBlock
  pub at_block : slice_get blocks number.block ≡ Some laid
  pub ble : LaidBle
  pub at_ble : slice_get laid.bles number.ble ≡ Some ble
  pub is : traced_ble arch laid ble ≡ element

-- the BLE with this number holds the table, or the latch
abbrev pub HoldsTableAt : Circuit → Arch → Layout → LookupTable → BleNumber → Type 0
HoldsTableAt circuit arch layout table number = (element : LogicElement) × IsBleAt arch layout.blocks number element × (holds_table circuit element table ≡ true)

abbrev pub HoldsLatchAt : Circuit → Arch → Layout → Latch → BleNumber → Type 0
HoldsLatchAt circuit arch layout latch number = (element : LogicElement) × IsBleAt arch layout.blocks number element × (holds_latch circuit element latch ≡ true)

-- what it says that something is wrong
abbrev pub IsWrong : Circuit → Basis → Layout → Wrong → Type 0
IsWrong circuit basis layout (Block number fault) = (laid : LaidBlock) × (slice_get layout.blocks number ≡ Some laid) × IsBlockFault basis.arch basis.strip laid fault
IsWrong circuit basis layout (SamePlace number other) = (number < other) × (laid : LaidBlock) × (also : LaidBlock) × (slice_get layout.blocks number ≡ Some laid) × (slice_get layout.blocks other ≡ Some also) × (laid.place ≡ also.place)
IsWrong circuit basis layout Inputs = flat_map (λ laid. input_at laid.block) layout.blocks ≡ circuit.inputs → ⊥
IsWrong circuit basis layout Outputs = flat_map (λ laid. output_at laid.block) layout.blocks ≡ circuit.outputs → ⊥
IsWrong circuit basis layout (NotGlobal net) = Contains layout.globals net × (is_global circuit net ≡ false)
IsWrong circuit basis layout (LeftOut number) = (latch : Latch) × (slice_get circuit.latches number ≡ Some latch) × (option_map_or (has layout.globals) latch.control true ≡ false)
IsWrong circuit basis layout (SameNet number other) = (number < other) × (laid : LaidNet) × (also : LaidNet) × (slice_get layout.nets number ≡ Some laid) × (slice_get layout.nets other ≡ Some also) × (laid.net ≡ also.net)
IsWrong circuit basis layout (NoEntry number) =
    (laid : LaidBlock) × (slice_get layout.blocks number ≡ Some laid) × (net : ℕ) × (wants basis.arch net laid ≡ true) × (has (map (λ between. between.net) layout.nets) net ≡ false)
IsWrong circuit basis layout (Unlawful net) = IsCircuit circuit → ⊥
IsWrong circuit basis layout (Ble number fault) = (element : LogicElement) × IsBleAt basis.arch layout.blocks number element × IsHoldFault circuit element fault
IsWrong circuit basis layout (TableTwice k number other) =
    (table : LookupTable) × (slice_get circuit.tables k ≡ Some table) × (number ≢ other) × HoldsTableAt circuit basis.arch layout table number × HoldsTableAt circuit basis.arch layout table other
IsWrong circuit basis layout (NoTable k) = (table : LookupTable) × (slice_get circuit.tables k ≡ Some table) × (count_by (λ element. holds_table circuit element table) (traced_bles basis.arch layout) ≡ 0)
IsWrong circuit basis layout (LatchTwice k number other) =
    (latch : Latch) × (slice_get circuit.latches k ≡ Some latch) × (number ≢ other) × HoldsLatchAt circuit basis.arch layout latch number × HoldsLatchAt circuit basis.arch layout latch other
IsWrong circuit basis layout (NoLatch k) = (latch : Latch) × (slice_get circuit.latches k ≡ Some latch) × (count_by (λ element. holds_latch circuit element latch) (traced_bles basis.arch layout) ≡ 0)
IsWrong circuit basis layout (Net fault) = IsNetFault circuit basis layout fault

-- Private: it contradicts only `held`, that each table and each latch of the circuit is in exactly
-- one BLE
abbrev pub IsAboutHeld : Wrong → Type 0
IsAboutHeld (Unlawful net) = Unit {0}
IsAboutHeld (Ble number fault) = Unit {0}
IsAboutHeld (TableTwice k number other) = Unit {0}
IsAboutHeld (NoTable k) = Unit {0}
IsAboutHeld (LatchTwice k number other) = Unit {0}
IsAboutHeld (NoLatch k) = Unit {0}
IsAboutHeld (Net (Entry number (TwoDrivers driver other))) = Unit {0}
IsAboutHeld wrong = ⊥

-- Private: the clauses on lists
pub record AreListsRight (circuit : Circuit) (basis : Basis) (layout : Layout) : Type 0 where
  pub right : All (IsBlockRight basis.arch basis.strip) layout.blocks
  pub apart : AllPairs (λ laid other. laid.place ≢ other.place) layout.blocks
  pub sound : (net : ℕ) → Contains layout.globals net → is_global circuit net ≡ true
  pub complete : (k : ℕ) (latch : Latch) → slice_get circuit.latches k ≡ Some latch → option_map_or (has layout.globals) latch.control true ≡ true
  pub once : AllPairs (λ between other. between.net ≢ other.net) layout.nets

-- Private: the clauses on ports
pub record ArePortsRight (circuit : Circuit) (basis : Basis) (layout : Layout) : Type 0 where
  pub inputs : flat_map (λ laid. input_at laid.block) layout.blocks ≡ circuit.inputs
  pub outputs : flat_map (λ laid. output_at laid.block) layout.blocks ≡ circuit.outputs
  pub all : All (λ laid. (net : ℕ) → wants basis.arch net laid ≡ true → has (map (λ between. between.net) layout.nets) net ≡ true) layout.blocks
