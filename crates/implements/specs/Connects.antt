-- What users quote: walking back from a reader over what is configured finds the driver that the
-- netlist names.
use Rattle.std.specs.Prelude.{ℕ, ◌≡◌, ◌⊎◌, true, List, Contains, Some, slice_get}
use Rattle.implements.specs.Prelude.{Arch, Circuit, Latch, LookupTable, has, OutputPad, is_global, Strip, LeadsOver, pairs_of, sink_at, source_at, is_edge, Node}
use Rattle.implements.specs.declared.feed.Feed.{Feed}
use Rattle.implements.specs.declared.feed.Feed.TheVariants.{Pin, Ble}
use Rattle.implements.specs.Holding.{holds_latch, holds_table}
use Rattle.implements.specs.Implements.{drives}
use Rattle.implements.specs.Layouts.{LaidBle, LaidBlock, LaidNet, Layout, traced_ble}

-- edges of the fabric that are closed for the net lead from the driver's source over these nodes to
-- the reader's sink
pub record LeadsTo (arch : Arch) (strip : Strip) (layout : Layout) (net : ℕ) (driver reader : LaidBlock) : Type 0 where
  pub between : LaidNet
  pub there : Contains layout.nets between
  pub same : between.net ≡ net
  pub way : List Node
  pub leads : LeadsOver (pairs_of between.paths) (sink_at reader.block reader.place) (source_at driver.block driver.place) way
  pub edges : (a b : Node) → Contains (pairs_of between.paths) (a, b) → is_edge arch strip a b ≡ true

-- the net comes to the block from a block that drives it, over the global network or over the
-- fabric
pub record ComesTo (circuit : Circuit) (arch : Arch) (strip : Strip) (layout : Layout) (reader : LaidBlock) (net : ℕ) : Type 0 where
  pub driver : LaidBlock
  pub there : Contains layout.blocks driver
  pub driven : drives net driver ≡ true
  pub way : (is_global circuit net ≡ true) ⊎ LeadsTo arch strip layout net driver reader

-- the net comes to the BLE's input from a BLE of its block that drives it, or from elsewhere
abbrev pub ComesIn : Circuit → Arch → Strip → Layout → LaidBlock → ℕ → Feed → Type 0
ComesIn circuit arch strip layout laid net (Ble place) = (ble : LaidBle) × (slice_get laid.bles place ≡ Some ble) × (ble.name ≡ net)
ComesIn circuit arch strip layout laid net (Pin pin) = ComesTo circuit arch strip layout laid net

-- a BLE of a layout
pub record Spot (layout : Layout) : Type 0 where
  pub laid : LaidBlock
  pub there : Contains layout.blocks laid
  pub ble : LaidBle
  pub inside : Contains laid.bles ble

-- the net comes to an input of the BLE
abbrev pub Receives : Circuit → Arch → Strip → (layout : Layout) → Spot layout → ℕ → Type 0
Receives circuit arch strip layout spot net = (feed : Feed) × Contains spot.ble.inputs feed × ComesIn circuit arch strip layout spot.laid net feed

-- For each table there is a BLE that holds it, and each net that the table reads comes to this BLE.
-- For each latch there is a BLE that holds it: its control comes to this BLE, and so does its data,
-- unless the BLE also holds the table that drives the data. For each output there is a pad, and the
-- output comes to it.
pub record Connects (circuit : Circuit) (arch : Arch) (strip : Strip) (layout : Layout) : Type 0 where
  pub tables : (table : LookupTable) → Contains circuit.tables table →
      (spot : Spot layout) × (holds_table circuit (traced_ble arch spot.laid spot.ble) table ≡ true) × ((net : ℕ) → has table.inputs net ≡ true → Receives circuit arch strip layout spot net)
  pub latches : (latch : Latch) → Contains circuit.latches latch →
      (spot : Spot layout) × (holds_latch circuit (traced_ble arch spot.laid spot.ble) latch ≡ true)
      × (Receives circuit arch strip layout spot latch.input ⊎ ((table : LookupTable) × (table.output ≡ latch.input) × (holds_table circuit (traced_ble arch spot.laid spot.ble) table ≡ true)))
      × ((net : ℕ) → latch.control ≡ Some net → ComesTo circuit arch strip layout spot.laid net)
  pub outputs : (net : ℕ) → Contains circuit.outputs net → (laid : LaidBlock) × Contains layout.blocks laid × (laid.block ≡ OutputPad net) × ComesTo circuit arch strip layout laid net
