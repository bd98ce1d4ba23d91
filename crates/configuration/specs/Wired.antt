-- What is proved of a configuration: walked back, it connects what the netlist connects.
use Rattle.std.specs.Prelude.{ℕ, ◌≡◌, ◌⊎◌, ◌<◌, ◌^◌, Bool, true, List, Contains, Option, Some, map, slice_get}
use Rattle.configuration.specs.Prelude.{JoinedLine, rows_at, bit_of, value_of, Arch, Circuit, Latch, LookupTable, has, InputPad, Strip, Place, holds_latch, holds_table, LaidBle, LaidBlock, Layout, traced_ble, Node}
use Rattle.configuration.specs.Lines.{BlePlace, ConfigurationLine, Driver, Feeds, PadAt, BleAt, PadOut, Signal, Stores, Takes, Used, Values}
use Rattle.configuration.specs.RoutedPins.{ble_at}
use Rattle.configuration.specs.Drivers.{IsShownFrom, IsTakenFrom, LeadsBack}

-- a BLE of a layout, with its index in its block
pub record Spot (layout : Layout) : Type 0 where
  pub laid : LaidBlock
  pub there : Contains layout.blocks laid
  pub index : ℕ
  pub ble : LaidBle
  pub is : slice_get laid.bles index ≡ Some ble

-- its place
abbrev pub place_of_spot : Arch → (layout : Layout) → Spot layout → BlePlace
place_of_spot arch layout spot = ble_at arch layout spot.laid spot.index

-- at this place is the pad of the net, or a BLE that drives the net
abbrev pub HoldsDriver : Arch → Layout → ℕ → Driver → Type 0
HoldsDriver arch layout net (PadAt place) = (laid : LaidBlock) × Contains layout.blocks laid × (laid.block ≡ InputPad net) × (laid.place ≡ place)
HoldsDriver arch layout net (BleAt place) = (spot : Spot layout) × (spot.ble.name ≡ net) × (place_of_spot arch layout spot ≡ place)

-- input j of the BLE's table takes a signal that, walked back, is driven by what drives the net
pub record TakesAt (arch : Arch) (strip : Strip) (layout : Layout) (lines : List ConfigurationLine) (spot : Spot layout) (j net : ℕ) : Type 0 where
  pub signal : Signal
  pub configured : Contains lines (Takes (place_of_spot arch layout spot) j signal)
  pub driver : Driver
  pub walked : IsTakenFrom arch strip lines (place_of_spot arch layout spot) signal driver
  pub held : HoldsDriver arch layout net driver

-- the BLE's latch is controlled by a global net that what drives the net feeds
pub record IsClockedBy (arch : Arch) (strip : Strip) (layout : Layout) (lines : List ConfigurationLine) (spot : Spot layout) (net : ℕ) : Type 0 where
  pub type : List ℕ
  pub init : List ℕ
  pub number : ℕ
  pub configured : Contains lines (Stores (place_of_spot arch layout spot) type init (Some number))
  pub driver : Driver
  pub walked : Contains lines (Feeds number driver)
  pub held : HoldsDriver arch layout net driver

-- the output pad shows what drives the net
pub record Shows (arch : Arch) (strip : Strip) (layout : Layout) (lines : List ConfigurationLine) (place : Place) (net : ℕ) : Type 0 where
  pub shown : Option ℕ
  pub configured : Contains lines (PadOut place shown)
  pub driver : Driver
  pub walked : IsShownFrom arch strip lines place shown driver
  pub held : HoldsDriver arch layout net driver

-- Each input of a BLE that is used takes what drives the net that comes to it. Each table of the
-- netlist is in a BLE: for each net that the table reads, an input of the BLE takes what drives
-- this net. Each latch is in a BLE too: it is controlled by what drives its control, and an input
-- takes what drives its data, unless the BLE has the table that drives the data. Each output has a
-- pad, which shows what drives it.
pub record Configures (circuit : Circuit) (arch : Arch) (strip : Strip) (layout : Layout) (lines : List ConfigurationLine) : Type 0 where
  pub used : (spot : Spot layout) → Contains lines (Used (place_of_spot arch layout spot))
  pub inputs : (spot : Spot layout) (j net : ℕ) → slice_get (traced_ble arch spot.laid spot.ble).inputs j ≡ Some net → TakesAt arch strip layout lines spot j net
  pub tables : (table : LookupTable) → Contains circuit.tables table → (spot : Spot layout) × (holds_table circuit (traced_ble arch spot.laid spot.ble) table ≡ true)
      × ((net : ℕ) → has table.inputs net ≡ true → (j : ℕ) × TakesAt arch strip layout lines spot j net)
  pub latches : (latch : Latch) → Contains circuit.latches latch → (spot : Spot layout) × (holds_latch circuit (traced_ble arch spot.laid spot.ble) latch ≡ true)
      × (((j : ℕ) × TakesAt arch strip layout lines spot j latch.input) ⊎ ((table : LookupTable) × (table.output ≡ latch.input) × (holds_table circuit (traced_ble arch spot.laid spot.ble) table ≡ true)))
      × ((net : ℕ) → latch.control ≡ Some net → IsClockedBy arch strip layout lines spot net)
  pub outputs : (net : ℕ) → Contains circuit.outputs net → (place : Place) × Shows arch strip layout lines place net

-- What one finds by walking back is all that one can find: no node is led to from two pins, and no
-- global net is fed by two drivers.
pub record HasOneDriver (arch : Arch) (strip : Strip) (lines : List ConfigurationLine) : Type 0 where
  pub led : (node : Node) (driver other : Driver) → LeadsBack arch strip lines node driver → LeadsBack arch strip lines node other → driver ≡ other
  pub fed : (number : ℕ) (driver other : Driver) → Contains lines (Feeds number driver) → Contains lines (Feeds number other) → driver ≡ other

-- The table of a BLE that holds a table of the netlist gives what the rows of that table say: its
-- bit at a number is the rows' value at the values of the inputs, by name, if the net that comes to
-- input j has the value of the number's bit j.
pub record HasValues (netlist : List JoinedLine) (circuit : Circuit) (arch : Arch) (layout : Layout) (lines : List ConfigurationLine) (spot : Spot layout) (table : LookupTable) : Type 0 where
  pub bits : List Bool
  pub configured : Contains lines (Values (place_of_spot arch layout spot) bits)
  pub given : (number : ℕ) (values : ℕ → Bool) → number < 2 ^ arch.lut_size → ((j net : ℕ) → slice_get (traced_ble arch spot.laid spot.ble).inputs j ≡ Some net → values net ≡ bit_of number j) →
      slice_get bits number ≡ Some (value_of (rows_at netlist table.line) (map values table.inputs))

-- No two BLEs of the layout are at one place.
abbrev pub AreBlesApart : Arch → Layout → Type 0
AreBlesApart arch layout = (spot other : Spot layout) → place_of_spot arch layout spot ≡ place_of_spot arch layout other → (spot.laid ≡ other.laid) × (spot.index ≡ other.index)
