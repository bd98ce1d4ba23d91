-- What the lines of a configuration name of the device, and where it is on the device.
use Rattle.std.specs.Prelude.{ℕ, ◌≡◌, ◌+◌, true, List, [], ◌∷◌, Contains}
use Rattle.configuration.specs.Prelude.{IsWithin, Arch, Strip, Pad, Place, places_of, Node, Ipin, is_node, node_at_offset, make_node}
use Rattle.configuration.specs.Lines.{BlePlace, ConfigurationLine, Device, Driver, Feeds, FromBle, FromGlobal, FromPin, PadAt, BleAt, PadIn, PadOut, Signal, Stores, Switch, Takes, Used, Values}

-- what a line names: a pin or a wire, a pad, or the place of a BLE
pub data Thing : Type 0 where
  NodeNamed : Node → Thing
  PadNamed : Place → Thing
  BleNamed : BlePlace → Thing

-- a driver's pad or place
abbrev pub driver_thing : Driver → Thing
driver_thing (PadAt place) = PadNamed place
driver_thing (BleAt place) = BleNamed place

-- what an input takes, if it is in its block
abbrev pub signal_things : BlePlace → Signal → List Thing
signal_things place (FromPin pin) = NodeNamed (make_node place.x Ipin place.y pin) ∷ []
signal_things place (FromBle number) = BleNamed (record { x = place.x; y = place.y; n = number }) ∷ []
signal_things place (FromGlobal number) = []

abbrev pub things_of : ConfigurationLine → List Thing
things_of (Device columns rows tracks inputs) = []
things_of (PadIn place) = PadNamed place ∷ []
things_of (PadOut place shown) = PadNamed place ∷ []
things_of (Used place) = BleNamed place ∷ []
things_of (Takes place j signal) = BleNamed place ∷ signal_things place signal
things_of (Values place bits) = BleNamed place ∷ []
things_of (Stores place type init control) = BleNamed place ∷ []
things_of (Feeds number driver) = driver_thing driver ∷ []
things_of (Switch a b) = NodeNamed a ∷ NodeNamed b ∷ []

-- the strip has it
abbrev pub IsThingOf : Arch → Strip → Thing → Type 0
IsThingOf arch strip (NodeNamed node) = is_node arch strip node ≡ true
IsThingOf arch strip (PadNamed place) = Contains (places_of strip Pad) place
IsThingOf arch strip (BleNamed place) = IsWithin 1 place.x strip.width × IsWithin 1 place.y strip.rows

-- all that the lines name is of the strip
abbrev pub NameOnly : Arch → Strip → List ConfigurationLine → Type 0
NameOnly arch strip lines = (line : ConfigurationLine) → Contains lines line → (thing : Thing) → Contains (things_of line) thing → IsThingOf arch strip thing

-- places, moved some columns to the right
abbrev pub moved_pad : ℕ → Place → Place
moved_pad columns place = record { x = place.x + columns; y = place.y; subblock = place.subblock }

abbrev pub moved_ble : ℕ → BlePlace → BlePlace
moved_ble columns place = record { x = place.x + columns; y = place.y; n = place.n }

abbrev pub moved_driver : ℕ → Driver → Driver
moved_driver columns (PadAt place) = PadAt (moved_pad columns place)
moved_driver columns (BleAt place) = BleAt (moved_ble columns place)

-- the line of a strip at that offset of its device
abbrev pub moved_line : ℕ → ConfigurationLine → ConfigurationLine
moved_line columns (Device width rows tracks inputs) = Device width rows tracks inputs
moved_line columns (PadIn place) = PadIn (moved_pad columns place)
moved_line columns (PadOut place shown) = PadOut (moved_pad columns place) shown
moved_line columns (Used place) = Used (moved_ble columns place)
moved_line columns (Takes place j signal) = Takes (moved_ble columns place) j signal
moved_line columns (Values place bits) = Values (moved_ble columns place) bits
moved_line columns (Stores place type init control) = Stores (moved_ble columns place) type init control
moved_line columns (Feeds number driver) = Feeds number (moved_driver columns driver)
moved_line columns (Switch a b) = Switch (node_at_offset columns a) (node_at_offset columns b)

-- on the device, no line of the one configuration names what a line of the other names
abbrev pub ShareNothing : ℕ → List ConfigurationLine → ℕ → List ConfigurationLine → Type 0
ShareNothing offset lines other_offset others = (line other : ConfigurationLine) → Contains lines line → Contains others other → (thing : Thing) →
    Contains (things_of (moved_line offset line)) thing → Contains (things_of (moved_line other_offset other)) thing → ⊥
