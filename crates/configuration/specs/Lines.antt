-- The lines of a configuration: what a device is loaded with. No net's name is in them.
use Rattle.std.specs.Prelude.{ℕ, Bool, List, [], ◌∷◌, Option}
use Rattle.std.specs.List.{flat_map}
use Rattle.configuration.specs.Prelude.{Place, Node}
pub use Rattle.configuration.specs.declared.line.BlePlace.{BlePlace}
pub use Rattle.configuration.specs.declared.line.Driver.{Driver}
pub use Rattle.configuration.specs.declared.line.Driver.TheVariants.{PadAt, BleAt}
pub use Rattle.configuration.specs.declared.line.Signal.{Signal}
pub use Rattle.configuration.specs.declared.line.Signal.TheVariants.{FromPin, FromBle, FromGlobal}

pub data ConfigurationLine : Type 0 where
  -- the device's columns, rows and tracks, and the inputs of a table
  Device : ℕ → ℕ → ℕ → ℕ → ConfigurationLine
  -- a pad drives its output pin
  PadIn : Place → ConfigurationLine
  -- a pad shows what its input pin carries, or a global net
  PadOut : Place → Option ℕ → ConfigurationLine
  -- a BLE is used; the output pin of its block with the BLE's number carries what it drives
  Used : BlePlace → ConfigurationLine
  -- what an input of the BLE's table takes
  Takes : BlePlace → ℕ → Signal → ConfigurationLine
  -- the table's values, by the number that its inputs' values make: input j is bit j
  Values : BlePlace → List Bool → ConfigurationLine
  -- the BLE has a latch: its type, its initial value, and the global net that controls it
  Stores : BlePlace → List ℕ → List ℕ → Option ℕ → ConfigurationLine
  -- what drives a global net
  Feeds : ℕ → Driver → ConfigurationLine
  -- an edge of the fabric that is closed
  Switch : Node → Node → ConfigurationLine

-- the edges that are closed, each from one node to another
abbrev pub switch_in : ConfigurationLine → List (Node × Node)
switch_in (Switch a b) = (a, b) ∷ []
switch_in line = []

abbrev pub switches_of : List ConfigurationLine → List (Node × Node)
switches_of lines = flat_map switch_in lines
