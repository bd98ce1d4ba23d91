-- Walking back over the lines of a configuration.
use Rattle.std.specs.Prelude.{ℕ, ◌≡◌, List, Contains, Option, Some, None, if◌then◌else◌}
use Rattle.configuration.specs.Prelude.{Arch, place_at, Strip, Place, LeadsOver, Opin, Ipin, Node, is_pad_row, make_node}
use Rattle.configuration.specs.Lines.{BlePlace, ConfigurationLine, Driver, Feeds, FromBle, FromGlobal, FromPin, PadAt, BleAt, Signal, switches_of}
use Rattle.configuration.specs.RoutedPins.{output_rank}

-- what drives an output pin: its pad, or the BLE of its block whose output it carries
abbrev pub driver_at : Arch → Strip → Node → Driver
driver_at arch strip pin = if is_pad_row strip pin.y then PadAt (place_at pin.x pin.y pin.n) else BleAt (record { x = pin.x; y = pin.y; n = output_rank arch pin.n })

-- switches that are closed lead from an output pin over wires to the node, and this drives the pin
pub record LeadsBack (arch : Arch) (strip : Strip) (lines : List ConfigurationLine) (node : Node) (driver : Driver) : Type 0 where
  pub pin : Node
  pub is_output : pin.kind ≡ Opin
  pub way : List Node
  pub leads : LeadsOver (switches_of lines) node pin way
  pub driven : driver_at arch strip pin ≡ driver

-- walked back over the lines, this drives what an input of the BLE takes
abbrev pub IsTakenFrom : Arch → Strip → List ConfigurationLine → BlePlace → Signal → Driver → Type 0
IsTakenFrom arch strip lines place (FromPin pin) driver = LeadsBack arch strip lines (make_node place.x Ipin place.y pin) driver
IsTakenFrom arch strip lines place (FromBle number) driver = driver ≡ BleAt (record { x = place.x; y = place.y; n = number })
IsTakenFrom arch strip lines place (FromGlobal number) driver = Contains lines (Feeds number driver)

-- walked back, this drives what an output pad shows
abbrev pub IsShownFrom : Arch → Strip → List ConfigurationLine → Place → Option ℕ → Driver → Type 0
IsShownFrom arch strip lines place None driver = LeadsBack arch strip lines (make_node place.x Ipin place.y place.subblock) driver
IsShownFrom arch strip lines place (Some number) driver = Contains lines (Feeds number driver)
