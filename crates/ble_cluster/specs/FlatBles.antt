-- Private: BLEs whose inputs are stored in one list.
use Rattle.std.specs.Prelude.{ℕ, ◌≤◌, List}
use Rattle.std.specs.List.{AllByRecursion}
use Rattle.ble_cluster.specs.declared.bles.BleSpan.{BleSpan}
use Rattle.ble_cluster.specs.Bles.{LogicElement}
use Rattle.ble_cluster.specs.Prelude.{part_of}

-- the BLE whose inputs are at its span of the inputs of all BLEs
abbrev pub ble_at : List ℕ → BleSpan → LogicElement
ble_at inputs ble = record { inputs = part_of inputs ble.inputs; output = ble.output; clock = ble.clock }

-- each BLE's span lies within this number of inputs
abbrev pub AreBlesWithin : ℕ → List BleSpan → Type 0
AreBlesWithin count bles = AllByRecursion (λ ble. (ble.inputs.start ≤ ble.inputs.end) × (ble.inputs.end ≤ count)) bles
