-- Private: how one more BLE changes the outside inputs of members.
use Rattle.std.specs.Prelude.{Bool, ℕ, List, not, ◌&&◌, ◌==◌, filter}
use Rattle.std.specs.List.{flat_map}
use Rattle.ble_cluster.specs.Nets.{has}
use Rattle.ble_cluster.specs.Bles.{LogicElement}
use Rattle.ble_cluster.specs.Clusters.{outputs_of}

-- the nets that BLEs read
abbrev pub inputs_of : List LogicElement → List ℕ
inputs_of elements = flat_map (λ element. element.inputs) elements

-- the inputs of the BLE that the members don't have yet and that neither they nor the BLE drive
abbrev pub gained_inputs : List LogicElement → LogicElement → List ℕ
gained_inputs members element = filter (λ net. not (has (inputs_of members) net) && (not (has (outputs_of members) net) && not (net == element.output))) element.inputs

-- whether the BLE drives an outside input of the members
abbrev pub loses : List LogicElement → LogicElement → Bool
loses members element = has (inputs_of members) element.output && not (has (outputs_of members) element.output)
