-- The pins and BLE places that the routes of a layout take.
use Rattle.std.specs.Prelude.{ℕ, ◌==◌, Bool, false, not, List, [], ◌∷◌, Option, Some, None, count_by, filter, find, map, option_map, slice_index, take, if◌then◌else◌}
use Rattle.std.specs.List.{enumerate_from, list_any, range_with_len}
use Rattle.std.specs.Option.{option_map_or}
use Rattle.configuration.specs.Prelude.{Arch, Output, is_same_class, pairs_of, is_same_node, sink_at, source_at, Node, LaidBle, LaidBlock, Layout}
use Rattle.configuration.specs.Lines.{BlePlace}

-- the paths of the net's tree
abbrev pub paths_of : Layout → ℕ → List (List Node)
paths_of layout net = option_map_or (λ between. between.paths) (find (λ between. between.net == net) layout.nets) []

-- the node to which the first of these edges from a node leads, and the node from which the first
-- of them to a node comes
abbrev pub node_after : List (Node × Node) → Node → Option Node
node_after edges node = option_map (λ edge. edge.1) (find (λ edge. is_same_node edge.0 node) edges)

abbrev pub node_before : List (Node × Node) → Node → Option Node
node_before edges node = option_map (λ edge. edge.0) (find (λ edge. is_same_node edge.1 node) edges)

-- the pin by which the net's tree leaves the block, and the one by which it comes to the block
abbrev pub pin_out : Layout → LaidBlock → ℕ → Option Node
pin_out layout laid net = node_after (pairs_of (paths_of layout net)) (source_at laid.block laid.place)

abbrev pub pin_in : Layout → LaidBlock → ℕ → Option Node
pin_in layout laid net = node_before (pairs_of (paths_of layout net)) (sink_at laid.block laid.place)

-- the number of output pins before this pin: the BLE place whose output the pin carries
abbrev pub output_rank : Arch → ℕ → ℕ
output_rank arch pin = count_by (λ other. is_same_class Output other.class) (take pin arch.pins)

-- the place at which the routes ask the BLE to be; of several BLEs of a block that drive one net,
-- which no netlist has, the first is meant
abbrev pub routed_place : Arch → Layout → LaidBlock → ℕ → LaidBle → Option ℕ
routed_place arch layout laid index ble =
    if list_any (λ other. other.name == ble.name) (take index laid.bles) then None
    else option_map (λ pin. output_rank arch pin.n) (pin_out layout laid ble.name)

abbrev pub routed_places : Arch → Layout → LaidBlock → List (Option ℕ)
routed_places arch layout laid = map (λ ble. routed_place arch layout laid ble.0 ble.1) (enumerate_from 0 laid.bles)

-- it is that place
abbrev pub is_place : ℕ → Option ℕ → Bool
is_place place routed = option_map_or (λ other. other == place) routed false

-- the places of a block at which the routes ask for no BLE
abbrev pub free_places : ℕ → List (Option ℕ) → List ℕ
free_places count routed = filter (λ place. not (list_any (is_place place) routed)) (range_with_len 0 count)

-- each BLE is at the place at which the routes ask for it, and the others take the free places in
-- order
abbrev pub filled_places : List (Option ℕ) → List ℕ → List ℕ
filled_places [] free = []
filled_places (Some place ∷ routed) free = place ∷ filled_places routed free
filled_places (None ∷ routed) [] = 0 ∷ filled_places routed []
filled_places (None ∷ routed) (place ∷ free) = place ∷ filled_places routed free

-- the places of the block's BLEs, in order
abbrev pub ble_numbers : Arch → Layout → LaidBlock → List ℕ
ble_numbers arch layout laid = filled_places (routed_places arch layout laid) (free_places arch.cluster_size (routed_places arch layout laid))

-- the place of the block's BLE at this index
abbrev pub ble_at : Arch → Layout → LaidBlock → ℕ → BlePlace
ble_at arch layout laid index = record { x = laid.place.x; y = laid.place.y; n = slice_index (ble_numbers arch layout laid) index }
