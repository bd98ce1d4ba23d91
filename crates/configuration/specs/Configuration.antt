-- The configuration of a layout.
use Rattle.std.specs.Prelude.{ℕ, ◌==◌, Bool, true, false, not, ◌&&◌, List, [], ◌∷◌, ◌++◌, Option, Some, None, codes, filter, find, is_some, map, option_and_then, option_map, slice_get, if◌then◌else◌}
use Rattle.std.specs.List.{enumerate_from, flat_map, list_any, prefix_len}
use Rattle.std.specs.Option.{option_map_or, option_to_list}
use Rattle.configuration.specs.Prelude.{JoinedLine, Arch, Input, Circuit, Latch, LookupTable, has, Block, InputPad, OutputPad, Cluster, Strip, pairs_of, is_same_node, NodeKind, Source, Sink, Node, receives, Feed, Pin, Ble, LaidBle, LaidBlock, LaidNet, Layout, on_pin, traced_ble, args_at, init_in, rows_at, type_in, bits_of, wire_bits}
use Rattle.configuration.specs.Lines.{BlePlace, ConfigurationLine, Device, Driver, Feeds, FromBle, FromGlobal, FromPin, PadAt, BleAt, PadIn, PadOut, Signal, Stores, Switch, Takes, Used, Values}
use Rattle.configuration.specs.RoutedPins.{ble_at, pin_in}

-- the number of a net on the global network, if it goes over that
abbrev pub global_number : Layout → ℕ → Option ℕ
global_number layout net = if has layout.globals net then Some (prefix_len (λ other. not (other == net)) layout.globals) else None

-- what an input with the net of a pin takes: the global net, or the pin by which the net's tree
-- comes to the block
abbrev pub signal_of : Layout → LaidBlock → ℕ → Option Signal
signal_of layout laid net = option_map_or (λ number. Some (FromGlobal number)) (global_number layout net) (option_map (λ pin. FromPin pin.n) (pin_in layout laid net))

-- what an input of a BLE takes
abbrev pub signal_for : Arch → Layout → LaidBlock → Feed → Option Signal
signal_for arch layout laid (Ble index) = Some (FromBle (ble_at arch layout laid index).n)
signal_for arch layout laid (Pin pin) = option_and_then (signal_of layout laid) (on_pin arch laid Input pin)

-- the lines of the BLE's inputs
abbrev pub input_lines : Arch → Layout → LaidBlock → BlePlace → LaidBle → List ConfigurationLine
input_lines arch layout laid place ble =
    flat_map (λ feed. map (Takes place feed.0) (option_to_list (signal_for arch layout laid feed.1))) (enumerate_from 0 ble.inputs)

-- the latch and the table that drive a net
abbrev pub latch_driving : Circuit → ℕ → Option Latch
latch_driving circuit net = find (λ latch. latch.output == net) circuit.latches

abbrev pub table_driving : Circuit → ℕ → Option LookupTable
table_driving circuit net = find (λ table. table.output == net) circuit.tables

-- the table in the BLE, if it has one: that of its net, or that of its latch's data, unless the BLE
-- has the latch alone, which then receives its data
abbrev pub table_within : Circuit → Arch → LaidBlock → LaidBle → Option LookupTable
table_within circuit arch laid ble =
    option_map_or (λ latch. if receives (traced_ble arch laid ble) (latch.input ∷ []) then None else table_driving circuit latch.input)
    (latch_driving circuit ble.name) (table_driving circuit ble.name)

-- the values of the BLE's table, those of a wire if it has a latch alone
abbrev pub values_in : List JoinedLine → Circuit → Arch → LaidBlock → LaidBle → List Bool
values_in lines circuit arch laid ble =
    option_map_or (λ table. bits_of arch.lut_size (rows_at lines table.line) table.inputs (traced_ble arch laid ble).inputs) (table_within circuit arch laid ble) (wire_bits arch.lut_size)

-- the global net that controls the BLE's latch
abbrev pub control_in : Arch → Layout → LaidBlock → LaidBle → Option ℕ
control_in arch layout laid ble = option_and_then (global_number layout) (traced_ble arch laid ble).clock

-- the line of the BLE's latch, if it has one
abbrev pub latch_lines : List JoinedLine → Circuit → Arch → Layout → LaidBlock → BlePlace → LaidBle → List ConfigurationLine
latch_lines lines circuit arch layout laid place ble =
    map (λ latch. Stores place (if is_some latch.control then type_in (args_at lines latch.line) else codes "none") (init_in (args_at lines latch.line)) (control_in arch layout laid ble))
    (option_to_list (latch_driving circuit ble.name))

-- the lines of a BLE
abbrev pub ble_lines : List JoinedLine → Circuit → Arch → Layout → LaidBlock → BlePlace → LaidBle → List ConfigurationLine
ble_lines lines circuit arch layout laid place ble =
    Used place ∷ input_lines arch layout laid place ble ++ Values place (values_in lines circuit arch laid ble) ∷ latch_lines lines circuit arch layout laid place ble

-- the lines of a block
abbrev pub block_lines_as : List JoinedLine → Circuit → Arch → Layout → LaidBlock → Block → List ConfigurationLine
block_lines_as lines circuit arch layout laid (InputPad net) = PadIn laid.place ∷ []
block_lines_as lines circuit arch layout laid (OutputPad net) = PadOut laid.place (global_number layout net) ∷ []
block_lines_as lines circuit arch layout laid (Cluster number) =
    flat_map (λ ble. ble_lines lines circuit arch layout laid (ble_at arch layout laid ble.0) ble.1) (enumerate_from 0 laid.bles)

abbrev pub block_lines : List JoinedLine → Circuit → Arch → Layout → LaidBlock → List ConfigurationLine
block_lines lines circuit arch layout laid = block_lines_as lines circuit arch layout laid laid.block

-- what drives the net in the block: its pad, or those of its BLEs whose net leaves the block
abbrev pub drivers_as : Arch → Layout → LaidBlock → ℕ → Block → List Driver
drivers_as arch layout laid net (InputPad input) = if input == net then PadAt laid.place ∷ [] else []
drivers_as arch layout laid net (OutputPad output) = []
drivers_as arch layout laid net (Cluster number) =
    map (λ ble. BleAt (ble_at arch layout laid ble.0)) (filter (λ ble. (ble.1.name == net) && is_some ble.1.output) (enumerate_from 0 laid.bles))

-- what drives the net: the first of all
abbrev pub driver_of_net : Arch → Layout → ℕ → Option Driver
driver_of_net arch layout net = slice_get (flat_map (λ laid. drivers_as arch layout laid net laid.block) layout.blocks) 0

-- the lines of the global nets
abbrev pub global_lines : Arch → Layout → List ConfigurationLine
global_lines arch layout = flat_map (λ net. map (Feeds net.0) (option_to_list (driver_of_net arch layout net.1))) (enumerate_from 0 layout.globals)

-- an edge between pins and wires: sources and sinks stand for the pins of a class
abbrev pub is_terminal : NodeKind → Bool
is_terminal Source = true
is_terminal Sink = true
is_terminal kind = false

abbrev pub is_switch : Node × Node → Bool
is_switch edge = not (is_terminal edge.0.kind) && not (is_terminal edge.1.kind)

-- the two edges are equal
abbrev pub is_same_edge : Node × Node → Node × Node → Bool
is_same_edge edge other = is_same_node edge.0 other.0 && is_same_node edge.1 other.1

-- each of the edges once, without those that are seen already
abbrev pub each_once : List (Node × Node) → List (Node × Node) → List (Node × Node)
each_once seen [] = []
each_once seen (edge ∷ edges) = if list_any (is_same_edge edge) seen then each_once seen edges else edge ∷ each_once (seen ++ edge ∷ []) edges

-- the lines of the switches of a net's tree
abbrev pub switch_lines : LaidNet → List ConfigurationLine
switch_lines between = map (λ edge. Switch edge.0 edge.1) (each_once [] (filter is_switch (pairs_of between.paths)))

-- The configuration of a layout of the circuit of these lines, on a strip of the architecture.
unfoldable pub configuration_of : List JoinedLine → Circuit → Arch → Strip → Layout → List ConfigurationLine
configuration_of lines circuit arch strip layout =
    Device strip.width strip.rows arch.tracks arch.lut_size
    ∷ flat_map (block_lines lines circuit arch layout) layout.blocks ++ (global_lines arch layout ++ flat_map switch_lines layout.nets)
