-- The blocks of a strip, by the names of a netlist.
use Rattle.std.specs.Prelude.{ℕ, ◌==◌, Bool, true, false, List, [], codes, drop, find, length, position, slice_index_or, take, min, ◌&&◌, Option, Some, None}
use Rattle.std.specs.List.{list_any, range_with_len}
use Rattle.std.specs.Str.{bytes_eq}
use Rattle.path_stops.specs.Prelude.{Circuit, Latch, elements_of, BlockKind, InputPad, OutputPad, Cluster, PlacedBlock, RoutedStrip}

-- the name of a net; empty if there is no such net
abbrev pub net_name : Circuit → ℕ → List ℕ
net_name circuit net = slice_index_or circuit.nets net []

abbrev pub is_input_pad : BlockKind → Bool
is_input_pad InputPad = true
is_input_pad OutputPad = false
is_input_pad Cluster = false

abbrev pub is_output_pad : BlockKind → Bool
is_output_pad InputPad = false
is_output_pad OutputPad = true
is_output_pad Cluster = false

-- the input pad of that name
abbrev pub is_input : List ℕ → PlacedBlock → Bool
is_input name block = is_input_pad block.kind && bytes_eq block.name.now name

abbrev pub input_pad : RoutedStrip → List ℕ → Option ℕ
input_pad strip name = position (is_input name) strip.blocks.items

-- the output pad that reads the net of that name
abbrev pub is_output : List ℕ → PlacedBlock → Bool
is_output name block = is_output_pad block.kind && (bytes_eq (take (min (length block.name.now) 4) block.name.now) (codes "out:") && bytes_eq (drop (min (length block.name.now) 4) block.name.now) name)

abbrev pub output_pad : RoutedStrip → List ℕ → Option ℕ
output_pad strip name = position (is_output name) strip.blocks.items

-- the block with the BLE of that name
abbrev pub has_element : RoutedStrip → List ℕ → ℕ → Bool
has_element strip name block = list_any (λ element. bytes_eq element.now name) (elements_of strip block)

abbrev pub block_named : RoutedStrip → List ℕ → Option ℕ
block_named strip name = find (has_element strip name) (range_with_len 0 (length strip.blocks.items))

-- the first latch that reads a net, and the block with its BLE
abbrev pub latch_storing : Circuit → ℕ → Option Latch
latch_storing circuit net = find (λ latch. latch.input == net) circuit.latches

abbrev pub stored_block : RoutedStrip → Circuit → Option Latch → Option ℕ
stored_block strip circuit (Some latch) = block_named strip (net_name circuit latch.output)
stored_block strip circuit None = None

-- the first, or else the other
abbrev pub or_else : Option ℕ → Option ℕ → Option ℕ
or_else (Some block) other = Some block
or_else None other = other

-- the block that drives a net: the input pad or the block with the BLE of that name, or the block
-- whose BLE also has the latch that reads the net, and has its name
abbrev pub driver_block : RoutedStrip → Circuit → ℕ → Option ℕ
driver_block strip circuit net =
    or_else (input_pad strip (net_name circuit net)) (or_else (block_named strip (net_name circuit net)) (stored_block strip circuit (latch_storing circuit net)))
