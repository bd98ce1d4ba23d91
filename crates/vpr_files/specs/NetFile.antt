-- The `.net` file of a packed circuit: its global nets, and its blocks with the nets on their pins.
use Rattle.std.specs.Prelude.{ℕ, false, ◌&&◌, ◌==◌, List, [], ◌∷◌, ◌++◌, map, filter, codes, decimal, position, option_and_then, slice_get, Option, if◌then◌else◌}
use Rattle.std.specs.List.{flat_map, list_any, range_with_len, zip}
use Rattle.std.specs.Option.{option_map_or}
use Rattle.vpr_files.specs.Prelude.{PinClass, Input, Output, Clock, Block, InputPad, OutputPad, Cluster, LogicElement, PackedCircuit, outputs_of, blocks_of, block_name, block_nets, elements_in, is_same_class, net_name, pins_of}
use Rattle.vpr_files.specs.TextLines.{text_of}

-- the word for a number, or `open` if there is no number
abbrev pub or_open : (ℕ → List ℕ) → Option ℕ → List ℕ
or_open word number = option_map_or word number (codes "open")

-- the number of the pin of this class that carries the net
abbrev pub pin_with : PackedCircuit → ℕ → PinClass → ℕ → Option ℕ
pin_with packed cluster class net = position (λ pin. is_same_class class pin.0.class && option_map_or (λ carried. carried == net) pin.1 false) (zip packed.arch.pins (pins_of packed cluster))

-- the index in the cluster of the BLE that drives the net
abbrev pub driver_place : PackedCircuit → ℕ → ℕ → Option ℕ
driver_place packed cluster net = position (λ output. output == net) (outputs_of (elements_in packed cluster))

-- the source of an input: a BLE of the cluster, or else a pin
abbrev pub input_word : PackedCircuit → ℕ → ℕ → List ℕ
input_word packed cluster net = option_map_or (λ place. codes "ble_" ++ decimal place) (driver_place packed cluster net) (or_open decimal (pin_with packed cluster Input net))

-- the line of a BLE: its name, a word for each possible input of a table, its output and its clock
abbrev pub element_line : PackedCircuit → ℕ → LogicElement → List (List ℕ)
element_line packed cluster element =
    codes "subblock:" ∷ net_name packed.circuit element.output
    ∷ map (λ place. or_open (input_word packed cluster) (slice_get element.inputs place)) (range_with_len 0 packed.arch.lut_size)
    ++ or_open decimal (pin_with packed cluster Output element.output) ∷ or_open decimal (option_and_then (pin_with packed cluster Clock) element.clock) ∷ []

-- the lines of a block: its keyword and its name, the nets on its pins, the lines of its BLEs, and
-- an empty line
abbrev pub block_lines : PackedCircuit → Block → List (List (List ℕ))
block_lines packed (InputPad net) = (codes ".input" ∷ block_name packed (InputPad net) ∷ []) ∷ (codes "pinlist:" ∷ net_name packed.circuit net ∷ []) ∷ [] ∷ []
block_lines packed (OutputPad net) = (codes ".output" ∷ block_name packed (OutputPad net) ∷ []) ∷ (codes "pinlist:" ∷ net_name packed.circuit net ∷ []) ∷ [] ∷ []
block_lines packed (Cluster cluster) =
    (codes ".clb" ∷ block_name packed (Cluster cluster) ∷ []) ∷ (codes "pinlist:" ∷ map (or_open (net_name packed.circuit)) (pins_of packed cluster))
    ∷ map (element_line packed cluster) (elements_in packed cluster) ++ [] ∷ []

-- the bytes of the `.net` file: the global nets, followed by an empty line if there are any, and
-- the blocks
unfoldable pub net_text_of : PackedCircuit → List ℕ
net_text_of packed = text_of (
    map (λ net. codes ".global" ∷ net_name packed.circuit net.net ∷ []) (filter (λ net. net.global) (block_nets packed))
    ++ (if list_any (λ net. net.global) (block_nets packed) then [] ∷ [] else [])
    ++ flat_map (block_lines packed) (blocks_of packed))
