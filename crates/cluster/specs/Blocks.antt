-- A packed circuit as placing and routing see it: blocks, the nets between them, and the pins of
-- clusters.
use Rattle.std.specs.Prelude.{ℕ, ◌+◌, Bool, false, not, nat_lt, ◌&&◌, ◌||◌, ◌==◌, List, [], ◌∷◌, ◌++◌, map, filter, length, take, count_by, codes, slice_get, option_and_then, Option, Some, None, if◌then◌else◌}
use Rattle.std.specs.List.{flat_map, range_with_len, enumerate_from, slice_index_or}
use Rattle.std.specs.Option.{option_map_or, option_to_list}
use Rattle.cluster.specs.Prelude.{PinClass, Input, Output, Clock, is_input_class, is_output_class, is_clock_class, Circuit, has, LogicElement, bles_of, elements_at, outputs_of, clocks_of, outside_inputs}
use Rattle.cluster.specs.declared.block.Block.{Block}
use Rattle.cluster.specs.declared.block.Block.TheVariants.{InputPad, OutputPad, Cluster}
use Rattle.cluster.specs.Clusters.{PackedCircuit}

-- the BLEs of this cluster
abbrev pub elements_in : PackedCircuit → ℕ → List LogicElement
elements_in packed cluster = elements_at (bles_of packed.circuit) (slice_index_or packed.clusters cluster [])

-- the blocks, by number: a pad for each input, a pad for each output, and the clusters
abbrev pub blocks_of : PackedCircuit → List Block
blocks_of packed = map InputPad packed.circuit.inputs ++ map OutputPad packed.circuit.outputs ++ map Cluster (range_with_len 0 (length packed.clusters))

abbrev pub net_name : Circuit → ℕ → List ℕ
net_name circuit net = slice_index_or circuit.nets net []

-- the name of a block: that of a pad's net, with `out:` before it for an output pad, and that of
-- the net that a cluster's seed drives
abbrev pub block_name : PackedCircuit → Block → List ℕ
block_name packed (InputPad net) = net_name packed.circuit net
block_name packed (OutputPad net) = codes "out:" ++ net_name packed.circuit net
block_name packed (Cluster cluster) = option_map_or (λ seed. net_name packed.circuit seed.output) (slice_get (elements_in packed cluster) 0) []

-- a net that controls a latch is global: it uses the global network
abbrev pub is_global : Circuit → ℕ → Bool
is_global circuit net = has (flat_map (λ latch. option_to_list latch.control) circuit.latches) net

-- a block reads the net: an output pad whose net it is, or a cluster that has it on an input pin or
-- on the clock pin
abbrev pub reads_net : PackedCircuit → ℕ → Block → Bool
reads_net packed net (InputPad input) = false
reads_net packed net (OutputPad output) = output == net
reads_net packed net (Cluster cluster) = has (outside_inputs (elements_in packed cluster)) net || has (clocks_of (elements_in packed cluster)) net

-- the numbers of the blocks that read the net, without its driver
abbrev pub readers_of : PackedCircuit → ℕ → ℕ → List ℕ
readers_of packed driver net = map (λ block. block.0) (filter (λ block. not (block.0 == driver) && reads_net packed net block.1) (enumerate_from 0 (blocks_of packed)))

-- a net that a cluster drives leaves it if another block reads it, or if it is global
abbrev pub leaves_block : PackedCircuit → ℕ → ℕ → Bool
leaves_block packed driver net = is_global packed.circuit net || nat_lt 0 (length (readers_of packed driver net))

-- the nets that a block drives, in the order of its BLEs
abbrev pub nets_from : PackedCircuit → ℕ → Block → List ℕ
nets_from packed driver (InputPad net) = net ∷ []
nets_from packed driver (OutputPad net) = []
nets_from packed driver (Cluster cluster) = filter (leaves_block packed driver) (outputs_of (elements_in packed cluster))

-- a net of the packing: its number in the circuit, the block that drives it, the blocks that read
-- it, in order, and whether it is global
pub record BlockNet : Type 0 where
  pub net : ℕ
  pub driver : ℕ
  pub readers : List ℕ
  pub global : Bool

abbrev pub block_net : PackedCircuit → ℕ → ℕ → BlockNet
block_net packed driver net = record { net = net; driver = driver; readers = readers_of packed driver net; global = is_global packed.circuit net }

-- the nets, ordered by driving block, then by BLE
abbrev pub block_nets : PackedCircuit → List BlockNet
block_nets packed = flat_map (λ block. map (block_net packed block.0) (nets_from packed block.0 block.1)) (enumerate_from 0 (blocks_of packed))

-- the net on the pin with this class and rank of a cluster; an open pin has none, such as that of
-- an output that doesn't leave the cluster
abbrev pub net_on_pin : PackedCircuit → ℕ → PinClass → ℕ → Option ℕ
net_on_pin packed cluster Input rank = slice_get (outside_inputs (elements_in packed cluster)) rank
net_on_pin packed cluster Output rank =
    option_and_then (λ net. if leaves_block packed (length packed.circuit.inputs + length packed.circuit.outputs + cluster) net then Some net else None)
    (slice_get (outputs_of (elements_in packed cluster)) rank)
net_on_pin packed cluster Clock rank = slice_get (clocks_of (elements_in packed cluster)) rank

-- the two classes are equal
abbrev pub is_same_class : PinClass → PinClass → Bool
is_same_class Input class = is_input_class class
is_same_class Output class = is_output_class class
is_same_class Clock class = is_clock_class class

-- the net on each pin of the cluster, in pin order; the rank of a pin is the number of pins of its
-- class before it
abbrev pub pins_of : PackedCircuit → ℕ → List (Option ℕ)
pins_of packed cluster =
    map (λ pin. net_on_pin packed cluster pin.1.class (count_by (λ other. is_same_class pin.1.class other.class) (take pin.0 packed.arch.pins))) (enumerate_from 0 packed.arch.pins)
