-- When a layout implements a circuit, by tracing: what is connected to each input, latch and port
-- is what the netlist names. No step of packing, placing or routing is in this definition.
use Rattle.std.specs.Prelude.{ℕ, ◌≡◌, ◌≢◌, ◌≤◌, Bool, true, false, ◌&&◌, ◌||◌, ◌==◌, List, [], ◌∷◌, All, AllPairs, Contains, Option, Some, count_by, filter, is_some, length, map, not, slice_get, if◌then◌else◌}
use Rattle.std.specs.List.{enumerate_from, flat_map, list_any, range_with_len}
use Rattle.std.specs.Option.{option_map_or}
use Rattle.implements.specs.Prelude.{Arch, PinClass, Input, Clock, Circuit, has, kind_of, Block, InputPad, OutputPad, Cluster, is_global, Strip, places_of, IsRouted, path_nodes, is_same_node, sink_at, source_at, capacity_of, Node}
use Rattle.implements.specs.Holding.{AreBlesOf}
use Rattle.implements.specs.Layouts.{IsFed, LaidBle, LaidBlock, LaidNet, Layout, on_pin, traced_bles}

-- it is that net
abbrev pub is_net : ℕ → Option ℕ → Bool
is_net net carried = option_map_or (λ other. other == net) carried false

-- the net is on one of the block's pins of that class
abbrev pub has_on : Arch → LaidBlock → PinClass → ℕ → Bool
has_on arch laid class net = list_any (λ pin. is_net net (on_pin arch laid class pin)) (range_with_len 0 (length arch.pins))

-- what the BLE drives leaves its block, and is that net
abbrev pub leaves_as : ℕ → LaidBle → Bool
leaves_as net ble = (ble.name == net) && is_some ble.output

-- a block drives the net: its pad, or one of its BLEs
abbrev pub drives_as : ℕ → LaidBlock → Block → Bool
drives_as net laid (InputPad input) = input == net
drives_as net laid (OutputPad output) = false
drives_as net laid (Cluster number) = list_any (leaves_as net) laid.bles

abbrev pub drives : ℕ → LaidBlock → Bool
drives net laid = drives_as net laid laid.block

-- the net is wanted at the block: at its pad, on an input pin, or on the clock pin
abbrev pub wants_as : Arch → ℕ → LaidBlock → Block → Bool
wants_as arch net laid (InputPad input) = false
wants_as arch net laid (OutputPad output) = output == net
wants_as arch net laid (Cluster number) = has_on arch laid Input net || has_on arch laid Clock net

abbrev pub wants : Arch → ℕ → LaidBlock → Bool
wants arch net laid = wants_as arch net laid laid.block

-- the sinks to which the fabric has to lead the net; a global net has none, since it has a network
-- of its own
abbrev pub sinks_of : Circuit → Arch → Layout → ℕ → List Node
sinks_of circuit arch layout net = if is_global circuit net then [] else map (λ laid. sink_at laid.block laid.place) (filter (wants arch net) layout.blocks)

-- the blocks that are listed with a net: for a global net the block that drives it, and then all
-- others at which it is wanted
abbrev pub listed_with : Circuit → Arch → Layout → ℕ → ℕ → List ℕ
listed_with circuit arch layout driver net =
    if is_global circuit net then driver ∷ map (λ block. block.0) (filter (λ block. not (block.0 == driver) && wants arch net block.1) (enumerate_from 0 layout.blocks)) else []

-- A block drives the net. From its source, edges of the fabric lead in a tree, by one output pin,
-- to the sinks of all blocks at which the net is wanted, and to no others. The pins of a class are
-- alike: the pin that the tree takes need not be the one that has the net in the block's list of
-- pins.
pub record IsLaid (circuit : Circuit) (arch : Arch) (strip : Strip) (layout : Layout) (laid : LaidNet) : Type 0 where
  pub driver : ℕ
  pub block : LaidBlock
  pub there : slice_get layout.blocks driver ≡ Some block
  pub driven : drives laid.net block ≡ true
  pub tree : IsRouted arch strip (source_at block.block block.place) (sinks_of circuit arch layout laid.net) laid.paths
  pub listed : laid.listed ≡ listed_with circuit arch layout driver laid.net

-- the input whose pad the block is, the output whose pad it is, and how many BLEs it has room for
abbrev pub input_at : Block → List ℕ
input_at (InputPad net) = net ∷ []
input_at block = []

abbrev pub output_at : Block → List ℕ
output_at (OutputPad net) = net ∷ []
output_at block = []

abbrev pub ble_places : Arch → Block → ℕ
ble_places arch (Cluster number) = arch.cluster_size
ble_places arch block = 0

-- the BLE has no more inputs than a table
abbrev pub IsNarrowBle : Arch → LaidBle → Type 0
IsNarrowBle arch ble = length ble.inputs ≤ arch.lut_size

-- The layout implements the circuit.
pub record Implements (circuit : Circuit) (arch : Arch) (strip : Strip) (layout : Layout) : Type 0 where
  -- tables and latches: each in one BLE, which receives what it reads and is clocked by its control
  pub fed : All (λ laid. All (IsFed arch laid) laid.bles) layout.blocks
  pub held : AreBlesOf circuit (traced_bles arch layout)
  pub few_bles : All (λ laid. length laid.bles ≤ ble_places arch laid.block) layout.blocks
  pub narrow : All (λ laid. All (IsNarrowBle arch) laid.bles) layout.blocks
  -- between blocks: each net that is wanted somewhere has one entry, by which it is led there from
  -- the block that drives it
  pub laid : All (IsLaid circuit arch strip layout) layout.nets
  pub all : All (λ laid. (net : ℕ) → wants arch net laid ≡ true → has (map (λ between. between.net) layout.nets) net ≡ true) layout.blocks
  pub once : AllPairs (λ between other. between.net ≢ other.net) layout.nets
  pub globals : (net : ℕ) → has layout.globals net ≡ is_global circuit net
  -- ports: a pad for each input and each output, and a place for each block
  pub inputs : flat_map (λ laid. input_at laid.block) layout.blocks ≡ circuit.inputs
  pub outputs : flat_map (λ laid. output_at laid.block) layout.blocks ≡ circuit.outputs
  pub placed : All (λ laid. Contains (places_of strip (kind_of laid.block)) laid.place) layout.blocks
  pub apart : AllPairs (λ laid other. laid.place ≢ other.place) layout.blocks
  -- nothing else: no wire and no pin is in the trees of two nets
  pub carried : (node : Node) → count_by (λ between. list_any (is_same_node node) (path_nodes between.paths)) layout.nets ≤ capacity_of arch strip node
