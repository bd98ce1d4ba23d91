-- The wires on the way to each stop of a path.
use Rattle.std.specs.Prelude.{ℕ, ◌≡◌, List, [], ◌∷◌, position, slice_get, Option, Some, None}
use Rattle.std.specs.Str.{bytes_eq}
use Rattle.path_stops.specs.Prelude.{Circuit, AreWires, Hop, Node, Sink, nodes_of, BlockKind, InputPad, OutputPad, Cluster, PlacedBlock, RoutedStrip, RouteNode}
use Rattle.path_stops.specs.Blocks.{net_name}
use Rattle.path_stops.specs.declared.measured.MeasuredStop.{MeasuredStop}
use Rattle.path_stops.specs.declared.stops.PathStop.{PathStop}

-- the number of a pad; 0 for a logic block
abbrev pub number_by : BlockKind → ℕ → ℕ
number_by Cluster subblock = 0
number_by InputPad subblock = subblock
number_by OutputPad subblock = subblock

abbrev pub pad_number : PlacedBlock → ℕ
pad_number block = number_by block.kind block.place.subblock

-- the sink of a block
abbrev pub sink_of : PlacedBlock → Node
sink_of block = record { x = block.place.x; kind = Sink; y = block.place.y; n = pad_number block }

-- the block of that number, if there is one
abbrev pub block_at : RoutedStrip → Option ℕ → Option PlacedBlock
block_at strip (Some block) = slice_get strip.blocks.items block
block_at strip None = None

-- the wires from the source of a route with these nodes to that sink; none if it doesn't have it
abbrev pub IsWay : List RouteNode → Node → ℕ → Type 0
IsWay nodes sink wires = (hop : Hop) × (hop.nodes.now ≡ nodes) × (hop.sink ≡ sink) × AreWires (hop ∷ []) wires

abbrev pub IsWayTo : RoutedStrip → Option ℕ → Option PlacedBlock → ℕ → Type 0
IsWayTo strip (Some net) (Some block) wires = IsWay (nodes_of strip net) (sink_of block) wires
IsWayTo strip (Some net) None wires = wires ≡ 0
IsWayTo strip None block wires = wires ≡ 0

-- the wires from the net of that name to a block; none if the net has no route
abbrev pub HasWires : RoutedStrip → List ℕ → Option ℕ → ℕ → Type 0
HasWires strip name block wires = IsWayTo strip (position (λ net. bytes_eq net.name.now name) strip.nets.items) (block_at strip block) wires

-- the wires to a block by a net; the start has no such net
abbrev pub AreWiresBy : RoutedStrip → Circuit → Option ℕ → Option ℕ → Option ℕ → Type 0
AreWiresBy strip circuit (Some net) block (Some wires) = HasWires strip (net_name circuit net) block wires
AreWiresBy strip circuit (Some net) block None = ⊥
AreWiresBy strip circuit None block wires = wires ≡ None

-- the stop with the wires on the way to it
abbrev pub IsMeasured : RoutedStrip → Circuit → PathStop → MeasuredStop → Type 0
IsMeasured strip circuit stop measured = (measured.stop ≡ stop) × AreWiresBy strip circuit stop.before stop.block measured.wires
