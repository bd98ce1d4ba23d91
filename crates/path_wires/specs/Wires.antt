-- The wires of a path over routed nets.
use Rattle.std.specs.Prelude.{ℕ, ◌≡◌, ◌+◌, ◌-◌, ◌^◌, ◌≤◌, ◌<◌, ◌==◌, ◌&&◌, Bool, true, false, List, [], ◌∷◌, length, take, position, Option, Some, None, slice_get, slice_index_or, sum, if◌then◌else◌, min}
use Rattle.std.specs.Option.{option_map_or}
use Rattle.rr_graph.specs.Node.{rank_of}
use Rattle.rr_graph.specs.declared.node.Node.{Node}
use Rattle.rr_graph.specs.declared.node.NodeKind.{NodeKind}
use Rattle.rr_graph.specs.declared.node.NodeKind.TheVariants.{Source, Sink, Opin, Ipin, ChanX, ChanY}
use Rattle.strip_files.specs.declared.route_node.RouteNode.{RouteNode}
use Rattle.path_wires.specs.declared.hops.Hop.{Hop}

-- both are the same node
abbrev pub is_same : Node → Node → Bool
is_same node other = (node.x == other.x) && (rank_of node.kind == rank_of other.kind) && (node.y == other.y) && (node.n == other.n)

-- the first index of a node in a route, if it is there
abbrev pub place_of : List RouteNode → Node → Option ℕ
place_of nodes node = position (λ read. is_same node read.node) nodes

-- a sink ends a path of a route
abbrev pub is_sink : NodeKind → Bool
is_sink Sink = true
is_sink Source = false
is_sink Opin = false
is_sink Ipin = false
is_sink ChanX = false
is_sink ChanY = false

-- the wires of a node: one if it is a wire of a channel
abbrev pub wires_of : NodeKind → ℕ
wires_of ChanX = 1
wires_of ChanY = 1
wires_of Source = 0
wires_of Sink = 0
wires_of Opin = 0
wires_of Ipin = 0

-- the node at an index, and the wires on the way to it
abbrev pub no_node : Node
no_node = record { x = 0; kind = Source; y = 0; n = 0 }

abbrev pub node_at : List RouteNode → ℕ → Node
node_at nodes place = option_map_or (λ read. read.node) (slice_get nodes place) no_node

abbrev pub wires_at : List ℕ → ℕ → ℕ
wires_at depths place = slice_index_or depths place 0

-- the wires on the way to a node that is among the first ones
abbrev pub at_first : List ℕ → Option ℕ → ℕ
at_first depths (Some place) = wires_at depths place
at_first depths None = 0

abbrev pub earlier_depth : List RouteNode → List ℕ → Node → ℕ
earlier_depth nodes depths node = at_first depths (place_of nodes node)

-- the wires on the way to the node at that index, from those on the ways to the nodes before it:
-- those to the node before, and its own; the first node of a later path is on the way already
abbrev pub depth_at : List RouteNode → List ℕ → ℕ → ℕ
depth_at nodes depths place =
    if place == 0 then 0
    else if is_sink (node_at nodes (place - 1)).kind then earlier_depth nodes depths (node_at nodes place)
    else wires_at depths (place - 1) + wires_of (node_at nodes place).kind

-- these are the wires on the ways to the nodes of a route
pub record AreDepths (nodes : List RouteNode) (depths : List ℕ) : Type 0 where
  pub long : length depths ≡ length nodes
  pub each : (place : ℕ) → place < length nodes → wires_at depths place ≡ depth_at nodes (take place depths) place

-- private: those of the first nodes
abbrev pub AreUpTo : List RouteNode → List ℕ → ℕ → Type 0
AreUpTo nodes depths count = (place : ℕ) → place < count → wires_at depths place ≡ depth_at nodes (take place depths) place

-- private: no way has more wires than there are nodes before
abbrev pub AreSmall : List ℕ → Type 0
AreSmall depths = (place : ℕ) → place < length depths → wires_at depths place ≤ place

-- the wires on the way to the sink of a hop; none if its route doesn't have the sink
abbrev pub IsWireCount : Hop → ℕ → Type 0
IsWireCount hop wires = (depths : List ℕ) × AreDepths hop.nodes.now depths × (wires ≡ at_first depths (place_of hop.nodes.now hop.sink))

-- a wire count for each hop
abbrev pub AreCounts : List Hop → List ℕ → Type 0
AreCounts [] [] = Unit {0}
AreCounts [] (count ∷ counts) = ⊥
AreCounts (hop ∷ hops) [] = ⊥
AreCounts (hop ∷ hops) (count ∷ counts) = IsWireCount hop count × AreCounts hops counts

-- the wires of a path: those of its hops together, as far as 64 bits hold them
abbrev pub AreWires : List Hop → ℕ → Type 0
AreWires hops wires = (counts : List ℕ) × AreCounts hops counts × (wires ≡ min (sum counts) (2 ^ 64 - 1))
