-- The nodes of the strip at which placed blocks drive and read nets.
use Rattle.std.specs.Prelude.{ℕ, ◌==◌, ◌&&◌, Bool, List, [], map, if◌then◌else◌}
use Rattle.pathfinder.specs.Prelude.{Block, Cluster, PackedCircuit, BlockNet, Place, Source, Sink, Node, rank_of, make_node, block_at, place_of}

-- the number of a pad's source and sink is that of the pad; for a logic block it is a class
abbrev pub terminal_number : Block → Place → ℕ → ℕ
terminal_number (Cluster cluster) place class = class
terminal_number _ place class = place.subblock

-- the node at which a block drives a net, and the node at which it reads nets
abbrev pub source_at : Block → Place → Node
source_at block place = make_node place.x Source place.y (terminal_number block place 1)

abbrev pub sink_at : Block → Place → Node
sink_at block place = make_node place.x Sink place.y (terminal_number block place 0)

-- the source of a net, and its sinks; a global net has no sinks, since it has a network of its own
abbrev pub net_source : PackedCircuit → List Place → BlockNet → Node
net_source packed places net = source_at (block_at packed net.driver) (place_of places net.driver)

abbrev pub net_sinks : PackedCircuit → List Place → BlockNet → List Node
net_sinks packed places net = if net.global then [] else map (λ reader. sink_at (block_at packed reader) (place_of places reader)) net.readers

-- the two nodes are equal
abbrev pub is_same_node : Node → Node → Bool
is_same_node a b = (a.x == b.x) && ((rank_of a.kind == rank_of b.kind) && ((a.y == b.y) && (a.n == b.n)))
