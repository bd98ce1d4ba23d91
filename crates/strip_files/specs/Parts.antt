-- The nodes of a net's route, and the BLEs of a block.
use Rattle.std.specs.Prelude.{ℕ, ◌+◌, List, length, take, drop, slice_get}
use Rattle.std.specs.Option.{option_map_or}
use Rattle.std.specs.Borrow.{Bor}
use Rattle.strip_files.specs.declared.reader.RoutedStrip.{RoutedStrip}
use Rattle.strip_files.specs.declared.route_node.RouteNode.{RouteNode}

-- the elements from one index up to another
abbrev pub stretch : {X : Type 0} → List X → ℕ → ℕ → List X
stretch all start end = drop start (take end all)

-- the index at which the nodes of that net's route begin; after the last net, the number of nodes
abbrev pub first_node : RoutedStrip → ℕ → ℕ
first_node strip net = option_map_or (λ net. net.first_node) (slice_get strip.nets.items net) (length strip.nodes.items)

-- the index at which the BLEs of that block begin; after the last block, the number of all BLEs
abbrev pub first_element : RoutedStrip → ℕ → ℕ
first_element strip block = option_map_or (λ block. block.first_element) (slice_get strip.blocks.items block) (length strip.elements.items)

-- the nodes of the route of the net of that number: up to the next net's first
abbrev pub nodes_of : RoutedStrip → ℕ → List RouteNode
nodes_of strip net = stretch strip.nodes.items (first_node strip net) (first_node strip (net + 1))

-- the names of the BLEs of the block of that number
abbrev pub elements_of : RoutedStrip → ℕ → List (Bor (List ℕ))
elements_of strip block = stretch strip.elements.items (first_element strip block) (first_element strip (block + 1))
