use Rattle.pathfinder.proofs.Prelude.{◌≡◌, map, take, graph_of}
use Rattle.pathfinder.proofs.routes.nodes_on.Given as goal

abbrev pub invariant-loop-node : goal.invariant-loop-node
invariant-loop-node g l = l.nodes.items ≡ map (graph_of (g.G.StripGraph.basis l.graph)).node (take l.node-index l.path)
