use Rattle.pathfinder.proofs.Prelude.{◌≡◌, map, take, graph_of}
use Rattle.pathfinder.proofs.routes.paths_of.Given as goal

abbrev pub invariant-loop-number : goal.invariant-loop-number
invariant-loop-number g l = map (λ path. path.items) l.paths.items ≡ map (λ path. map (graph_of (g.G.StripGraph.basis l.graph)).node path) (take l.number l.route)
