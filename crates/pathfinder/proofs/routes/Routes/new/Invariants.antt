use Rattle.pathfinder.proofs.Prelude.{◌≡◌, map, take, graph_of}
use Rattle.pathfinder.proofs.routes.Routes.new.Given as goal

abbrev pub invariant-loop-tree : goal.invariant-loop-tree
invariant-loop-tree g l =
    map (λ paths. map (λ path. path.items) paths.items) l.nets.items
    ≡ map (λ tree. map (λ path. map (graph_of (g.G.StripGraph.basis l.graph)).node path) tree) (take l.tree-index l.trees)
