use Rattle.pathfinder.proofs.Prelude.{◌∙◌, ap, map, graph_of, Tree}
use Rattle.pathfinder.proofs.Lists.{shown_more}
use Rattle.pathfinder.proofs.routes.Routes.new.Goals as goal

pub loop-tree-preserved : goal.loop-tree-preserved
loop-tree-preserved g c =
    let node = (graph_of (g.G.StripGraph.basis c.args.graph.now)).node in
    shown_more (λ paths. map (λ path. path.items) paths.items) (λ (tree : Tree). map (λ path. map node path) tree) c.args.trees.now c.loop-tree.tree-index c.tree-item.result c.loop-tree.nets.items c.push.new.self.items c.in_ok-paths_of.field-0 c.in_ok-push.ensures.items
    (c.in_ok-paths_of.ensures ∙ ap (λ (tree : Tree). map (λ path. map node path) tree) c.tree-item.is) c.loop-tree.invariant c.loop-tree-test.true
