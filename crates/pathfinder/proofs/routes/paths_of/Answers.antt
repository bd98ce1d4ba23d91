use Rattle.pathfinder.proofs.Prelude.{◌∙◌, [], ap, arith, map, sym, get_or_from_slice_get, graph_of}
use Rattle.pathfinder.proofs.Lists.{shown_more}
use Rattle.pathfinder.proofs.routes.paths_of.Goals as goal

pub loop-number-preserved : goal.loop-number-preserved
loop-number-preserved g c =
    let node = (graph_of (g.G.StripGraph.basis c.args.graph.now)).node in
    let path = get_or_from_slice_get c.args.route.now c.loop-number.number c.path.result.now [] c.path.ensures in
    shown_more (λ nodes. nodes.items) (λ path. map node path) c.args.route.now c.loop-number.number [] c.loop-number.paths.items c.push.new.self.items c.in_ok-nodes_on.field-0 c.in_ok-push.ensures.items
    (c.in_ok-nodes_on.ensures ∙ ap (λ path. map node path) (sym path)) c.loop-number.invariant (omega (arith, c.loop-number-test.true, c.len-number-end.ensures))
