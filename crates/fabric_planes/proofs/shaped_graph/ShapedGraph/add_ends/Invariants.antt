use Rattle.fabric_planes.proofs.Prelude.{◌≡◌, ◌++◌, take, graph_of, row_from}
use Rattle.fabric_planes.proofs.shaped_graph.ShapedGraph.add_ends.Given as goal

abbrev pub invariant-loop-end : goal.invariant-loop-end
invariant-loop-end g l =
    let basis = g.G.StripGraph.basis l.self.graph.now in
    l.list.items ≡ l.fn.list.items ++ row_from basis l.view l.base (take l.end-index ((graph_of basis).ends l.number))
