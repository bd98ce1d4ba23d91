use Rattle.fabric_planes.proofs.Prelude.{◌≡◌, map, range_with_len, apart_at}
use Rattle.fabric_planes.proofs.shaped_graph.ShapedGraph.aparts.Given as goal

abbrev pub invariant-loop-at : goal.invariant-loop-at
invariant-loop-at g l = l.list.items ≡ map (apart_at (g.G.StripGraph.basis l.self.graph.now)) (range_with_len 0 l.at)
