use Rattle.fabric_planes.proofs.Prelude.{◌<◌, ◌≤◌, ℕ, sides_at, graph_of, AreFew, AreLow}
use Rattle.fabric_planes.proofs.priced_graph.PricedGraph.block_bounds.Given as goal

abbrev pub invariant-loop-number : goal.invariant-loop-number
invariant-loop-number g l =
    let basis = g.G.StripGraph.basis l.self.graph.now in
    record {
      from : l.initial.number ≤ l.number;
      few : AreFew l.pins;
      each : (node : ℕ) → l.initial.number ≤ node → node < l.number → AreLow (sides_at basis.arch basis.strip ((graph_of basis).node node)) l.pins (g.C.NodeCosts.costs l.self.costs.now node);
    }
