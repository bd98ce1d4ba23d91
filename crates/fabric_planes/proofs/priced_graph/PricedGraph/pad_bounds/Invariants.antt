use Rattle.fabric_planes.proofs.Prelude.{◌<◌, ◌≤◌, ℕ, AreFew, IsLowFor}
use Rattle.fabric_planes.proofs.priced_graph.PricedGraph.pad_bounds.Given as goal

abbrev pub invariant-loop-number : goal.invariant-loop-number
invariant-loop-number g l =
    record {
      few : AreFew l.pins;
      each : (node : ℕ) → l.initial.number ≤ node → node < l.number → IsLowFor (g.G.StripGraph.basis l.self.graph.now) (g.C.NodeCosts.costs l.self.costs.now) l.sink l.pins node;
    }
