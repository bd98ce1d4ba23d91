use Rattle.fabric_planes.proofs.Prelude.{ℕ, ◌<◌, AreLowered, planes_of, AreOverSide}
use Rattle.fabric_planes.proofs.rival_bounds.Known.lower_by_output.Given as goal

abbrev pub invariant-loop-number : goal.invariant-loop-number
invariant-loop-number g l =
    let basis = g.G.StripGraph.basis l.self.planes.now.strip.graph.now in
    let cost = g.C.NodeCosts.costs l.self.planes.now.costs.now in
    let f = planes_of basis cost l.self.planes.now.starts.now l.self.planes.now.goal (record { source = l.self.planes.now.source; sink = l.self.planes.now.sink }) in
    record {
      falls : AreLowered l.fn.bounds l.bounds;
      low : (side : ℕ) → side < l.number → AreOverSide basis cost f l.self.head l.lead side l.bounds;
    }
