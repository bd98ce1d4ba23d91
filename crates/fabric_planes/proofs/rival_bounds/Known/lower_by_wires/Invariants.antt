use Rattle.fabric_planes.proofs.Prelude.{ℕ, ◌<◌, AreLowered, planes_of, AreWiresTo}
use Rattle.fabric_planes.proofs.rival_bounds.Known.lower_by_wires.Given as goal

abbrev pub invariant-loop-index : goal.invariant-loop-index
invariant-loop-index g l =
    let basis = g.G.StripGraph.basis l.self.planes.now.strip.graph.now in
    let cost = g.C.NodeCosts.costs l.self.planes.now.costs.now in
    let f = planes_of basis cost l.self.planes.now.starts.now l.self.planes.now.goal (record { source = l.self.planes.now.source; sink = l.self.planes.now.sink }) in
    record {
      falls : AreLowered l.fn.bounds l.bounds;
      low : (k : ℕ) → k < l.index → AreWiresTo basis cost f (record { source = l.self.planes.now.source; sink = l.self.planes.now.sink }) l.self.head l.self.planes.now.listed.now.wires.items k l.bounds;
    }
