use Rattle.fabric_planes.proofs.Prelude.{ℕ, ◌<◌, AreLowered, planes_of, AreShownTo}
use Rattle.fabric_planes.proofs.rival_bounds.Known.lower_by_source.Given as goal

abbrev pub invariant-loop-index : goal.invariant-loop-index
invariant-loop-index g l =
    let basis = g.G.StripGraph.basis l.self.planes.now.strip.graph.now in
    let cost = g.C.NodeCosts.costs l.self.planes.now.costs.now in
    let f = planes_of basis cost l.self.planes.now.starts.now l.self.planes.now.goal (record { source = l.self.planes.now.source; sink = l.self.planes.now.sink }) in
    record {
      falls : AreLowered l.fn.bounds l.bounds;
      low : (k : ℕ) → k < l.index → AreShownTo basis cost f l.self.head l.start l.self.planes.now.shown.now k l.bounds;
    }
