use Rattle.fabric_planes.proofs.Prelude.{◌+◌, Terminals}
use Rattle.fabric_planes.proofs.NetRoads.{exit_of}
use Rattle.fabric_planes.proofs.WireBounds.{bound_at_exit}
use Rattle.fabric_planes.proofs.plane_place.PlanePlace.within.Goals as goal

pub returns-then-not-may_cost-clause-more : goal.returns-then-not-may_cost-clause-more
returns-then-not-may_cost-clause-more g c = λ number w n.
    let self = c.args.self.now.planes.now in
    let t : Terminals = record { source = self.source; sink = self.sink } in
    let costs = g.C.NodeCosts.costs self.costs.now in
    let basis = g.G.StripGraph.basis self.strip.graph.now in
    bound_at_exit basis t costs self.starts.now self.goal c.args.self.now.track c.args.self.now.place self.exit (c.args.most + 1) (exit_of basis costs self.starts.now self.goal t self.search self.exit self.exit_is) (c.may_cost.ensures.more c.if-not-may_cost.true)
