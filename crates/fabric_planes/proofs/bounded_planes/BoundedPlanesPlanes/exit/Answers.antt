use Rattle.fabric_planes.proofs.Prelude.{Terminals}
use Rattle.fabric_planes.proofs.NetRoads.{exit_of}
use Rattle.fabric_planes.proofs.bounded_planes.BoundedPlanesPlanes.exit.Goals as goal

pub returns : goal.returns
returns g c =
    let self = c.args.self.now.planes.now in
    let t : Terminals = record { source = self.source; sink = self.sink } in
    let costs = g.C.NodeCosts.costs self.costs.now in
    let basis = g.G.StripGraph.basis self.strip.graph.now in
    exit_of basis costs self.starts.now self.goal t self.search self.exit self.exit_is
