use Rattle.fabric_planes.proofs.Prelude.{◌∙◌, sym, Terminals}
use Rattle.fabric_planes.proofs.NetRoads.{places_are}
use Rattle.fabric_planes.proofs.bounded_planes.BoundedPlanesPlanes.places.Goals as goal

pub returns : goal.returns
returns g c =
    let self = c.args.self.now.planes.now in
    let t : Terminals = record { source = self.source; sink = self.sink } in
    let costs = g.C.NodeCosts.costs self.costs.now in
    let basis = g.G.StripGraph.basis self.strip.graph.now in
    c.places.ensures.value basis self.strip.laid.shape ∙ sym (places_are basis costs self.starts.now self.goal t)
