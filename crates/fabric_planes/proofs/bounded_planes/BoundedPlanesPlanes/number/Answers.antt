use Rattle.fabric_planes.proofs.Prelude.{Terminals}
use Rattle.fabric_planes.proofs.NetRoads.{is_track}
use Rattle.fabric_planes.proofs.Numbers.{place_few}
use Rattle.fabric_planes.proofs.bounded_planes.BoundedPlanesPlanes.number.Goals as goal

pub invariant_of-at : goal.invariant_of-at
invariant_of-at g c =
    let self = c.args.self.now.planes.now in
    let t : Terminals = record { source = self.source; sink = self.sink } in
    let costs = g.C.NodeCosts.costs self.costs.now in
    let basis = g.G.StripGraph.basis self.strip.graph.now in
    record { on_track = is_track basis costs self.starts.now self.goal t c.args.track c.requires.track; in_plane = place_few c.laws.ensures.basis t costs self.starts.now self.goal self.search self.strip.layout.now.firsts.items self.strip.laid.firsts self.shown.now self.are_pins c.args.track c.args.place c.requires.place }

pub returns : goal.returns
returns g c =
    let self = c.args.self.now.planes.now in
    c.number.ensures c.requires.place
