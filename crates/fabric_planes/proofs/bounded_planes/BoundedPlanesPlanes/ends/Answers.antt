use Rattle.fabric_planes.proofs.Prelude.{Terminals}
use Rattle.fabric_planes.proofs.NetRoads.{is_track, is_place}
use Rattle.fabric_planes.proofs.bounded_planes.BoundedPlanesPlanes.ends.Goals as goal

pub invariant_of-at : goal.invariant_of-at
invariant_of-at g c =
    let self = c.args.self.now.planes.now in
    let t : Terminals = record { source = self.source; sink = self.sink } in
    let costs = g.C.NodeCosts.costs self.costs.now in
    let basis = g.G.StripGraph.basis self.strip.graph.now in
    record { on_track = is_track basis costs self.starts.now self.goal t c.args.track c.requires.track; in_plane = is_place basis costs self.starts.now self.goal t c.args.place c.requires.place }

pub returns-clause-value : goal.returns-clause-value
returns-clause-value g c =
    let self = c.args.self.now.planes.now in
    c.ends.ensures.value

pub returns-clause-rising : goal.returns-clause-rising
returns-clause-rising g c =
    let self = c.args.self.now.planes.now in
    c.ends.ensures.rising
