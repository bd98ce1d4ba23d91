use Rattle.fabric_planes.proofs.Prelude.{Terminals}
use Rattle.fabric_planes.proofs.NetRoads.{is_track}
use Rattle.fabric_planes.proofs.TrackStarts.{all_starts}
use Rattle.fabric_planes.proofs.bounded_planes.BoundedPlanesPlanes.list_starts.Goals as goal

pub list_pins-requires : goal.list_pins-requires
list_pins-requires g c =
    let self = c.args.self.now.planes.now in
    let t : Terminals = record { source = self.source; sink = self.sink } in
    let costs = g.C.NodeCosts.costs self.costs.now in
    let basis = g.G.StripGraph.basis self.strip.graph.now in
    is_track basis costs self.starts.now self.goal t c.args.track c.requires

pub add_wires-requires-clause-track : goal.add_wires-requires-clause-track
add_wires-requires-clause-track g c =
    let self = c.args.self.now.planes.now in
    let t : Terminals = record { source = self.source; sink = self.sink } in
    let costs = g.C.NodeCosts.costs self.costs.now in
    let basis = g.G.StripGraph.basis self.strip.graph.now in
    is_track basis costs self.starts.now self.goal t c.args.track c.requires

pub returns : goal.returns
returns g c =
    let self = c.args.self.now.planes.now in
    let t : Terminals = record { source = self.source; sink = self.sink } in
    let costs = g.C.NodeCosts.costs self.costs.now in
    let basis = g.G.StripGraph.basis self.strip.graph.now in
    let done = c.in_ok-add_wires.ensures in
    all_starts basis t costs self.starts.now self.goal c.laws.ensures.basis self.search c.args.self.now.planes.now.listed.now c.args.self.now.planes.now.are_listed c.args.track c.args.most c.list_pins.new.starts.items c.add_wires.new.starts.items
    done.some c.in_ok-list_pins.ensures.pins done.kept done.wires
