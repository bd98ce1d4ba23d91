use Rattle.fabric_planes.proofs.Prelude.{Terminals, planes_of, AreSomeStarts}
use Rattle.fabric_planes.proofs.TrackStarts.{HasPins}
use Rattle.fabric_planes.proofs.bounded_planes.BoundedPlanes.list_pins.Given as goal

abbrev pub invariant-loop-index : goal.invariant-loop-index
invariant-loop-index g l =
    let self = l.self.planes.now in
    let t : Terminals = record { source = self.source; sink = self.sink } in
    let costs = g.C.NodeCosts.costs self.costs.now in
    let basis = g.G.StripGraph.basis self.strip.graph.now in
    AreSomeStarts (planes_of basis costs self.starts.now self.goal t) l.track l.starts.items × HasPins basis t costs self.starts.now self.goal l.self.planes.now.listed.now.pins.items l.track l.index l.starts.items
