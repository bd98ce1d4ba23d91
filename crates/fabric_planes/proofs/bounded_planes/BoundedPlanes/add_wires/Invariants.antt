use Rattle.fabric_planes.proofs.Prelude.{Terminals, planes_of, AddsWires, AreSomeStarts, KeepsStarts}
use Rattle.fabric_planes.proofs.bounded_planes.BoundedPlanes.add_wires.Given as goal

abbrev pub invariant-loop-index : goal.invariant-loop-index
invariant-loop-index g l =
    let self = l.self.planes.now in
    let t : Terminals = record { source = self.source; sink = self.sink } in
    let costs = g.C.NodeCosts.costs self.costs.now in
    let basis = g.G.StripGraph.basis self.strip.graph.now in
    AreSomeStarts (planes_of basis costs self.starts.now self.goal t) l.track l.starts.items × KeepsStarts l.fn.starts.items l.starts.items
    × AddsWires (planes_of basis costs self.starts.now self.goal t) l.track l.most l.index l.self.planes.now.listed.now.wires.items l.starts.items
