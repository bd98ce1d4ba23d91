use Rattle.fabric_planes.proofs.Prelude.{ℕ, subst, Terminals, IsLowerBound, planes_of}
use Rattle.fabric_planes.proofs.NetRoads.{is_track, is_place, exit_of}
use Rattle.fabric_planes.proofs.bounded_planes.BoundedPlanesPlanes.at_least.Goals as goal

pub invariant_of-at : goal.invariant_of-at
invariant_of-at g c =
    let self = c.args.self.now.planes.now in
    let t : Terminals = record { source = self.source; sink = self.sink } in
    let costs = g.C.NodeCosts.costs self.costs.now in
    let basis = g.G.StripGraph.basis self.strip.graph.now in
    record { on_track = is_track basis costs self.starts.now self.goal t c.args.track c.requires.track; in_plane = is_place basis costs self.starts.now self.goal t c.args.place c.requires.place }

pub returns : goal.returns
returns g c =
    let self = c.args.self.now.planes.now in
    let t : Terminals = record { source = self.source; sink = self.sink } in
    let costs = g.C.NodeCosts.costs self.costs.now in
    let basis = g.G.StripGraph.basis self.strip.graph.now in
    subst (λ (e : ℕ). IsLowerBound ((planes_of basis costs self.starts.now self.goal t).plane c.args.track) e c.args.place c.at_least.result) (exit_of basis costs self.starts.now self.goal t self.search self.exit self.exit_is) c.at_least.ensures
