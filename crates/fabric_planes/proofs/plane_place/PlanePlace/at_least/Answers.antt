use Rattle.fabric_planes.proofs.Bounded.{far_bound, near_bound}
use Rattle.fabric_planes.proofs.plane_place.PlanePlace.at_least.Goals as goal

pub returns-then-far-ne0 : goal.returns-then-far-ne0
returns-then-far-ne0 g c = λ rest way.
    let self = c.args.self.now.planes.now in
    far_bound c.laws.ensures.basis (record { source = self.source; sink = self.sink }) (g.C.NodeCosts.costs self.costs.now) self.starts.now self.goal self.search self.pins.now self.lasts.now self.bounded
    self.least_lasts.now self.are_least self.exit self.exit_is c.args.self.now.track c.args.self.now.place c.args.self.now.on_track rest way self.aheads.now self.are_aheads c.if-far-ne0.true

pub returns : goal.returns
returns g c = λ rest way.
    let self = c.args.self.now.planes.now in
    near_bound c.laws.ensures.basis (record { source = self.source; sink = self.sink }) (g.C.NodeCosts.costs self.costs.now) self.starts.now self.goal self.search self.pins.now self.lasts.now self.bounded
    self.least_lasts.now self.are_least self.exit self.exit_is c.args.self.now.track c.args.self.now.place c.args.self.now.on_track rest way c.from_side.result c.args.self.now.in_plane c.if-place-planes.false c.from_side.ensures.wire c.from_side.ensures.pin
