use Rattle.fabric_planes.proofs.Prelude.{Terminals}
use Rattle.fabric_planes.proofs.WireBounds.{wire_bound}
use Rattle.fabric_planes.proofs.plane_place.PlanePlace.from_wire.Goals as goal

pub returns-then-planes-place-ne0-clause-bound : goal.returns-then-planes-place-ne0-clause-bound
returns-then-planes-place-ne0-clause-bound g c = λ number w n.
    let self = c.args.self.now.planes.now in
    let t : Terminals = record { source = self.source; sink = self.sink } in
    let costs = g.C.NodeCosts.costs self.costs.now in
    wire_bound c.laws.ensures.basis t costs self.starts.now self.goal self.search self.pins.now self.lasts.now self.bounded c.args.self.now.track c.args.self.now.place number c.sharp.result c.args.self.now.on_track w n (λ sum by. c.sharp.ensures number sum w n by)

pub returns-clause-bound : goal.returns-clause-bound
returns-clause-bound g c = λ number w n.
    let self = c.args.self.now.planes.now in
    let t : Terminals = record { source = self.source; sink = self.sink } in
    let costs = g.C.NodeCosts.costs self.costs.now in
    wire_bound c.laws.ensures.basis t costs self.starts.now self.goal self.search self.pins.now self.lasts.now self.bounded c.args.self.now.track c.args.self.now.place number c.from_side.result c.args.self.now.on_track w n (λ sum by. c.from_side.ensures.wire number sum w n by)
