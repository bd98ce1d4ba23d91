use Rattle.fabric_planes.proofs.Prelude.{◌+◌, ◌∙◌, ap}
use Rattle.fabric_planes.proofs.Bounded.{side_low}
use Rattle.fabric_planes.proofs.plane_place.PlanePlace.from_side.Goals as goal

pub returns-in-Some-clause-wire : goal.returns-in-Some-clause-wire
returns-in-Some-clause-wire g c = λ number sum w n by.
    let self = c.args.self.now.planes.now in
    let found = c.in-Some.ensures.found in
    side_low (g.G.StripGraph.basis self.strip.graph.now) self.sink self.pins.now self.lasts.now self.least_lasts.now self.sides.now c.args.self.now.track c.in-Some.side.number c.args.self.now.place number sum (c.min.result + 1)
    self.are_sides self.are_least c.args.self.now.on_track c.in-Some.side.few found w n by (ap (λ r. r + 1) c.min.ensures)

pub returns-in-Some-clause-pin : goal.returns-in-Some-clause-pin
returns-in-Some-clause-pin g c = λ x offset pin at.
    let found = c.in-Some.ensures.found in
    absurd (c.args.self.now.planes.now.are_sides.no_pin c.in-Some.side.number x offset c.in-Some.side.few pin (found ∙ at))
