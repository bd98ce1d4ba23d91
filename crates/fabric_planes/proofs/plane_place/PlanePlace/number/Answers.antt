use Rattle.fabric_planes.proofs.Prelude.{◌≡◌, ◌<◌, ◌∙◌, length, sym, arith, slice_index, get_or_default, Terminals, NO_WIRE}
use Rattle.fabric_planes.proofs.Numbers.{wire_is, pin_is, nothing_is}
use Rattle.fabric_planes.proofs.plane_place.PlanePlace.number.Goals as goal

pub index-requires : goal.index-requires
index-requires g c =
    let self = c.args.self.now.planes.now in
    omega (arith, c.args.self.now.in_plane, self.strip.laid.firsts.long)

pub returns-then-index : goal.returns-then-index
returns-then-index g c = λ there.
    let self = c.args.self.now.planes.now in
    let is = c.laws.ensures.basis in
    let t : Terminals = record { source = self.source; sink = self.sink } in
    let costs = g.C.NodeCosts.costs self.costs.now in
    let firsts = self.strip.layout.now.firsts.items in
    let b = c.args.self.now.in_plane in
    let within : c.args.self.now.place < length firsts = omega (arith, b, self.strip.laid.firsts.long) in
    let first : c.index.result.now ≡ slice_index firsts c.args.self.now.place = c.index.ensures ∙ get_or_default firsts c.args.self.now.place c.index.result.now 0 within in
    let some : slice_index firsts c.args.self.now.place ≡ NO_WIRE → ⊥ = λ e. c.if-index.true (first ∙ e) in
    wire_is is t costs self.starts.now self.goal self.search firsts self.strip.laid.firsts self.shown.now self.are_pins c.args.self.now.track c.args.self.now.place c.wire_number.result c.args.self.now.on_track b some c.wire_number.ensures

pub returns-in-Some : goal.returns-in-Some
returns-in-Some g c = λ there.
    let self = c.args.self.now.planes.now in
    let is = c.laws.ensures.basis in
    let t : Terminals = record { source = self.source; sink = self.sink } in
    let costs = g.C.NodeCosts.costs self.costs.now in
    let firsts = self.strip.layout.now.firsts.items in
    pin_is is t costs self.starts.now self.goal self.search firsts self.strip.laid.firsts self.shown.now self.are_pins c.args.self.now.track c.args.self.now.place c.in-Some.number c.in-Some.ensures.found

pub returns-in-None : goal.returns-in-None
returns-in-None g c = λ there.
    let self = c.args.self.now.planes.now in
    let is = c.laws.ensures.basis in
    let t : Terminals = record { source = self.source; sink = self.sink } in
    let costs = g.C.NodeCosts.costs self.costs.now in
    let firsts = self.strip.layout.now.firsts.items in
    let b = c.args.self.now.in_plane in
    let within : c.args.self.now.place < length firsts = omega (arith, b, self.strip.laid.firsts.long) in
    let first : c.index.result.now ≡ slice_index firsts c.args.self.now.place = c.index.ensures ∙ get_or_default firsts c.args.self.now.place c.index.result.now 0 within in
    let none : slice_index firsts c.args.self.now.place ≡ NO_WIRE = sym first ∙ c.if-index.false in
    absurd (nothing_is is t costs self.starts.now self.goal self.search firsts self.strip.laid.firsts self.shown.now self.are_pins c.args.self.now.track c.args.self.now.place there none c.in-None.ensures.none)
