use Rattle.fabric_planes.proofs.Prelude.{◌≡◌, ◌<◌, ◌∙◌, length, sym, arith, slice_index, get_or_default, Terminals, NO_WIRE}
use Rattle.fabric_planes.proofs.Numbers.{wire_few, wire_cost, pin_cost, pin_low, no_cost}
use Rattle.fabric_planes.proofs.plane_place.PlanePlace.dear_cost.Goals as goal

pub cost-requires : goal.cost-requires
cost-requires g c =
    let self = c.args.self.now.planes.now in
    let is = c.laws.ensures.basis in
    let t : Terminals = record { source = self.source; sink = self.sink } in
    let costs = g.C.NodeCosts.costs self.costs.now in
    let firsts = self.strip.layout.now.firsts.items in
    let b = c.args.self.now.in_plane in
    let within : c.args.self.now.place < length firsts = omega (arith, b, self.strip.laid.firsts.long) in
    let first : c.index.result.now ≡ slice_index firsts c.args.self.now.place = c.index.ensures ∙ get_or_default firsts c.args.self.now.place c.index.result.now 0 within in
    let some : slice_index firsts c.args.self.now.place ≡ NO_WIRE → ⊥ = λ e. c.if-index.true (first ∙ e) in
    omega (arith, wire_few is t costs self.starts.now self.goal self.search firsts self.strip.laid.firsts self.shown.now self.are_pins c.args.self.now.track c.args.self.now.place c.wire_number.result c.args.self.now.on_track b some c.wire_number.ensures, self.counted)

pub returns-then-index : goal.returns-then-index
returns-then-index g c =
    let self = c.args.self.now.planes.now in
    let is = c.laws.ensures.basis in
    let t : Terminals = record { source = self.source; sink = self.sink } in
    let costs = g.C.NodeCosts.costs self.costs.now in
    let firsts = self.strip.layout.now.firsts.items in
    let b = c.args.self.now.in_plane in
    let within : c.args.self.now.place < length firsts = omega (arith, b, self.strip.laid.firsts.long) in
    let first : c.index.result.now ≡ slice_index firsts c.args.self.now.place = c.index.ensures ∙ get_or_default firsts c.args.self.now.place c.index.result.now 0 within in
    let some : slice_index firsts c.args.self.now.place ≡ NO_WIRE → ⊥ = λ e. c.if-index.true (first ∙ e) in
    c.cost.ensures ∙ wire_cost is t costs self.starts.now self.goal self.search firsts self.strip.laid.firsts self.shown.now self.are_pins c.args.self.now.track c.args.self.now.place c.wire_number.result c.args.self.now.on_track b some c.wire_number.ensures

pub cost-requires-in-Some : goal.cost-requires-in-Some
cost-requires-in-Some g c =
    let self = c.args.self.now.planes.now in
    let is = c.laws.ensures.basis in
    let t : Terminals = record { source = self.source; sink = self.sink } in
    let costs = g.C.NodeCosts.costs self.costs.now in
    let firsts = self.strip.layout.now.firsts.items in
    omega (arith, pin_low is t costs self.starts.now self.goal self.search firsts self.strip.laid.firsts self.shown.now self.are_pins c.args.self.now.track c.args.self.now.place c.in-Some.number c.in-Some.ensures.found, self.counted)

pub returns-in-Some : goal.returns-in-Some
returns-in-Some g c =
    let self = c.args.self.now.planes.now in
    let is = c.laws.ensures.basis in
    let t : Terminals = record { source = self.source; sink = self.sink } in
    let costs = g.C.NodeCosts.costs self.costs.now in
    let firsts = self.strip.layout.now.firsts.items in
    c.cost-in-Some.ensures ∙ pin_cost is t costs self.starts.now self.goal self.search firsts self.strip.laid.firsts self.shown.now self.are_pins c.args.self.now.track c.args.self.now.place c.in-Some.number c.in-Some.ensures.found

pub returns-in-None : goal.returns-in-None
returns-in-None g c =
    let self = c.args.self.now.planes.now in
    let is = c.laws.ensures.basis in
    let t : Terminals = record { source = self.source; sink = self.sink } in
    let costs = g.C.NodeCosts.costs self.costs.now in
    let firsts = self.strip.layout.now.firsts.items in
    let b = c.args.self.now.in_plane in
    let within : c.args.self.now.place < length firsts = omega (arith, b, self.strip.laid.firsts.long) in
    let first : c.index.result.now ≡ slice_index firsts c.args.self.now.place = c.index.ensures ∙ get_or_default firsts c.args.self.now.place c.index.result.now 0 within in
    let none : slice_index firsts c.args.self.now.place ≡ NO_WIRE = sym first ∙ c.if-index.false in
    no_cost is t costs self.starts.now self.goal self.search firsts self.strip.laid.firsts self.shown.now self.are_pins c.args.self.now.track c.args.self.now.place b none c.in-None.ensures.none
