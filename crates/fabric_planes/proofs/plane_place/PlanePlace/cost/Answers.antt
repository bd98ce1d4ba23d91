use Rattle.fabric_planes.proofs.Prelude.{◌≡◌, ◌∙◌, ℕ, ◌+◌, ◌*◌, ◌≤◌, length, ap, arith, slice_index, Terminals, mul-le, place_count}
use Rattle.fabric_planes.proofs.Numbers.{price_is}
use Rattle.fabric_planes.proofs.plane_place.PlanePlace.cost.Goals as goal

pub bounds-planes-track : goal.bounds-planes-track
bounds-planes-track g c =
    let self = c.args.self.now.planes.now in
    let basis = g.G.StripGraph.basis self.strip.graph.now in
    let places : ℕ = place_count basis in
    let m : (c.args.self.now.track + 1) * places ≤ basis.arch.tracks * places = mul-le (c.args.self.now.track + 1) places basis.arch.tracks places (omega (arith, c.args.self.now.on_track)) (omega arith) in
    let e : (c.args.self.now.track + 1) * places ≡ c.args.self.now.track * places + places = grind arith in
    let f : c.args.self.now.track * length self.aheads.now ≡ c.args.self.now.track * places = ap (λ (n : ℕ). c.args.self.now.track * n) self.are_aheads.long in
    omega (arith, m, e, f, c.args.self.now.in_plane, self.are_prices.long)

pub returns-then-price : goal.returns-then-price
returns-then-price g c =
    let self = c.args.self.now.planes.now in
    let is = c.laws.ensures.basis in
    let t : Terminals = record { source = self.source; sink = self.sink } in
    let costs = g.C.NodeCosts.costs self.costs.now in
    let firsts = self.strip.layout.now.firsts.items in
    let basis = g.G.StripGraph.basis self.strip.graph.now in
    let f : c.args.self.now.track * length self.aheads.now + c.args.self.now.place ≡ c.args.self.now.track * place_count basis + c.args.self.now.place = ap (λ (n : ℕ). c.args.self.now.track * n + c.args.self.now.place) self.are_aheads.long in
    ap (slice_index self.prices.now) f ∙ price_is is t costs self.starts.now self.goal self.search firsts self.strip.laid.firsts self.shown.now self.are_pins self.prices.now self.are_prices c.args.self.now.track c.args.self.now.place c.args.self.now.on_track c.args.self.now.in_plane (λ e. c.if-price.true (ap (slice_index self.prices.now) f ∙ e))
