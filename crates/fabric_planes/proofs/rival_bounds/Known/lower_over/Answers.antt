use Rattle.fabric_planes.proofs.Prelude.{◌≡◌, ℕ, ◌+◌, ◌-◌, ◌*◌, ◌^◌, ◌≤◌, List, length, take, drop, sym, ap, ◌∙◌, subst, arith, slice_index, mul-le, Node, graph_of, far_list, IsMetAt, Terminals, place_of, place_count}
use Rattle.fabric_planes.proofs.RivalSides.{met_place}
use Rattle.fabric_planes.proofs.Strips.{places_few, track_low}
use Rattle.fabric_planes.proofs.SideRows.{far_met, near_met, part_at, part_long, row_within}
use Rattle.fabric_planes.proofs.rival_bounds.Known.lower_over.Goals as goal

pub slice_bounds-costs-end : goal.slice_bounds-costs-end
slice_bounds-costs-end g c =
    let self = c.args.self.now.planes.now in
    let basis = g.G.StripGraph.basis self.strip.graph.now in
    let place = slice_index self.own_sides.now c.args.side.number in
    let n = self.strip.layout.now.shape.tracks in
    let many : n ≡ basis.arch.tracks = self.strip.laid.shape.tracks in
    let long : length self.by_place.now ≡ place_count basis * n = self.are_by_place.long ∙ ap (λ (m : ℕ). place_count basis * m) (sym many) in
    let le : (place + 1) * n ≤ place_count basis * n = row_within place (place_count basis) n c.requires.place in
    omega (arith, long, le)

pub overflow_mul-costs-2 : goal.overflow_mul-costs-2
overflow_mul-costs-2 g c =
    let self = c.args.self.now.planes.now in
    let place = slice_index self.own_sides.now c.args.side.number in
    let n = self.strip.layout.now.shape.tracks in
    let few : place + 1 ≤ 2 ^ 22 = omega (arith, c.requires.place, places_few c.laws.ensures.basis) in
    let all : (place + 1) * n ≤ 2 ^ 22 * 64 = mul-le (place + 1) n (2 ^ 22) 64 few (omega (arith, self.strip.layout.now.shape.small.few_tracks)) in
    omega (arith, all)

pub returns-in-Some-clause-row : goal.returns-in-Some-clause-row
returns-in-Some-clause-row g c = λ wire met first.
    let self = c.args.self.now.planes.now in
    let t : Terminals = record { source = self.source; sink = self.sink } in
    let costs = g.C.NodeCosts.costs self.costs.now in
    let basis = g.G.StripGraph.basis self.strip.graph.now in
    let is = c.laws.ensures.basis in
    let v = (graph_of basis).node wire in
    let place = slice_index self.own_sides.now c.args.side.number in
    let m = self.strip.layout.now.shape.tracks in
    let many : m ≡ basis.arch.tracks = self.strip.laid.shape.tracks in
    let few = track_low is wire met.wire_is in
    let own : IsMetAt basis c.node.result c.args.side.number wire = subst (λ (v : Node). IsMetAt basis v c.args.side.number wire) (sym c.node.ensures) met in
    let at : place ≡ place_of basis v = met_place is self.source ((graph_of basis).node c.args.lead.pin) self.own_sides.now c.args.side.number wire self.are_own_sides c.requires.lead.output met in
    let price : slice_index (take ((place + 1) * m - place * m) (drop (place * m) self.by_place.now)) v.n ≡ slice_index self.by_place.now (place * m + v.n) =
    part_at self.by_place.now (place * m) ((place + 1) * m) m v.n (omega arith) (omega (arith, few, many)) in
    let low : slice_index self.by_place.now (place * m + v.n) ≤ costs wire = subst (λ (k : ℕ). slice_index self.by_place.now (place * k + v.n) ≤ costs wire) (sym many) (self.are_by_place.low place wire (record { wire = met.wire_is; is_at = sym at })) in
    let found = c.in-Some.ensures.found in
    near_met is t costs self.starts.now self.goal self.search self.pins.now self.lasts.now self.bounded c.args.lead.more wire (slice_index (take ((place + 1) * m - place * m) (drop (place * m) self.by_place.now)) v.n)
    (slice_index c.apart-apart.result.now v.n) (slice_index c.lower.new.bounds v.n) met.wire_is (omega (arith, price, low)) (c.apart-apart.ensures.met wire met.wire_is own.at own.met) self.sides.now self.are_sides place at
    c.in-Some.end.number self.least_lasts.now self.are_least c.in-Some.end.few found (c.lower.ensures.row v.n first)

pub returns-in-None-clause-row : goal.returns-in-None-clause-row
returns-in-None-clause-row g c = λ wire met first.
    let self = c.args.self.now.planes.now in
    let t : Terminals = record { source = self.source; sink = self.sink } in
    let costs = g.C.NodeCosts.costs self.costs.now in
    let basis = g.G.StripGraph.basis self.strip.graph.now in
    let is = c.laws.ensures.basis in
    let v = (graph_of basis).node wire in
    let place = slice_index self.own_sides.now c.args.side.number in
    let m = self.strip.layout.now.shape.tracks in
    let many : m ≡ basis.arch.tracks = self.strip.laid.shape.tracks in
    let few = track_low is wire met.wire_is in
    let own : IsMetAt basis c.node.result c.args.side.number wire = subst (λ (v : Node). IsMetAt basis v c.args.side.number wire) (sym c.node.ensures) met in
    let at : place ≡ place_of basis v = met_place is self.source ((graph_of basis).node c.args.lead.pin) self.own_sides.now c.args.side.number wire self.are_own_sides c.requires.lead.output met in
    let price : slice_index (take ((place + 1) * m - place * m) (drop (place * m) self.by_place.now)) v.n ≡ slice_index self.by_place.now (place * m + v.n) =
    part_at self.by_place.now (place * m) ((place + 1) * m) m v.n (omega arith) (omega (arith, few, many)) in
    let low : slice_index self.by_place.now (place * m + v.n) ≤ costs wire = subst (λ (k : ℕ). slice_index self.by_place.now (place * k + v.n) ≤ costs wire) (sym many) (self.are_by_place.low place wire (record { wire = met.wire_is; is_at = sym at })) in
    let cheap = slice_index (take ((place + 1) * m - place * m) (drop (place * m) self.by_place.now)) v.n in
    let apart = slice_index c.apart-apart.result.now v.n in
    let r = slice_index c.lower-in-None.new.bounds v.n in
    let whole : length self.by_place.now ≡ place_count basis * m = self.are_by_place.long ∙ ap (λ (k : ℕ). place_count basis * k) (sym many) in
    let below : (place + 1) * m ≤ place_count basis * m = row_within place (place_count basis) m c.requires.place in
    let fits : (place + 1) * m ≤ length self.by_place.now = omega (arith, whole, below) in
    let long : length (take ((place + 1) * m - place * m) (drop (place * m) self.by_place.now)) ≡ basis.arch.tracks = part_long self.by_place.now (place * m) ((place + 1) * m) m basis.arch.tracks (omega arith) many fits in
    far_met is t costs self.starts.now self.goal self.search self.pins.now self.lasts.now self.bounded c.args.lead.more wire cheap apart r met.wire_is (omega (arith, price, low)) (c.apart-apart.ensures.met wire met.wire_is own.at own.met) self.sides.now self.are_sides place at
    self.to_top.now self.to_bottom.now self.to_right.now self.to_left.now self.top_far self.bottom_far self.right_far self.left_far c.in-None.ensures.none
    (λ side s. subst (λ (xs : List ℕ). r ≤ slice_index self.lasts.now (side * basis.arch.tracks + v.n) + slice_index xs side + (cheap + (apart + c.args.lead.more))) c.far_sides.ensures.value
    (subst (λ (k : ℕ). r ≤ slice_index self.lasts.now (side * k + v.n) + slice_index (far_list c.far_sides.result) side + (cheap + (apart + c.args.lead.more))) long
    (c.lower-in-None.ensures.row v.n first side s)))
