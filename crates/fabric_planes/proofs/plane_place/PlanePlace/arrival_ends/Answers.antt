use Rattle.fabric_planes.proofs.Prelude.{◌≡◌, ◌-◌, ◌*◌, ℕ, ap, Terminals, stride_of}
use Rattle.fabric_planes.proofs.Numbers.{class_there}
use Rattle.fabric_planes.proofs.StepEnds.{arrivals_are, plane_rises, rising_before}
use Rattle.fabric_planes.proofs.plane_place.PlanePlace.arrival_ends.Goals as goal

pub row-requires : goal.row-requires
row-requires g c =
    let self = c.args.self.now.planes.now in
    self.are_arrivals.within c.args.side.number c.args.self.now.track c.args.side.few c.args.self.now.on_track

pub returns-clause-value : goal.returns-clause-value
returns-clause-value g c =
    let self = c.args.self.now.planes.now in
    let is = c.laws.ensures.basis in
    let t : Terminals = record { source = self.source; sink = self.sink } in
    let costs = g.C.NodeCosts.costs self.costs.now in
    let firsts = self.strip.layout.now.firsts.items in
    let basis = g.G.StripGraph.basis self.strip.graph.now in
    let w = class_there is t costs self.starts.now self.goal self.search firsts self.strip.laid.firsts self.strip.layout.now.steps self.strip.laid.steps c.args.self.now.track c.args.self.now.place c.args.self.now.on_track c.args.self.now.in_plane c.requires.wire in
    let base : c.args.self.now.place - self.back ≡ c.args.self.now.place - 2 * stride_of basis = ap (λ (n : ℕ). c.args.self.now.place - n) self.back_is in
    let at = self.are_sides.is_at c.args.side.number c.args.self.now.place w.number w.wire c.args.side.few c.requires.at in
    let is_value = arrivals_are is t costs self.starts.now self.goal self.search firsts self.strip.laid.firsts c.args.self.now.track c.args.self.now.place c.args.side.number (c.args.self.now.place - self.back) self.arrivals.now self.first_arrivals.now c.row.result.now w self.are_arrivals at base c.row.ensures in
    is_value

pub returns-clause-rising : goal.returns-clause-rising
returns-clause-rising g c =
    let self = c.args.self.now.planes.now in
    let is = c.laws.ensures.basis in
    let t : Terminals = record { source = self.source; sink = self.sink } in
    let costs = g.C.NodeCosts.costs self.costs.now in
    let firsts = self.strip.layout.now.firsts.items in
    let basis = g.G.StripGraph.basis self.strip.graph.now in
    let w = class_there is t costs self.starts.now self.goal self.search firsts self.strip.laid.firsts self.strip.layout.now.steps self.strip.laid.steps c.args.self.now.track c.args.self.now.place c.args.self.now.on_track c.args.self.now.in_plane c.requires.wire in
    let base : c.args.self.now.place - self.back ≡ c.args.self.now.place - 2 * stride_of basis = ap (λ (n : ℕ). c.args.self.now.place - n) self.back_is in
    let at = self.are_sides.is_at c.args.side.number c.args.self.now.place w.number w.wire c.args.side.few c.requires.at in
    let is_value = arrivals_are is t costs self.starts.now self.goal self.search firsts self.strip.laid.firsts c.args.self.now.track c.args.self.now.place c.args.side.number (c.args.self.now.place - self.back) self.arrivals.now self.first_arrivals.now c.row.result.now w self.are_arrivals at base c.row.ensures in
    rising_before (c.args.self.now.place - self.back) c.row.result.now _ is_value (plane_rises is t costs self.starts.now self.goal self.search firsts self.strip.laid.firsts c.args.self.now.track c.args.self.now.place)
