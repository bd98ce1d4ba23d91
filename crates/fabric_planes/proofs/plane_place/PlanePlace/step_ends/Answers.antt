use Rattle.fabric_planes.proofs.Prelude.{◌≡◌, ◌-◌, ◌*◌, ℕ, ap, Terminals, stride_of}
use Rattle.fabric_planes.proofs.Found.{first_for}
use Rattle.fabric_planes.proofs.Numbers.{class_there}
use Rattle.fabric_planes.proofs.StepEnds.{steps_are, plane_rises, rising_before}
use Rattle.fabric_planes.proofs.plane_place.PlanePlace.step_ends.Goals as goal

pub steps-requires : goal.steps-requires
steps-requires g c =
    let self = c.args.self.now.planes.now in
    let is = c.laws.ensures.basis in
    let t : Terminals = record { source = self.source; sink = self.sink } in
    let costs = g.C.NodeCosts.costs self.costs.now in
    let firsts = self.strip.layout.now.firsts.items in
    let w = class_there is t costs self.starts.now self.goal self.search firsts self.strip.laid.firsts self.strip.layout.now.steps self.strip.laid.steps c.args.self.now.track c.args.self.now.place c.args.self.now.on_track c.args.self.now.in_plane c.requires.wire in
    let f = first_for is c.args.self.now.place w.number w.wire in
    (f.first, f.at)

pub returns-clause-value : goal.returns-clause-value
returns-clause-value g c =
    let self = c.args.self.now.planes.now in
    let is = c.laws.ensures.basis in
    let t : Terminals = record { source = self.source; sink = self.sink } in
    let costs = g.C.NodeCosts.costs self.costs.now in
    let firsts = self.strip.layout.now.firsts.items in
    let w = class_there is t costs self.starts.now self.goal self.search firsts self.strip.laid.firsts self.strip.layout.now.steps self.strip.laid.steps c.args.self.now.track c.args.self.now.place c.args.self.now.on_track c.args.self.now.in_plane c.requires.wire in
    let f = first_for is c.args.self.now.place w.number w.wire in
    let basis = g.G.StripGraph.basis self.strip.graph.now in
    let base : c.args.self.now.place - self.back ≡ c.args.self.now.place - 2 * stride_of basis = ap (λ (n : ℕ). c.args.self.now.place - n) self.back_is in
    let is_value = steps_are is t costs self.starts.now self.goal self.search firsts self.strip.laid.firsts c.args.self.now.track c.args.self.now.place (c.args.self.now.place - self.back) c.steps.result.now w c.args.self.now.on_track c.requires.aside base f (c.steps.ensures f.first f.at) in
    is_value

pub returns-clause-rising : goal.returns-clause-rising
returns-clause-rising g c =
    let self = c.args.self.now.planes.now in
    let is = c.laws.ensures.basis in
    let t : Terminals = record { source = self.source; sink = self.sink } in
    let costs = g.C.NodeCosts.costs self.costs.now in
    let firsts = self.strip.layout.now.firsts.items in
    let w = class_there is t costs self.starts.now self.goal self.search firsts self.strip.laid.firsts self.strip.layout.now.steps self.strip.laid.steps c.args.self.now.track c.args.self.now.place c.args.self.now.on_track c.args.self.now.in_plane c.requires.wire in
    let f = first_for is c.args.self.now.place w.number w.wire in
    let basis = g.G.StripGraph.basis self.strip.graph.now in
    let base : c.args.self.now.place - self.back ≡ c.args.self.now.place - 2 * stride_of basis = ap (λ (n : ℕ). c.args.self.now.place - n) self.back_is in
    let is_value = steps_are is t costs self.starts.now self.goal self.search firsts self.strip.laid.firsts c.args.self.now.track c.args.self.now.place (c.args.self.now.place - self.back) c.steps.result.now w c.args.self.now.on_track c.requires.aside base f (c.steps.ensures f.first f.at) in
    rising_before (c.args.self.now.place - self.back) c.steps.result.now _ is_value (plane_rises is t costs self.starts.now self.goal self.search firsts self.strip.laid.firsts c.args.self.now.track c.args.self.now.place)
