use Rattle.fabric_planes.proofs.Prelude.{◌≡◌, ◌<◌, ◌∙◌, length, sym, arith, slice_index, get_or_default}
use Rattle.fabric_planes.proofs.StepEnds.{is_aside}
use Rattle.fabric_planes.proofs.plane_place.PlanePlace.far_ends.Goals as goal

pub index-requires : goal.index-requires
index-requires g c =
    let self = c.args.self.now.planes.now in
    omega (arith, c.args.self.now.in_plane, self.strip.laid.steps.long)

pub ends_of_pin-requires : goal.ends_of_pin-requires
ends_of_pin-requires g c =
    let self = c.args.self.now.planes.now in
    let classes = self.strip.layout.now.steps.classes.items in
    let within : c.args.self.now.place < length classes = omega (arith, c.args.self.now.in_plane, self.strip.laid.steps.long) in
    let class : c.index.result.now ≡ slice_index classes c.args.self.now.place = c.index.ensures ∙ get_or_default classes c.args.self.now.place c.index.result.now 0 within in
    record { no_wire = sym class ∙ c.if-index.true }

pub step_ends-requires-clause-wire : goal.step_ends-requires-clause-wire
step_ends-requires-clause-wire g c =
    let self = c.args.self.now.planes.now in
    let classes = self.strip.layout.now.steps.classes.items in
    let within : c.args.self.now.place < length classes = omega (arith, c.args.self.now.in_plane, self.strip.laid.steps.long) in
    let class : c.index.result.now ≡ slice_index classes c.args.self.now.place = c.index.ensures ∙ get_or_default classes c.args.self.now.place c.index.result.now 0 within in
    λ e. c.if-index.false (class ∙ e)

pub step_ends-requires-clause-aside : goal.step_ends-requires-clause-aside
step_ends-requires-clause-aside g c =
    let self = c.args.self.now.planes.now in
    is_aside (g.G.StripGraph.basis self.strip.graph.now) self.sink self.aheads.now self.are_aheads c.args.self.now.place c.requires.far

pub returns-then-index-clause-value : goal.returns-then-index-clause-value
returns-then-index-clause-value g c = c.ends_of_pin.ensures.value

pub returns-then-index-clause-rising : goal.returns-then-index-clause-rising
returns-then-index-clause-rising g c = c.ends_of_pin.ensures.rising

pub returns-clause-value : goal.returns-clause-value
returns-clause-value g c = c.step_ends.ensures.value

pub returns-clause-rising : goal.returns-clause-rising
returns-clause-rising g c = c.step_ends.ensures.rising
