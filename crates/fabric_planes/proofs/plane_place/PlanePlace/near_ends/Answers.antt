use Rattle.fabric_planes.proofs.Prelude.{◌≡◌, ◌<◌, ◌∙◌, length, sym, arith, slice_index, get_or_default}
use Rattle.fabric_planes.proofs.plane_place.PlanePlace.near_ends.Goals as goal

pub index-requires : goal.index-requires
index-requires g c =
    let self = c.args.self.now.planes.now in
    omega (arith, c.args.self.now.in_plane, self.strip.laid.steps.long)

pub ends_of_pin-requires : goal.ends_of_pin-requires
ends_of_pin-requires g c =
    let self = c.args.self.now.planes.now in
    let classes = self.strip.layout.now.steps.classes.items in
    let within : c.args.self.now.place < length classes = omega (arith, c.args.self.now.in_plane, self.strip.laid.steps.long) in
    let class : c.index.result.now ≡ slice_index classes c.args.self.now.place = c.index.ensures ∙ get_or_default classes c.args.self.now.place c.index.result.now 0 within in
    record { no_wire = sym class ∙ c.if-index.true }

pub arrival_ends-requires-clause-wire : goal.arrival_ends-requires-clause-wire
arrival_ends-requires-clause-wire g c =
    let self = c.args.self.now.planes.now in
    let classes = self.strip.layout.now.steps.classes.items in
    let within : c.args.self.now.place < length classes = omega (arith, c.args.self.now.in_plane, self.strip.laid.steps.long) in
    let class : c.index.result.now ≡ slice_index classes c.args.self.now.place = c.index.ensures ∙ get_or_default classes c.args.self.now.place c.index.result.now 0 within in
    λ e. c.if-index.false (class ∙ e)

pub step_ends-requires-clause-wire : goal.step_ends-requires-clause-wire
step_ends-requires-clause-wire g c =
    let self = c.args.self.now.planes.now in
    let classes = self.strip.layout.now.steps.classes.items in
    let within : c.args.self.now.place < length classes = omega (arith, c.args.self.now.in_plane, self.strip.laid.steps.long) in
    let class : c.index.result.now ≡ slice_index classes c.args.self.now.place = c.index.ensures ∙ get_or_default classes c.args.self.now.place c.index.result.now 0 within in
    λ e. c.if-index.false (class ∙ e)

pub step_ends-requires-clause-aside : goal.step_ends-requires-clause-aside
step_ends-requires-clause-aside g c = λ side number w at.
    c.in-None.ensures.none side at.few (c.args.self.now.planes.now.are_sides.all side c.args.self.now.place number w at)

pub returns-then-index-clause-value : goal.returns-then-index-clause-value
returns-then-index-clause-value g c = c.ends_of_pin.ensures.value

pub returns-then-index-clause-rising : goal.returns-then-index-clause-rising
returns-then-index-clause-rising g c = c.ends_of_pin.ensures.rising

pub returns-in-Some-clause-value : goal.returns-in-Some-clause-value
returns-in-Some-clause-value g c = c.arrival_ends.ensures.value

pub returns-in-Some-clause-rising : goal.returns-in-Some-clause-rising
returns-in-Some-clause-rising g c = c.arrival_ends.ensures.rising

pub returns-in-None-clause-value : goal.returns-in-None-clause-value
returns-in-None-clause-value g c = c.step_ends.ensures.value

pub returns-in-None-clause-rising : goal.returns-in-None-clause-rising
returns-in-None-clause-rising g c = c.step_ends.ensures.rising

pub arrival_ends-requires-clause-at : goal.arrival_ends-requires-clause-at
arrival_ends-requires-clause-at g c = c.in-Some.ensures.found
