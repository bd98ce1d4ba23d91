use Rattle.plane_search.proofs.Prelude.{◌≢◌, arith, reverse, ◌∙◌, sym, after_step}
use Rattle.plane_search.proofs.Sorting.{place_to}
use Rattle.plane_search.proofs.Starting.{place_within}
use Rattle.plane_search.proofs.Walking.{begins, goes_on, goes_back, completed, reverse-push, taken_back}
use Rattle.plane_search.proofs.walk.Walk.walk_from.Goals as goal

pub returns-then-aim-start-clause-none : goal.returns-then-aim-start-clause-none
returns-then-aim-start-clause-none g c = λ _ rest leads. omega (arith, c.args.aim.now.ordered.bounded c.args.start c.requires.among rest leads, c.if-aim-start.true)

pub loop-current-init : goal.loop-current-init
loop-current-init g c =
    let aim = c.args.aim.now in
    let there = place_to aim.starts.now c.args.start c.requires.among in
    rw (c.begin_at.ensures.stop, c.begin_at.ensures.marks, c.begin_at.ensures.stops)
    (begins c.args.self.now.marks aim.can.some (place_within aim.ordered c.args.start.place there) (aim.can.cheap c.args.start.place there) c.requires.between)

pub begin_at-requires : goal.begin_at-requires
begin_at-requires g c =
    let aim = c.args.aim.now in
    omega (arith, c.requires.between.room, place_within aim.ordered c.args.start.place (place_to aim.starts.now c.args.start c.requires.among))

pub returns-then-step-aim-clause-found : goal.returns-then-step-aim-clause-found
returns-then-step-aim-clause-found g c =
    let plane = c.tracks-tracks.ensures.lawful.planes c.args.aim.now.track c.args.aim.now.on in
    λ _. completed plane.lawful c.args.aim.now.can.few c.loop-current.self.marks c.in-Some.stop c.loop-current.self.stops.items c.put_back.new.self.stops.items c.in-Some-next_step.step c.in_ok-put_back.ensures.stops (rw c.in-Some.is at c.loop-current.invariant) c.in-Some-next_step.ensures.some (c.if-step-aim.true ∙ c.args.aim.now.to)

pub loop-current-preserved-in-Some-next_step : goal.loop-current-preserved-in-Some-next_step
loop-current-preserved-in-Some-next_step g c =
    let f = g.P.Planes.family c.args.aim.now.planes.now in
    let plane = c.tracks-tracks.ensures.lawful.planes c.args.aim.now.track c.args.aim.now.on in
    let stop = c.in-Some.stop in
    let step = c.in-Some-next_step.step in
    let items = c.loop-current.self.stops.items in
    let other : step.place ≢ f.exit = λ e. c.if-step-aim.false (e ∙ sym c.args.aim.now.to) in
    rw (c.enter.ensures.stop, c.enter.ensures.marks, c.enter.ensures.stops, c.in_ok-put_back.ensures.marks, c.in_ok-put_back.ensures.stops, reverse-push (after_step stop step) items)
    (goes_on plane.lawful c.args.aim.now.can.few c.loop-current.self.marks stop (reverse items) (rw c.in-Some.is at c.loop-current.invariant) step c.in-Some-next_step.ensures.some other)

pub loop-current-preserved : goal.loop-current-preserved
loop-current-preserved g c =
    let plane = c.tracks-tracks.ensures.lawful.planes c.args.aim.now.track c.args.aim.now.on in
    rw (c.take_stop-current.ensures.marks, ← taken_back c.loop-current.self.stops.items c.take_stop-current.new.self.stops.items c.take_stop-current.result c.take_stop-current.ensures.all c.take_stop-current.ensures.none)
    (goes_back plane.lawful c.args.aim.now.can.few c.loop-current.self.marks c.in-Some.stop (reverse c.loop-current.self.stops.items) (rw c.in-Some.is at c.loop-current.invariant) c.in_default-next_step.ensures.none)
