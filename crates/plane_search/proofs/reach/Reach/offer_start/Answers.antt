use Rattle.plane_search.proofs.Prelude.{ℕ, ◌≢◌, [], arith, inr, sym, subst, Contains, places_of, IsUnfit}
use Rattle.plane_search.proofs.Reaching.{start_passed, start_entered}
use Rattle.plane_search.proofs.Sorting.{place_to}
use Rattle.plane_search.proofs.Starting.{place_within}
use Rattle.plane_search.proofs.reach.Reach.offer_start.Goals as goal

pub enter-requires-clause-place : goal.enter-requires-clause-place
enter-requires-clause-place g c =
    let starts = c.args.starts.now in
    let plane = c.tracks-tracks.ensures.lawful.planes starts.view.now.track starts.view.now.on in
    omega (arith, plane.count, c.requires.can.room, place_within starts.ordered c.args.start.place (place_to starts.list.now c.args.start c.requires.among))

pub wait-requires-clause-place : goal.wait-requires-clause-place
wait-requires-clause-place g c =
    let starts = c.args.starts.now in
    let family = c.tracks-tracks.ensures.lawful in
    let plane = family.planes starts.view.now.track starts.view.now.on in
    omega (arith, plane.count, family.few, place_within starts.ordered c.args.start.place (place_to starts.list.now c.args.start c.requires.among))

pub returns-then-most-start-clause-on : goal.returns-then-most-start-clause-on
returns-then-most-start-clause-on g c =
    let view = c.args.starts.now.view.now in
    let f = g.P.Planes.family view.planes.now in
    λ k is w. start_passed (subst (λ (x : ℕ). IsUnfit (f.plane view.track) f.exit c.args.most c.args.self.now.marks x 0) (sym is.is) (inr (λ rest leads. omega (arith, c.args.starts.now.ordered.bounded c.args.start c.requires.among rest leads, c.if-most-start.true)))) w

pub returns-clause-on : goal.returns-clause-on
returns-clause-on g c =
    let starts = c.args.starts.now in
    let view = starts.view.now in
    let f = g.P.Planes.family view.planes.now in
    let there : Contains (places_of starts.list.now) c.args.start.place = place_to starts.list.now c.args.start c.requires.among in
    let other : c.args.start.place ≢ f.exit = λ e. absurd (omega (arith, starts.some, starts.least c.args.start.place there [] e)) in
    λ k is w. rw (c.in_ok-wait.ensures.marks, c.enter.ensures)
    (start_entered c.args.start.place c.args.start.ahead is.is there (place_within starts.ordered c.args.start.place there) other (λ rest leads. omega (arith, starts.ordered.bounded c.args.start c.requires.among rest leads)) c.in_ok-wait.ensures.added w)
