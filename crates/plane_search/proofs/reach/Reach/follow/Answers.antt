use Rattle.plane_search.proofs.Prelude.{arith}
use Rattle.plane_search.proofs.Members.{listed_end, past_listed}
use Rattle.plane_search.proofs.Reaching.{taken_next, taken_over, all_followed}
use Rattle.plane_search.proofs.Walking.{end_within}
use Rattle.plane_search.proofs.reach.Reach.follow.Goals as goal

pub returns-then-item-cost-clause-under_way : goal.returns-then-item-cost-clause-under_way
returns-then-item-cost-clause-under_way g c = λ starts most w. taken_over (λ e. c.if-item-cost.true (omega (arith, e, c.cost-cost.ensures))) w

pub loop-end-init : goal.loop-end-init
loop-end-init g c = (c.requires.can.room, omega arith, omega arith, λ starts most w. w)

pub overflow_add-place : goal.overflow_add-place
overflow_add-place g c =
    let f = g.P.Planes.family c.args.view.now.planes.now in
    let family = c.tracks-tracks.ensures.lawful in
    let plane = family.planes c.args.view.now.track c.args.view.now.on in
    let q = listed_end _ _ _ _ c.ends-ends.ensures.value c.loop-end-test.true in
    omega (arith, end_within (f.plane c.args.view.now.track) plane.lawful c.args.item.place _ (omega (arith, c.requires.place, plane.count)) q.2, plane.count, family.few)

pub offer-requires-clause-place : goal.offer-requires-clause-place
offer-requires-clause-place g c =
    let f = g.P.Planes.family c.args.view.now.planes.now in
    let plane = c.tracks-tracks.ensures.lawful.planes c.args.view.now.track c.args.view.now.on in
    let q = listed_end _ _ _ _ c.ends-ends.ensures.value c.loop-end-test.true in
    omega (arith, end_within (f.plane c.args.view.now.track) plane.lawful c.args.item.place _ (omega (arith, c.requires.place, plane.count)) q.2, plane.count)

pub loop-end-preserved : goal.loop-end-preserved
loop-end-preserved g c =
    let q = listed_end _ _ _ _ c.ends-ends.ensures.value c.loop-end-test.true in
    let i = c.loop-end.invariant in (
      omega (arith, i.0, c.in_ok-limit.ensures.room),
      omega (arith, i.1, c.in_ok-limit.ensures.limit),
      omega (arith, i.2, c.in_ok-limit.ensures.nearer),
      λ starts most w. c.in_ok-limit.ensures.on starts most c.loop-end.end-index (record { within = q.0; is = q.1 }) (i.3 starts most w),
    )

pub returns-clause-under_way : goal.returns-clause-under_way
returns-clause-under_way g c = λ starts most w.
    all_followed (past_listed _ _ _ _ c.ends-ends.ensures.value c.loop-end-test.false) (c.loop-end.invariant.3 starts most (taken_next (omega (arith, c.if-item-cost.false, c.cost-cost.ensures)) w))
