use Rattle.plane_search.proofs.Prelude.{arith, ◌∙◌, inl, inr, sym, length-set}
use Rattle.plane_search.proofs.Reaching.{end_passed, met_at_goal, end_entered, measure_falls}
use Rattle.plane_search.proofs.reach.Reach.offer.Goals as goal

pub overflow_add-cost : goal.overflow_add-cost
overflow_add-cost g c =
    let plane = c.tracks-tracks.ensures.lawful.planes c.args.view.now.track c.args.view.now.on in
    omega (arith, c.cost.ensures, plane.lawful.cost_to c.args.place (omega (arith, plane.count, c.requires.place)), g.met.C.Cell.fits, g.met.C.Cell.last_fits)

pub overflow_sub-below : goal.overflow_sub-below
overflow_sub-below g c =
    let plane = c.tracks-tracks.ensures.lawful.planes c.args.view.now.track c.args.view.now.on in
    omega (arith, c.cost.ensures, plane.lawful.cost_from c.args.place (omega (arith, plane.count, c.requires.place)))

pub wait-requires-clause-place : goal.wait-requires-clause-place
wait-requires-clause-place g c = omega (arith, c.requires.place, c.tracks-tracks.ensures.lawful.few)

pub returns-then-room-ahead-clause-on : goal.returns-then-room-ahead-clause-on
returns-then-room-ahead-clause-on g c =
    let plane = c.tracks-tracks.ensures.lawful.planes c.args.view.now.track c.args.view.now.on in
    let some = plane.lawful.cost_from c.args.place (omega (arith, plane.count, c.requires.place)) in
    λ starts most k is w. end_passed c.args.place c.args.limit (omega arith) (λ met. met) is.is (inr (λ rest leads. omega (arith, some, c.saturating_sub-room.ensures, c.in-Some.ensures rest leads, c.if-room-ahead.true))) w

pub returns-then-limit-cost-clause-on : goal.returns-then-limit-cost-clause-on
returns-then-limit-cost-clause-on g c = λ starts most k is w. end_passed c.args.place c.args.limit (omega arith) (λ met. met) is.is (inr (λ rest leads. omega (arith, c.cost.ensures, c.if-limit-cost.true))) w

pub returns-then-is_entered-clause-on : goal.returns-then-is_entered-clause-on
returns-then-is_entered-clause-on g c = λ starts most k is w. end_passed c.args.place c.args.limit (omega arith) (λ met. met) is.is (inl (omega (arith, c.cost.ensures, c.if-is_entered.ensures))) w

pub returns-then-place-view-clause-on : goal.returns-then-place-view-clause-on
returns-then-place-view-clause-on g c =
    let plane = c.tracks-tracks.ensures.lawful.planes c.args.view.now.track c.args.view.now.on in
    let some = plane.lawful.cost_from c.args.place (omega (arith, plane.count, c.requires.place)) in
    λ starts most k is w. end_passed c.args.place _ (omega (arith, c.if-limit-cost.false)) (λ _. met_at_goal c.args.place _ (c.if-place-view.true ∙ c.args.view.now.to) is.within is.is (omega (arith, c.cost.ensures, some, c.if-limit-cost.false, c.requires.can.few)) (omega (arith, c.cost.ensures, some)) w) is.is (inr (λ rest leads. omega (arith, c.cost.ensures, some))) w

pub returns-in_default-clause-on : goal.returns-in_default-clause-on
returns-in_default-clause-on g c = λ starts most k is w. end_passed c.args.place c.args.limit (omega arith) (λ met. met) is.is (inr (λ rest leads. absurd (c.in_default.ensures rest leads))) w

pub returns-then-left-ahead-clause-on : goal.returns-then-left-ahead-clause-on
returns-then-left-ahead-clause-on g c = λ starts most k is w.
    end_passed c.args.place c.args.limit (omega arith) (λ met. met) is.is (inr (λ rest leads. omega (arith, c.cost.ensures, c.in-Some.ensures rest leads, c.if-left-ahead.true, c.if-limit-cost.false))) w

pub returns-clause-on : goal.returns-clause-on
returns-clause-on g c =
    let plane = c.tracks-tracks.ensures.lawful.planes c.args.view.now.track c.args.view.now.on in
    λ starts most k is w. rw (c.in_ok-wait.ensures.marks, c.enter.ensures)
    (end_entered plane.lawful c.args.place _ _ (omega (arith, c.cost.ensures)) is.within is.is (omega (arith, plane.count, c.requires.place)) (λ e. c.if-place-view.false (e ∙ sym c.args.view.now.to))
    (omega (arith, c.if-is_entered.ensures)) (omega (arith, c.if-limit-cost.false, c.requires.can.few)) (λ rest leads. omega (arith, c.in-Some.ensures rest leads)) c.in_ok-wait.ensures.added w)

pub returns-clause-room : goal.returns-clause-room
returns-clause-room g c = rw (c.in_ok-wait.ensures.marks, c.enter.ensures) (length-set _ _ _)

pub returns-clause-nearer : goal.returns-clause-nearer
returns-clause-nearer g c = rw (c.in_ok-wait.ensures.marks, c.enter.ensures)
    (measure_falls _ c.args.place _ _ _ _ (omega (arith, c.requires.place, c.requires.can.room)) (omega (arith, c.if-is_entered.ensures)) c.in_ok-wait.ensures.added)
