use Rattle.strip_moves.proofs.Prelude.{◌≡◌, ◌+◌, ◌-◌, ◌<◌, length, arith, inl, inr, subst, cases_lt, nat_tests, FitsAt}
use Rattle.strip_moves.proofs.joining.widest_on.Goals as goal

pub returns-in-Some : goal.returns-in-Some
returns-in-Some c =
    let few : length c.args.plan.now.strips < 64 = grind (arith, nat_tests) in
    ((few, c.in-Some.ensures), λ width offset wider. c.loop-missing.invariant width offset (omega arith))

pub loop-missing-preserved : goal.loop-missing-preserved
loop-missing-preserved c width offset less admitted =
    elim (cases_lt c.args.columns (width + c.loop-missing.missing)) [
      | inl wider ↦ c.loop-missing.invariant width offset wider admitted
      | inr least ↦
          let same : width ≡ c.args.columns - c.loop-missing.missing = omega arith in
          c.in_default.ensures offset (subst (λ w. FitsAt c.args.plan.now w offset) same admitted.1.0)
    ]

pub returns : goal.returns
returns c width offset admitted =
    let wide : 0 < width = admitted.1.0.wide in
    c.loop-missing.invariant width offset (omega arith) admitted
