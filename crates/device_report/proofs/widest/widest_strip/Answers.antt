use Rattle.std.proofs.Common.{◌≡◌, ◌+◌, ◌-◌, ◌<◌, arith, inl, inr, subst}
use Rattle.std.proofs.lemmas.Bool.{cases_lt}
use Rattle.strips.specs.Plan.{Plan, FitsAt}
use Rattle.device_report.proofs.widest.widest_strip.Goals as goal

pub returns-in-Some : goal.returns-in-Some
returns-in-Some c = ((c.if-strips-ge-MAX_STRIPS.false, c.in-Some.ensures), λ width offset wider. c.loop-missing.invariant width offset (omega arith))

pub loop-missing-preserved : goal.loop-missing-preserved
loop-missing-preserved c width offset less admitted =
    let plan : Plan = record { columns = c.args.columns; strips = c.args.strips.now } in
    elim (cases_lt c.args.columns (width + c.loop-missing.missing)) [
      | inl wider ↦ c.loop-missing.invariant width offset wider admitted
      | inr least ↦
          let same : width ≡ c.args.columns - c.loop-missing.missing = omega arith in
          c.in_default.ensures offset (subst (λ w. FitsAt plan w offset) same admitted.1.0)
    ]

pub returns : goal.returns
returns c width offset admitted =
    let wide : 0 < width = admitted.1.0.wide in
    c.loop-missing.invariant width offset (omega arith) admitted
