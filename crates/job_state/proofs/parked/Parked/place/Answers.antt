use Rattle.job_state.proofs.Prelude.{◌≡◌, ◌∙◌, arith, ap, sym, subst, PlacingUnderWay, Sources, Packed, end_value, packing_sources, step_count}
use Rattle.job_state.specs.declared.work.Work.TheVariants.{Placing}
use Rattle.job_state.proofs.Beginnings.{over_past_last, placing_begins}
use Rattle.job_state.proofs.NextStep.{as_value}
use Rattle.job_state.proofs.parked.Parked.place.Goals as goal

pub begin-requires-clause-value : goal.begin-requires-clause-value
begin-requires-clause-value c =
    let sources = c.args.sources in
    let packed = c.shared_packed.result.now in
    let from = packing_sources sources.arch sources.strip sources.text in
    let made : end_value from ≡ as_value (Packed packed) = subst (λ (other : Sources). end_value other ≡ as_value (Packed packed)) c.requires.from c.shared_packed.ensures.value in
    placing_begins sources (step_count from) packed c.requires.kind made ∙ ap (λ (placing : PlacingUnderWay). as_value (Placing placing)) (sym c.in_ok-placing.ensures)

pub begin-requires-clause-few : goal.begin-requires-clause-few
begin-requires-clause-few c =
    (321, omega arith, over_past_last c.args.sources 321 c.requires.kind c.laws_of_passes.ensures.few (omega (arith, c.requires.size.width.1, c.requires.size.rows.1)))
