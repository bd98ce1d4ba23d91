use Rattle.sessions.proofs.Prelude.{flat_map, MadeStep}
use Rattle.sessions.proofs.Counted.{step_counts}
use Rattle.sessions.proofs.Fitting.{own_after}
use Rattle.sessions.proofs.StepLemmas.{ends_unrecorded, made_ends, made_more}
use Rattle.sessions.proofs.steps.run_steps.Goals as goal

pub returns-in_default-clause-waits : goal.returns-in_default-clause-waits
returns-in_default-clause-waits c =
    let step = c.make_step.ensures.made in
    made_ends c.args.id c.args.core.now c.steps.core c.make_step.new.core step.0 c.make_step.result c.steps.invariant step.1 (ends_unrecorded c.make_step.result c.in_default.not-Recorded) step.2

pub returns-in_default-clause-own : goal.returns-in_default-clause-own
returns-in_default-clause-own c = λ own.
    let so_far = c.steps.invariant in
    c.make_step.ensures.own (own_after c.args.core.now (flat_map (λ (m : MadeStep). m.0) so_far.0) c.steps.core c.args.graph.now so_far.2 own)

pub steps-preserved : goal.steps-preserved
steps-preserved c =
    let step = c.make_step.ensures.made in
    made_more c.args.id c.args.core.now c.steps.core c.make_step.new.core step.0 c.make_step.result c.in-Recorded.field-0 c.steps.invariant c.in-Recorded.is step.1 step.2

pub steps-smaller : goal.steps-smaller
steps-smaller c =
    let step = c.make_step.ensures.made in
    step_counts c.steps.core c.make_step.new.core c.args.id step.0 c.make_step.result c.in-Recorded.field-0 c.in-Recorded.is step.1 step.2
