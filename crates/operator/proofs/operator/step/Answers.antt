use Rattle.operator.proofs.Prelude.{ℕ, ◌≡◌, ◌+◌, ◌++◌, arith, rules, subst, sink_text, outcome_text, Steps}
use Rattle.operator.proofs.OperatorLemmas.{on_err}
use Rattle.operator.proofs.Stepping.{steps_more, steps_none, tries_more}
use Rattle.operator.proofs.operator.step.Goals as goal

pub loop-number-init : goal.loop-number-init
loop-number-init c = steps_none c.args.graph.now c.args.core.now c.args.id (sink_text c.args.reply.now)

pub loop-number-preserved : goal.loop-number-preserved
loop-number-preserved c =
    let step = c.make_step-outcome.ensures.made in
    let told : sink_text c.push_outcome.new.reply ≡ sink_text c.loop-number.reply ++ outcome_text c.make_step-outcome.result = search rules in
    steps_more c.args.graph.now c.args.core.now c.loop-number.core c.make_step-outcome.new.core c.args.id c.loop-number.number (sink_text c.args.reply.now) (sink_text c.loop-number.reply) (sink_text c.push_outcome.new.reply)
    step.0 c.make_step-outcome.result c.loop-number.invariant step.1 step.2 told c.make_step-outcome.ensures.own

-- the step without a reply is made
pub returns-in_err-push_outcome-clause-stands : goal.returns-in_err-push_outcome-clause-stands
returns-in_err-push_outcome-clause-stands c =
    let step = c.make_step-outcome.ensures.made in
    on_err c.from_residual.result (
      c.loop-number.number + 1,
      omega arith,
      tries_more c.args.graph.now c.args.core.now c.loop-number.core c.make_step-outcome.new.core c.args.id c.loop-number.number step.0 c.make_step-outcome.result c.loop-number.invariant.tries step.1 step.2 c.make_step-outcome.ensures.own,
    )

pub returns-clause-told : goal.returns-clause-told
returns-clause-told c =
    let P : ℕ → Type 0 = λ n. Steps c.args.graph.now c.args.core.now c.args.id n (sink_text c.args.reply.now) (sink_text c.loop-number.reply) c.loop-number.core in
    let all : c.loop-number.number ≡ c.args.count = omega arith in
    subst P all c.loop-number.invariant
