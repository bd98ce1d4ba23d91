use Rattle.sessions.proofs.Prelude.{◌∙◌, ◌∷◌, [], ap, refl, Ok, Err, inl, inr, true, subst, sym, AllocError, JobStep, IsOriginIn, Put, GiveBack}
use Rattle.service_core.specs.declared.put_reply.PutReply.TheVariants.{Recorded, Full, Gone}
use Rattle.sessions.proofs.StepLemmas.{back_runs, given_runs, put_runs}
use Rattle.sessions.proofs.steps.step_and_put_from.Goals as goal

-- the step that was made is the job's
pub put_from-requires : goal.put_from-requires
put_from-requires c = subst (λ (step : JobStep). IsOriginIn c.args.core.now step c.args.origin) (sym c.in-Ok.ensures) c.requires.origin

pub returns-in-Ok-Recorded-clause-put : goal.returns-in-Ok-Recorded-clause-put
returns-in-Ok-Recorded-clause-put c =
    let answer = Ok (Recorded c.in-Ok-Recorded.reply) in
    let put = put_runs c.args.core.now c.put_from.new.self c.args.job c.in-Ok.done c.put_from.result answer c.in-Ok.ensures (c.in-Ok-Recorded.is ∙ ap Ok c.in-Ok-Recorded.field-0-is) c.put_from.ensures in
    (Put c.args.job.step put.0 answer ∷ [], (put.0, refl), put.1)

pub returns-in-Ok-Full-clause-put : goal.returns-in-Ok-Full-clause-put
returns-in-Ok-Full-clause-put c =
    let put = put_runs c.args.core.now c.put_from.new.self c.args.job c.in-Ok.done c.put_from.result (Ok Full) c.in-Ok.ensures (c.in-Ok-Full.is ∙ ap Ok c.in-Ok-Full.field-0-is) c.put_from.ensures in
    (Put c.args.job.step put.0 (Ok Full) ∷ [], (put.0, refl), put.1)

pub returns-in-Ok-Gone-clause-put : goal.returns-in-Ok-Gone-clause-put
returns-in-Ok-Gone-clause-put c =
    let put = put_runs c.args.core.now c.put_from.new.self c.args.job c.in-Ok.done c.put_from.result (Ok Gone) c.in-Ok.ensures (c.in-Ok-Gone.is ∙ ap Ok c.in-Ok-Gone.field-0-is) c.put_from.ensures in
    (Put c.args.job.step put.0 (Ok Gone) ∷ [], (put.0, refl), put.1)

pub returns-in-Err-put_from-clause-put : goal.returns-in-Err-put_from-clause-put
returns-in-Err-put_from-clause-put c =
    let back : JobStep × AllocError = (c.in-Err-put_from.done, c.in-Err-put_from.field-0-1) in
    let put = back_runs c.args.core.now c.put_from.new.self c.give_back.new.self c.args.job c.into_back.result c.in-Ok.done c.put_from.result back c.in-Ok.ensures c.in-Err-put_from.is c.put_from.ensures c.into_back.ensures c.give_back.ensures in
    (Put c.args.job.step put.0 (Err back) ∷ GiveBack (record { step = c.args.job.step; made = true }) ∷ [], inr (put.0, back, refl), put.1)

pub returns-in-Err-clause-put : goal.returns-in-Err-clause-put
returns-in-Err-clause-put c = (GiveBack c.args.job ∷ [], inl refl, given_runs c.args.core.now c.give_back-in-Err.new.self c.args.job c.in-Err.back c.in-Err.ensures.0 c.give_back-in-Err.ensures)
