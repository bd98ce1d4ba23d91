use Rattle.sessions.proofs.Prelude.{◌∙◌, ap, sym, offset_of}
use Rattle.sessions.proofs.Fitting.{stands_somewhere, window_made}
use Rattle.sessions.proofs.steps.window_of.Goals as goal

pub returns-in-Some-clause-own : goal.returns-in-Some-clause-own
returns-in-Some-clause-own c = λ own next.
    let at = ap (offset_of c.args.core.now.plan.strips) (sym c.id.ensures) ∙ sym c.offset.ensures.value ∙ c.in-Some.is in
    c.window_for.ensures.there.1 (window_made c.args.core.now c.args.job.now.step c.args.graph.now c.in-Some.offset c.offset.ensures.laid_out.wide c.offset.ensures.parted c.offset.ensures.alone at own next)

pub returns-in-None-clause-own : goal.returns-in-None-clause-own
returns-in-None-clause-own c = λ own next.
    let at = ap (offset_of c.args.core.now.plan.strips) (sym c.id.ensures) ∙ sym c.offset.ensures.value ∙ c.in-None.is in
    absurd (stands_somewhere c.args.core.now c.args.job.now.step c.offset.ensures.laid_out.wide c.offset.ensures.parted c.offset.ensures.alone at next)
