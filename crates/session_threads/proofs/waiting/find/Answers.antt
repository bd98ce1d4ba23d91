use Rattle.session_threads.proofs.Prelude.{Some, ap, false, sym, ◌∙◌, CoreState, with_mark}
use Rattle.session_threads.proofs.WaitingLemmas.{mark_back}
use Rattle.session_threads.proofs.waiting.find.Goals as goal

pub returns-in-Some-clause-same : goal.returns-in-Some-clause-same
returns-in-Some-clause-same g c =
    c.unmark_number-holder.ensures.core
    ∙ (ap (λ (core : CoreState). record core { slots = with_mark core.slots (Some c.in-Some.slot) false }) c.in-Some.ensures.core
    ∙ mark_back c.args.core.now c.args.id c.in-Some.slot (sym c.in-Some.ensures.value))
