use Rattle.script_threads.proofs.Prelude.{◌≢◌, ap, length, subst, sym, ◌∙◌, All, AllPairs, ServiceState, AreAllCalls, SettledState, AreFullNotes, NoneLate}
use Rattle.script_threads.proofs.FinishLemmas.{full_notes}
use Rattle.script_threads.proofs.finish.finish.Goals as goal

pub returns-in-Ok : goal.returns-in-Ok
returns-in-Ok g c =
    let service = c.into_service.result in
    let settled = c.in-Ok.ensures.settled in
    let given = c.into_service.ensures in
    let late : All NoneLate c.in_ok-sections.field-0.transcripts.items = rw c.deref.ensures.value at c.in_default.ensures in
    let left = sym (given ∙ ap (λ (s : SettledState). s.service) c.in-Ok.ensures.service) in
    let are = c.in_ok-sections.ensures in
    record {
      ok = record {
        each = are.each;
        sections_are = are.sections_are;
        apart = subst (λ ts. AllPairs (λ t u. t.id ≢ u.id) ts) are.transcripts_are settled.apart;
        notes = subst (λ ts. All (AreFullNotes service) ts) are.transcripts_are (full_notes _ service _ left (are.of_live c.requires) settled.full);
        none_late = subst (λ ts. All NoneLate ts) are.transcripts_are late;
        calls = subst (λ ts. AreAllCalls g.C.Begun.begun service ts) are.transcripts_are (rw given (c.in-Ok.ensures.calls c.requires));
      };
      even = ap (λ (s : ServiceState). length s.histories) given ∙ (c.in-Ok.ensures.stays c.requires).count;
    }
