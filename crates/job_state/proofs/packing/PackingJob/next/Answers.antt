use Rattle.job_state.proofs.Prelude.{◌≡◌, IfErr, ap, sym, subst, ◌∙◌, packing_made}
use Rattle.job_state.proofs.Sharing.{before_last_is}
use Rattle.job_state.proofs.packing.PackingJob.next.Goals as goal

pub returns-in-Ok-Last-clause-back : goal.returns-in-Ok-Last-clause-back
returns-in-Ok-Last-clause-back c =
    let ends = rw c.in-Ok-Last.field-0-is at c.in-Ok-Last.ensures in
    let same = before_last_is c.in-Growing.packing c.in-Ok-Last.packed ends.0 ends.1 in
    subst (λ packing. IfErr c.share_packing.result (λ back. back ≡ packing)) (same ∙ (ap packing_made (sym c.in-Growing.is) ∙ c.self.view_is)) c.share_packing.ensures.back
