use Rattle.session_threads.proofs.Prelude.{ap, ◌∙◌, without_cr, line_form}
use Rattle.session_threads.proofs.HeadLemmas.{head_form}
use Rattle.session_threads.proofs.line.Line.form.Goals as goal

pub returns : goal.returns
returns c = λ line is.
    c.line_form.ensures
    ∙ (ap line_form c.without_cr.ensures
    ∙ (ap (λ l. line_form (without_cr l)) c.as_slice.ensures.value ∙ head_form c.self.inside.head.items line (rw (← c.self.view_is) at is.head)))
