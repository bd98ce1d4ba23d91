use Rattle.session_threads.proofs.Prelude.{◌∙◌, sym}
use Rattle.session_threads.proofs.OutcomeLemmas.{text_ends, text_goes_on, text_lost, text_unserved}
use Rattle.session_threads.proofs.items.go_on.Goals as goal

pub returns-in-Ok-clause-line : goal.returns-in-Ok-clause-line
returns-in-Ok-clause-line c = λ bytes is. text_ends c.args.text bytes c.in-Ok.item (sym (c.ends_text.ensures bytes is) ∙ c.if-ends_text.true) c.in-Ok.ensures

pub returns-in-Err-clause-line : goal.returns-in-Err-clause-line
returns-in-Err-clause-line c = λ bytes is. text_unserved c.args.text bytes (sym (c.ends_text.ensures bytes is) ∙ c.if-ends_text.true)

pub returns-in-Ok-with_line-clause-line : goal.returns-in-Ok-with_line-clause-line
returns-in-Ok-with_line-clause-line c = λ bytes is.
    text_goes_on c.args.text c.in-Ok-with_line.text bytes (sym (c.ends_text.ensures bytes is) ∙ c.if-ends_text.false) (rw (← c.in-Some.ensures bytes is) c.in-Ok-with_line.ensures)

pub returns-in-Err-with_line-clause-line : goal.returns-in-Err-with_line-clause-line
returns-in-Err-with_line-clause-line c = λ bytes is. text_lost c.args.text bytes (sym (c.ends_text.ensures bytes is) ∙ c.if-ends_text.false)

pub returns-in-None-clause-line : goal.returns-in-None-clause-line
returns-in-None-clause-line c = λ bytes is. text_lost c.args.text bytes (sym (c.ends_text.ensures bytes is) ∙ c.if-ends_text.false)
