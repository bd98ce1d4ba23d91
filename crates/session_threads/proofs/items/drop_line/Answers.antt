use Rattle.session_threads.proofs.Prelude.{◌∙◌, sym}
use Rattle.session_threads.proofs.OutcomeLemmas.{lost_ends, lost_goes_on}
use Rattle.session_threads.proofs.items.drop_line.Goals as goal

pub returns-then-ends_text-clause-line : goal.returns-then-ends_text-clause-line
returns-then-ends_text-clause-line c = λ bytes is. lost_ends bytes (sym (c.ends_text.ensures bytes is) ∙ c.if-ends_text.true)

pub returns-else-ends_text-clause-line : goal.returns-else-ends_text-clause-line
returns-else-ends_text-clause-line c = λ bytes is. lost_goes_on bytes (sym (c.ends_text.ensures bytes is) ∙ c.if-ends_text.false)
