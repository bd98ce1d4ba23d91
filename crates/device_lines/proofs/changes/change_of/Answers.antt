use Rattle.device_lines.proofs.Prelude.{refl, change_in}
use Rattle.device_lines.proofs.changes.change_of.Goals as goal

pub returns-then-is_word : goal.returns-then-is_word
unfolding change_in
returns-then-is_word c = rw (← c.if-is_word.ensures) refl

pub returns-then-is_word-2 : goal.returns-then-is_word-2
unfolding change_in
returns-then-is_word-2 c = rw (← c.if-is_word.ensures, ← c.if-is_word-2.ensures) refl

pub returns-in_err-after_text : goal.returns-in_err-after_text
unfolding change_in
returns-in_err-after_text c = rw (c.from_residual.ensures, ← c.if-is_word.ensures, ← c.if-is_word-2.ensures, ← c.in_err-after_text.ensures) refl

pub returns-in_err-rest : goal.returns-in_err-rest
unfolding change_in
returns-in_err-rest c = rw (c.from_residual-in_err-rest.ensures, ← c.if-is_word.ensures, ← c.if-is_word-2.ensures, ← c.in_ok-after_text.ensures, ← c.in_err-rest.ensures) refl

pub returns : goal.returns
unfolding change_in
returns c = rw (← c.if-is_word.ensures, ← c.if-is_word-2.ensures, ← c.in_ok-after_text.ensures, ← c.in_ok-rest.ensures) c.change_by.ensures
