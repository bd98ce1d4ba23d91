use Rattle.device_lines.proofs.Prelude.{refl, number_field}
use Rattle.device_lines.proofs.words.number_field.Goals as goal

pub returns-in_err-number : goal.returns-in_err-number
unfolding number_field
returns-in_err-number c = rw (c.from_residual.ensures, ← c.in_err-number.ensures) refl

pub returns-in_err-after_text : goal.returns-in_err-after_text
unfolding number_field
returns-in_err-after_text c = rw (c.from_residual-in_err-after_text.ensures, ← c.in_ok-number.ensures, ← c.in_err-after_text.ensures) refl

pub returns : goal.returns
unfolding number_field
returns c = rw (← c.in_ok-number.ensures, ← c.in_ok-after_text.ensures) refl
