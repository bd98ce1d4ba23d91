use Rattle.device_lines.proofs.Prelude.{refl, first_counted}
use Rattle.device_lines.proofs.owned_line.first_counted.Goals as goal

pub returns-in-Some : goal.returns-in-Some
unfolding first_counted
returns-in-Some c = rw (← c.in-Some.ensures) refl

pub returns-in-Some-after_text : goal.returns-in-Some-after_text
unfolding first_counted
returns-in-Some-after_text c = rw (← c.in_default.ensures, ← c.in-Some-after_text.ensures) refl

pub returns-in_err-after_text : goal.returns-in_err-after_text
unfolding first_counted
returns-in_err-after_text c = rw (c.from_residual.ensures, ← c.in_default.ensures, ← c.in_default-after_text.ensures, ← c.in_err-after_text.ensures) refl

pub returns : goal.returns
unfolding first_counted
returns c = rw (← c.in_default.ensures, ← c.in_default-after_text.ensures, ← c.in_ok-after_text.ensures) refl
