use Rattle.device_lines.proofs.Prelude.{refl, first_kind}
use Rattle.device_lines.proofs.owned_line.first_kind.Goals as goal

pub returns-in-Some : goal.returns-in-Some
unfolding first_kind
returns-in-Some c = rw (← c.in-Some.ensures) refl

pub returns-in-Some-after_text : goal.returns-in-Some-after_text
unfolding first_kind
returns-in-Some-after_text c = rw (← c.in_default.ensures, ← c.in-Some-after_text.ensures) refl

pub returns-in-Some-after_text-2 : goal.returns-in-Some-after_text-2
unfolding first_kind
returns-in-Some-after_text-2 c = rw (← c.in_default.ensures, ← c.in_default-after_text.ensures, ← c.in-Some-after_text-2.ensures) refl

pub returns-in-Some-after_text-3 : goal.returns-in-Some-after_text-3
unfolding first_kind
returns-in-Some-after_text-3 c = rw (← c.in_default.ensures, ← c.in_default-after_text.ensures, ← c.in_default-after_text-2.ensures, ← c.in-Some-after_text-3.ensures) refl

pub returns-in_err-after_text : goal.returns-in_err-after_text
unfolding first_kind
returns-in_err-after_text c = rw (c.from_residual.ensures, ← c.in_default.ensures, ← c.in_default-after_text.ensures, ← c.in_default-after_text-2.ensures, ← c.in_default-after_text-3.ensures, ← c.in_err-after_text.ensures) refl

pub returns : goal.returns
unfolding first_kind
returns c = rw (← c.in_default.ensures, ← c.in_default-after_text.ensures, ← c.in_default-after_text-2.ensures, ← c.in_default-after_text-3.ensures, ← c.in_ok-after_text.ensures) refl
