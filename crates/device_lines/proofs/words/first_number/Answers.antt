use Rattle.device_lines.proofs.Prelude.{refl, first_number}
use Rattle.device_lines.proofs.words.first_number.Goals as goal

pub returns-in_err-decimal_u32 : goal.returns-in_err-decimal_u32
unfolding first_number
returns-in_err-decimal_u32 c = rw (c.from_residual.ensures, ← c.split_digits.ensures.digits, ← c.in_err-decimal_u32.ensures) refl

pub returns : goal.returns
unfolding first_number
returns c = rw (← c.split_digits.ensures.digits, ← c.split_digits.ensures.rest, ← c.in_ok-decimal_u32.ensures) refl
