use Rattle.device_lines.proofs.Prelude.{refl, owner_count}
use Rattle.device_lines.proofs.replies.owner_count.Goals as goal

pub returns-in_err-after_text : goal.returns-in_err-after_text
unfolding owner_count
returns-in_err-after_text c = rw (c.from_residual.ensures, ← c.in_err-after_text.ensures) refl

pub returns : goal.returns
unfolding owner_count
returns c = rw (← c.in_ok-after_text.ensures) c.decimal_u32.ensures
