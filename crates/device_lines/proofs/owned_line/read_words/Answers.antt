use Rattle.device_lines.proofs.Prelude.{refl, owner_line}
use Rattle.device_lines.proofs.owned_line.read_words.Goals as goal

pub returns-in_err-kind : goal.returns-in_err-kind
unfolding owner_line
returns-in_err-kind c = rw (c.from_residual.ensures, ← c.in_err-kind.ensures) refl

pub returns-in_err-x : goal.returns-in_err-x
unfolding owner_line
returns-in_err-x c = rw (c.from_residual-in_err-x.ensures, ← c.in_ok-kind.ensures, ← c.in_err-x.ensures) refl

pub returns-in_err-after_text : goal.returns-in_err-after_text
unfolding owner_line
returns-in_err-after_text c = rw (c.from_residual-in_err-after_text.ensures, ← c.in_ok-kind.ensures, ← c.in_ok-x.ensures, ← c.in_err-after_text.ensures) refl

pub returns-in_err-y : goal.returns-in_err-y
unfolding owner_line
returns-in_err-y c = rw (c.from_residual-in_err-y.ensures, ← c.in_ok-kind.ensures, ← c.in_ok-x.ensures, ← c.in_ok-after_text.ensures, ← c.in_err-y.ensures) refl

pub returns-in_err-counted : goal.returns-in_err-counted
unfolding owner_line
returns-in_err-counted c = rw (c.from_residual-in_err-counted.ensures, ← c.in_ok-kind.ensures, ← c.in_ok-x.ensures, ← c.in_ok-after_text.ensures, ← c.in_ok-y.ensures, ← c.in_err-counted.ensures) refl

pub returns-in_err-n : goal.returns-in_err-n
unfolding owner_line
returns-in_err-n c = rw (c.from_residual-in_err-n.ensures, ← c.in_ok-kind.ensures, ← c.in_ok-x.ensures, ← c.in_ok-after_text.ensures, ← c.in_ok-y.ensures, ← c.in_ok-counted.ensures, ← c.in_err-n.ensures) refl

pub returns-in_err-after_text-2 : goal.returns-in_err-after_text-2
unfolding owner_line
returns-in_err-after_text-2 c = rw (c.from_residual-in_err-after_text-2.ensures, ← c.in_ok-kind.ensures, ← c.in_ok-x.ensures, ← c.in_ok-after_text.ensures, ← c.in_ok-y.ensures, ← c.in_ok-counted.ensures, ← c.in_ok-n.ensures, ← c.in_err-after_text-2.ensures) refl

pub returns-in_err-owner : goal.returns-in_err-owner
unfolding owner_line
returns-in_err-owner c = rw (c.from_residual-in_err-owner.ensures, ← c.in_ok-kind.ensures, ← c.in_ok-x.ensures, ← c.in_ok-after_text.ensures, ← c.in_ok-y.ensures, ← c.in_ok-counted.ensures, ← c.in_ok-n.ensures, ← c.in_ok-after_text-2.ensures, ← c.in_err-owner.ensures) refl

pub returns : goal.returns
unfolding owner_line
returns c = rw (← c.in_ok-kind.ensures, ← c.in_ok-x.ensures, ← c.in_ok-after_text.ensures, ← c.in_ok-y.ensures, ← c.in_ok-counted.ensures, ← c.in_ok-n.ensures, ← c.in_ok-after_text-2.ensures, ← c.in_ok-owner.ensures) refl
