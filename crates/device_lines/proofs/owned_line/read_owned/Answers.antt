use Rattle.device_lines.proofs.Prelude.{refl, owned_in}
use Rattle.device_lines.proofs.owned_line.read_owned.Goals as goal

pub returns-in_default : goal.returns-in_default
unfolding owned_in
returns-in_default c = rw (← c.in_default.ensures) refl

pub returns-then-is_there : goal.returns-then-is_there
unfolding owned_in
returns-then-is_there c = rw (← c.in-Some.ensures, ← c.if-is_there.ensures.there) refl

pub returns-else-is_there : goal.returns-else-is_there
unfolding owned_in
returns-else-is_there c = rw (← c.in-Some.ensures, ← c.if-is_there.ensures.there) refl
