use Rattle.device_lines.proofs.Prelude.{refl}
use Rattle.device_lines.proofs.reader.Reader.read_silent.Goals as goal

pub returns-in_default : goal.returns-in_default
returns-in_default c = rw (← c.in_default.ensures) refl

pub returns : goal.returns
returns c = rw (← c.in-Some.ensures) c.change.ensures
