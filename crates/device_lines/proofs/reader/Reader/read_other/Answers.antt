use Rattle.device_lines.proofs.Prelude.{refl, sym, ◌∙◌, seen_of}
use Rattle.device_lines.proofs.StepLemmas.{is_silent_line, is_unknown}
use Rattle.device_lines.proofs.reader.Reader.read_other.Goals as goal

pub returns-in-Some : goal.returns-in-Some
returns-in-Some c = rw (← c.in-Some.ensures, c.clear.ensures.items) refl

pub returns-then-not-is_silent : goal.returns-then-not-is_silent
returns-then-not-is_silent c = is_unknown (seen_of c.args.self.now) c.args.line.now c.args.number _ c.in_default.ensures (sym c.if-not-is_silent.true ∙ c.is_silent.ensures)

pub returns : goal.returns
returns c = is_silent_line (seen_of c.args.self.now) (seen_of c.read_silent.new.self) c.args.line.now c.args.number _ c.in_default.ensures (sym c.if-not-is_silent.false ∙ c.is_silent.ensures) c.read_silent.ensures
