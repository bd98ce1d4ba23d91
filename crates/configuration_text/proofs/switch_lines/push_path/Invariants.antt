use Rattle.configuration_text.proofs.Switches.{IsHalfWritten}
use Rattle.configuration_text.proofs.switch_lines.push_path.Given as goal

abbrev pub invariant-loop-place : goal.invariant-loop-place
invariant-loop-place l = IsHalfWritten l.path l.place l.text.items l.initial.text.items l.seen.items l.initial.seen.items
