use Rattle.configuration_text.proofs.Prelude.{[]}
use Rattle.configuration_text.proofs.Switches.{IsHalfDrawn}
use Rattle.configuration_text.proofs.switch_lines.push_switches.Given as goal

abbrev pub invariant-loop-path : goal.invariant-loop-path
invariant-loop-path l = IsHalfDrawn l.paths l.path-index l.text.items l.initial.text.items l.seen.items []
