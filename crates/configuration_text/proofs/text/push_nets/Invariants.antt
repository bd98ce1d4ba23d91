use Rattle.configuration_text.proofs.Prelude.{◌≡◌, ◌++◌, drop, flat_map, switch_lines, lines_text}
use Rattle.configuration_text.proofs.text.push_nets.Given as goal

abbrev pub invariant-loop-between : goal.invariant-loop-between
invariant-loop-between l = l.text.items ++ lines_text (flat_map switch_lines (drop l.between-index l.nets)) ≡ l.initial.text.items ++ lines_text (flat_map switch_lines l.nets)
