use Rattle.configuration_text.proofs.Prelude.{◌≡◌, ◌++◌, drop, map, enumerate_from, flat_map, option_to_list, driver_of_net, global_lines, lines_text, Feeds}
use Rattle.configuration_text.proofs.global_lines.push_globals.Given as goal

abbrev pub invariant-loop-number : goal.invariant-loop-number
invariant-loop-number l = l.text.items ++ lines_text (flat_map (λ net. map (Feeds net.0) (option_to_list (driver_of_net l.design.arch.now l.design.layout.now net.1))) (enumerate_from l.number (drop l.number l.design.layout.now.globals))) ≡ l.initial.text.items ++ lines_text (global_lines l.design.arch.now l.design.layout.now)
