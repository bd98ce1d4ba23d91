use Rattle.configuration_text.proofs.Prelude.{◌≡◌, ◌++◌, drop, map, enumerate_from, flat_map, option_to_list, input_lines, signal_for, lines_text, Takes}
use Rattle.configuration_text.proofs.ble_lines.push_ble.Given as goal

abbrev pub invariant-loop-input : goal.invariant-loop-input
invariant-loop-input l = l.text.items ++ lines_text (flat_map (λ feed. map (Takes l.seat.place feed.0) (option_to_list (signal_for l.design.arch.now l.design.layout.now l.seat.laid.now feed.1))) (enumerate_from l.input (drop l.input l.seat.ble.now.inputs))) ≡ l.initial.text.items ++ lines_text (input_lines l.design.arch.now l.design.layout.now l.seat.laid.now l.seat.place l.seat.ble.now)
