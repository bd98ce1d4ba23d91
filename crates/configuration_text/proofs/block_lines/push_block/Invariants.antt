use Rattle.configuration_text.proofs.Prelude.{◌≡◌, ◌++◌, drop, enumerate_from, flat_map, ble_lines, lines_text, ble_at, cluster_lines}
use Rattle.configuration_text.proofs.block_lines.push_block.Given as goal

abbrev pub invariant-loop-index : goal.invariant-loop-index
invariant-loop-index l = l.text.items ++ lines_text (flat_map (λ ble. ble_lines l.design.netlist.now l.design.circuit.now l.design.arch.now l.design.layout.now l.laid (ble_at l.design.arch.now l.design.layout.now l.laid ble.0) ble.1) (enumerate_from l.index (drop l.index l.laid.bles))) ≡ l.initial.text.items ++ lines_text (cluster_lines l.design.netlist.now l.design.circuit.now l.design.arch.now l.design.layout.now l.laid)
