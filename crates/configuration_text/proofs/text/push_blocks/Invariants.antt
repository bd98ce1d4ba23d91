use Rattle.configuration_text.proofs.Prelude.{◌≡◌, ◌++◌, drop, flat_map, block_lines, lines_text}
use Rattle.configuration_text.proofs.text.push_blocks.Given as goal

abbrev pub invariant-loop-laid : goal.invariant-loop-laid
invariant-loop-laid l = l.text.items ++ lines_text (flat_map (block_lines l.design.netlist.now l.design.circuit.now l.design.arch.now l.design.layout.now) (drop l.laid-index l.design.layout.now.blocks)) ≡ l.initial.text.items ++ lines_text (flat_map (block_lines l.design.netlist.now l.design.circuit.now l.design.arch.now l.design.layout.now) l.design.layout.now.blocks)
