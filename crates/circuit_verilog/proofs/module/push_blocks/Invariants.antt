use Rattle.circuit_verilog.proofs.Prelude.{◌≡◌, ◌++◌, take, flat_map, block_text}
use Rattle.circuit_verilog.proofs.module.push_blocks.Given as goal

-- the ones before this one are written
abbrev pub invariant-loop-laid : goal.invariant-loop-laid
invariant-loop-laid l = l.text.items ≡ l.initial.text.items ++ flat_map (block_text l.design.netlist.now l.design.circuit.now l.design.arch.now) (take l.laid-index l.design.layout.now.blocks)
