use Rattle.circuit_verilog.proofs.Prelude.{◌≡◌, ◌++◌, take, flat_map, ble_text}
use Rattle.circuit_verilog.proofs.ble.push_block.Given as goal

-- the ones before this one are written
abbrev pub invariant-loop-ble : goal.invariant-loop-ble
invariant-loop-ble l = l.text.items ≡ l.initial.text.items ++ flat_map (ble_text l.design.netlist.now l.design.circuit.now l.design.arch.now l.laid) (take l.ble-index l.laid.bles)
