use Rattle.circuit_verilog.proofs.Prelude.{◌≡◌, ◌++◌, take, flat_map, range_with_len, wire_line}
use Rattle.circuit_verilog.proofs.ports.push_wires_of.Given as goal

-- the ones before this one are written
abbrev pub invariant-loop-net : goal.invariant-loop-net
invariant-loop-net l = l.text.items ≡ l.initial.text.items ++ flat_map wire_line (take l.net (range_with_len 0 l.count))
