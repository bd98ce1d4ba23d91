use Rattle.circuit_verilog.proofs.Prelude.{◌≡◌, ◌++◌, take, flat_map, bytes_of_part}
use Rattle.circuit_verilog.proofs.parts.push_parts.Given as goal

-- the parts before this one are written
abbrev pub invariant-loop-part : goal.invariant-loop-part
invariant-loop-part l = l.text.items ≡ l.initial.text.items ++ flat_map bytes_of_part (take l.part-index l.parts)
