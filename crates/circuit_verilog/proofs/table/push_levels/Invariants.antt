use Rattle.circuit_verilog.proofs.Prelude.{◌≡◌, ◌++◌, take, flat_map, range_with_len, level_line}
use Rattle.circuit_verilog.proofs.table.push_levels.Given as goal

-- the ones before this one are written
abbrev pub invariant-loop-place : goal.invariant-loop-place
invariant-loop-place l = l.text.items ≡ l.initial.text.items ++ flat_map (level_line l.width) (take l.place (range_with_len 0 l.width))
