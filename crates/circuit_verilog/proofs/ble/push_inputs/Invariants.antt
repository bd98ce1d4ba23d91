use Rattle.circuit_verilog.proofs.Prelude.{◌≡◌, ◌++◌, take, flat_map, range_with_len, slice_get, input_text}
use Rattle.circuit_verilog.proofs.ble.push_inputs.Given as goal

-- the ones before this one are written
abbrev pub invariant-loop-place : goal.invariant-loop-place
invariant-loop-place l = l.text.items ≡ l.initial.text.items ++ flat_map (λ place. input_text (slice_get l.nets place)) (take l.place (range_with_len 0 l.width))
