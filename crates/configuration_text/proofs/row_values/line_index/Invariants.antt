use Rattle.configuration_text.proofs.Prelude.{◌≡◌, ◌==◌, ◌+◌, not, drop, prefix_len}
use Rattle.configuration_text.proofs.row_values.line_index.Given as goal

abbrev pub invariant-loop-place : goal.invariant-loop-place
invariant-loop-place l = l.place + prefix_len (λ line. not (line.number == l.number)) (drop l.place l.netlist) ≡ prefix_len (λ line. not (line.number == l.number)) l.netlist
