use Rattle.configuration_text.proofs.Prelude.{◌≡◌, drop, map, list_any, applies, value_in, row_words}
use Rattle.configuration_text.proofs.row_values.any_applies.Given as goal

abbrev pub invariant-loop-place : goal.invariant-loop-place
invariant-loop-place l = list_any (applies (map (value_in l.nets l.number) l.inputs)) (row_words (drop l.place l.netlist)) ≡ list_any (applies (map (value_in l.nets l.number) l.inputs)) (row_words (drop l.first l.netlist))
