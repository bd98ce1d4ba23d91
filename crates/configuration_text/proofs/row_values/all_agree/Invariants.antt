use Rattle.configuration_text.proofs.Prelude.{◌≡◌, drop, map, all_agree, value_in}
use Rattle.configuration_text.proofs.row_values.all_agree.Given as goal

abbrev pub invariant-loop-place : goal.invariant-loop-place
invariant-loop-place l = all_agree (drop l.place l.pattern) (map (value_in l.nets l.number) (drop l.place l.inputs)) ≡ all_agree l.pattern (map (value_in l.nets l.number) l.inputs)
