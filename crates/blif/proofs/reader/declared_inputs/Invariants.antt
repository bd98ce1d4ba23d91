use Rattle.blif.proofs.Prelude.{◌≡◌, [], drop, flat_map, with_names, inputs_of, lines_to_end}
use Rattle.blif.proofs.reader.declared_inputs.Given as goal

-- adding the inputs of the remaining lines has the result of adding those of all lines
abbrev pub invariant-loop-place : goal.invariant-loop-place
invariant-loop-place l = with_names l.declared (flat_map inputs_of (lines_to_end (drop l.place l.lines))) ≡ with_names [] (flat_map inputs_of (lines_to_end l.lines))
