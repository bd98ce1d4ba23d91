use Rattle.circuit_use.proofs.Prelude.{◌+◌, take, flat_map, range_with_len, TakesAll, inputs_word}
use Rattle.circuit_use.proofs.text.write_inputs.Given as goal

-- the numbers of inputs before this one are written
abbrev pub invariant-loop-inputs : goal.invariant-loop-inputs
invariant-loop-inputs g l = TakesAll g.W.Sink.contents g.W.Sink.has_failed l.initial.sink l.sink (flat_map (inputs_word l.tables) (take l.inputs (range_with_len 0 (l.lut_size + 1))))
