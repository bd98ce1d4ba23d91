use Rattle.vpr_files.proofs.Prelude.{take, slice_get, flat_map, range_with_len, word_after_space, input_word, or_open, TakesAll}
use Rattle.vpr_files.proofs.pin_words.write_inputs.Given as goal

-- the words of the inputs before this one are written
abbrev pub invariant-loop-place : goal.invariant-loop-place
invariant-loop-place g l = TakesAll g.W.Sink.contents g.W.Sink.has_failed l.initial.sink l.sink (flat_map (λ place. word_after_space (or_open (input_word l.packed l.cluster) (slice_get l.inputs place))) (take l.place (range_with_len 0 l.packed.arch.lut_size)))
