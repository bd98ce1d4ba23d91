use Rattle.layout_files.proofs.Prelude.{◌≡◌, slice_get, take, flat_map, range_with_len, word_after_space, feed_or_open, left_after}
use Rattle.layout_files.proofs.net_print.print_inputs.Given as goal

-- those before this one are printed
abbrev pub invariant-loop-place : goal.invariant-loop-place
invariant-loop-place l = l.print ≡ left_after l.initial.print (flat_map (λ place. word_after_space (feed_or_open (slice_get l.inputs place))) (take l.place (range_with_len 0 l.lut_size)))
