use Rattle.layout_files.proofs.Prelude.{◌∙◌, ℕ, List, ap, slice_get, arith, range_with_len, word_after_space, length-range_with_len, place_at, feed_or_open, left_after}
use Rattle.layout_files.proofs.Printing.{all_printed, one_more}
use Rattle.layout_files.proofs.net_print.print_inputs.Goals as goal

pub loop-place-preserved : goal.loop-place-preserved
loop-place-preserved c =
    let text : ℕ → List ℕ = λ place. word_after_space (feed_or_open (slice_get c.args.inputs.now place)) in
    one_more text (range_with_len 0 c.args.lut_size) c.loop-place.place c.loop-place.place _ _ _ (place_at c.args.lut_size c.loop-place.place c.loop-place-test.true) c.loop-place.invariant
    (c.print_feed.ensures ∙ ap (λ feed. left_after c.loop-place.print (word_after_space (feed_or_open feed))) c.feed_at.ensures)

pub returns : goal.returns
returns c =
    let text : ℕ → List ℕ = λ place. word_after_space (feed_or_open (slice_get c.args.inputs.now place)) in
    all_printed text (range_with_len 0 c.args.lut_size) c.loop-place.place _ _ (let f = c.loop-place-test.false in omega (arith, f, length-range_with_len 0 c.args.lut_size)) c.loop-place.invariant
