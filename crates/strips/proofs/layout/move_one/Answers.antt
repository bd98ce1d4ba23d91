use Rattle.strips.proofs.Prelude.{◌∙◌, ◌<◌, ap, arith, get_or, length, slice_set, get_or_default, map_over_more, PlacedStrip, moved_strip}
use Rattle.strips.proofs.layout.move_one.Goals as goal

pub loop-place-preserved : goal.loop-place-preserved
loop-place-preserved c =
    let none : PlacedStrip = record { id = 0; offset = 0; width = 0 } in
    let strips = c.loop-place.strips in
    let place = c.loop-place.place in
    let lt : place < length strips = omega (arith, c.loop-place-test.true, c.loop-place.auto.strips) in
    ap (λ (strip : PlacedStrip). slice_set strips place strip) c.moved_strip.ensures
    ∙ map_over_more (moved_strip c.args.id c.args.offset) c.args.strips.now strips place (get_or strips place none) c.loop-place-test.true c.loop-place.invariant (get_or_default strips place none (get_or strips place none) lt)
