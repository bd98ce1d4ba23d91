use Rattle.desk_layouts.proofs.Prelude.{◌≡◌, ◌∙◌, ℕ, codes, refl, ap, arith, first_line, size_line}
use Rattle.desk_layouts.proofs.PlaceHeading.{second_line}
use Rattle.desk_layouts.proofs.layout_input.size_in_places.Goals as goal

same_size : (width rows width' rows' : ℕ) → width ≡ width' → rows ≡ rows' → size_line width rows (codes " logic blocks") ≡ size_line width' rows' (codes " logic blocks")
same_size width rows width' rows' e f = rw (e, f) refl

pub returns : goal.returns
returns c width rows within on =
    let line = second_line on.circuit on.strip on.layout on.model (omega (arith, on.width_is, within.0.1)) (omega (arith, on.rows_are, within.1.1)) c.args.place.now on.text in
    c.size_in.ensures width rows within refl (c.split_line-2.ensures.first ∙ ap first_line c.split_line.ensures.later ∙ line ∙ same_size on.strip.width on.strip.rows width rows on.width_is on.rows_are)
