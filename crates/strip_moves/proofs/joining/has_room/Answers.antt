use Rattle.strip_moves.proofs.Prelude.{◌≡◌, ◌+◌, ◌<◌, ◌≤◌, length, arith, ◌∙◌, sym, ap, nat_tests, All-same, MAX_STRIPS, PlacedStrip, AreApart, Plan, IsParted-with}
use Rattle.strip_moves.proofs.Rooms.{apart_from_all}
use Rattle.strip_moves.proofs.joining.has_room.Goals as goal

pub returns-in-None : goal.returns-in-None
returns-in-None c =
    let plan : Plan = c.args.plan.now in
    let strip : PlacedStrip = record { id = 0; offset = c.args.strip.offset; width = c.args.strip.width } in
    let same : plan.strips ≡ c.args.strips.now = ap (λ (p : Plan). p.strips) c.requires.plan in
    let columns : plan.columns ≡ c.args.columns = ap (λ (p : Plan). p.columns) c.requires.plan in
    let few : length plan.strips < MAX_STRIPS = grind (arith, nat_tests) in
    let wide : 0 < strip.width = omega arith in
    let inside : strip.offset + strip.width ≤ plan.columns = omega arith in (
      λ apart. record {
        few = few;
        fits = record { wide = wide; parted = IsParted-with plan strip c.offset.ensures.laid_out.parted inside (All-same (λ s. AreApart s strip) plan.strips c.args.strips.now same (c.is_apart_from_all.ensures.0 apart)) };
        new = sym c.offset.ensures.value ∙ c.in-None.is;
      },
      λ room. c.is_apart_from_all.ensures.1 (All-same (λ s. AreApart s c.args.strip) c.args.strips.now plan.strips (sym same) (apart_from_all plan c.args.strip room)),
    )
