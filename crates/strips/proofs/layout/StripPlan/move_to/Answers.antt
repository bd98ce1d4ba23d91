use Rattle.strips.proofs.Prelude.{◌≡◌, ◌∙◌, ◌+◌, ◌≤◌, ◌⊎◌, ◌++◌, true, false, List, Some, length, take, map, refl, ap, sym, subst, arith, refill, append-nil, drop_all, length-map, take_all, All-same, PlacedStrip, Plan, AreApart, IsLaidOut, IsParted, moved_strip, strip_of, with_moved}
use Rattle.strips.proofs.Laid.{found_id, found_is, others_by, laid_moved, moved_apart, moved_inside, parted_moved}
use Rattle.strips.proofs.layout.StripPlan.move_to.Goals as goal
use Rattle.strips.proofs.layout.StripPlan.move_to.Goals.{then-self-strip-via-then-self-strip, then-self-strip-via-else-self-strip+then-self-strip-2}

-- the number of strips is unchanged
filled : (old new : List PlacedStrip) → length new ≡ length old → refill (length old) old new ≡ new
filled old new same =
    ap (λ (rest : List PlacedStrip). take (length old) (new ++ rest)) (drop_all (length new) old (omega (arith, same)))
    ∙ (ap (take (length old)) (append-nil new) ∙ take_all (length old) new (omega (arith, same)))

pub returns-then-self-strip : goal.returns-then-self-strip
returns-then-self-strip c =
    let plan : Plan = record { columns = c.self.inside.columns; strips = c.self.inside.strips.items } in
    let strip = c.in-Some.strip in
    let is : strip_of plan.strips c.args.id ≡ Some strip = ap (λ (strips : List PlacedStrip). strip_of strips c.args.id) (sym c.deref.ensures.0) ∙ found_is (strip_of c.deref.result.now c.args.id) strip c.in-Some.ensures in (
      λ parted.
          (let inside = moved_inside plan c.args.id c.args.offset strip c.self.invariant is (subst (λ (p : Plan). IsParted (with_moved p c.args.id c.args.offset)) (sym c.self.view_is) parted) in
          elim c.then-self-strip.branch [
            | then-self-strip-via-then-self-strip w ↦ omega (arith, inside, w.if-self-strip.true)
            | then-self-strip-via-else-self-strip+then-self-strip-2 w ↦ omega (arith, inside, w.if-self-strip.false, w.if-self-strip-2.true)
          ]),
      refl,
    )

pub returns-then-not-is_apart_from_others : goal.returns-then-not-is_apart_from_others
returns-then-not-is_apart_from_others c =
    let plan : Plan = record { columns = c.self.inside.columns; strips = c.self.inside.strips.items } in
    let strip = c.in-Some.strip in
    let is : strip_of plan.strips c.args.id ≡ Some strip = ap (λ (strips : List PlacedStrip). strip_of strips c.args.id) (sym c.deref.ensures.0) ∙ found_is (strip_of c.deref.result.now c.args.id) strip c.in-Some.ensures in (
      λ parted.
          (let apart = moved_apart plan c.args.id c.args.offset strip c.self.invariant is (subst (λ (p : Plan). IsParted (with_moved p c.args.id c.args.offset)) (sym c.self.view_is) parted) in
          let own = found_id plan.strips c.args.id strip is in
          let said = c.is_apart_from_others.ensures.1 (All-same (λ (s : PlacedStrip). (s.id ≡ strip.id) ⊎ AreApart s (record strip { offset = c.args.offset })) _ _ c.deref-2.ensures.0 (others_by plan.strips c.args.id strip.id (record strip { offset = c.args.offset }) (sym own) apart)) in
          let wrong : false ≡ true = sym c.if-not-is_apart_from_others.true ∙ said in
          cc),
      refl,
    )

pub invariant_of-self : goal.invariant_of-self
invariant_of-self c =
    let plan : Plan = record { columns = c.self.inside.columns; strips = c.self.inside.strips.items } in
    let strip = c.in-Some.strip in
    let is : strip_of plan.strips c.args.id ≡ Some strip = ap (λ (strips : List PlacedStrip). strip_of strips c.args.id) (sym c.deref.ensures.0) ∙ found_is (strip_of c.deref.result.now c.args.id) strip c.in-Some.ensures in
    let inside : c.args.offset + strip.width ≤ plan.columns = omega (arith, c.if-self-strip.false, c.if-self-strip-2.false) in
    let apart = All-same (λ (s : PlacedStrip). (s.id ≡ strip.id) ⊎ AreApart s (record strip { offset = c.args.offset })) _ _ (sym c.deref-2.ensures.0) (c.is_apart_from_others.ensures.0 c.if-not-is_apart_from_others.false) in
    let parted = parted_moved plan c.args.id c.args.offset strip c.self.invariant is inside (others_by plan.strips strip.id c.args.id (record strip { offset = c.args.offset }) (found_id plan.strips c.args.id strip is) apart) in
    let moved : c.move_one.new.strips ≡ map (moved_strip c.args.id c.args.offset) plan.strips = c.move_one.ensures ∙ ap (map (moved_strip c.args.id c.args.offset)) c.as_mut_slice.ensures.value in
    let all = filled plan.strips c.move_one.new.strips (ap length moved ∙ length-map plan.strips (moved_strip c.args.id c.args.offset)) ∙ moved in
    subst (λ (strips : List PlacedStrip). IsLaidOut (record { columns = plan.columns; strips = strips })) (sym all) (laid_moved plan c.args.id c.args.offset strip c.self.invariant is parted)

pub returns : goal.returns
returns c =
    let plan : Plan = record { columns = c.self.inside.columns; strips = c.self.inside.strips.items } in
    let strip = c.in-Some.strip in
    let is : strip_of plan.strips c.args.id ≡ Some strip = ap (λ (strips : List PlacedStrip). strip_of strips c.args.id) (sym c.deref.ensures.0) ∙ found_is (strip_of c.deref.result.now c.args.id) strip c.in-Some.ensures in
    let inside : c.args.offset + strip.width ≤ plan.columns = omega (arith, c.if-self-strip.false, c.if-self-strip-2.false) in
    let apart = All-same (λ (s : PlacedStrip). (s.id ≡ strip.id) ⊎ AreApart s (record strip { offset = c.args.offset })) _ _ (sym c.deref-2.ensures.0) (c.is_apart_from_others.ensures.0 c.if-not-is_apart_from_others.false) in
    let parted = parted_moved plan c.args.id c.args.offset strip c.self.invariant is inside (others_by plan.strips strip.id c.args.id (record strip { offset = c.args.offset }) (found_id plan.strips c.args.id strip is) apart) in
    let moved : c.move_one.new.strips ≡ map (moved_strip c.args.id c.args.offset) plan.strips = c.move_one.ensures ∙ ap (map (moved_strip c.args.id c.args.offset)) c.as_mut_slice.ensures.value in
    let all = filled plan.strips c.move_one.new.strips (ap length moved ∙ length-map plan.strips (moved_strip c.args.id c.args.offset)) ∙ moved in (
      subst (λ (p : Plan). IsParted (with_moved p c.args.id c.args.offset)) c.self.view_is parted,
      ap (λ (strips : List PlacedStrip). let p : Plan = record { columns = plan.columns; strips = strips } in p) all ∙ ap (λ (p : Plan). with_moved p c.args.id c.args.offset) c.self.view_is,
    )
