use Rattle.strips.proofs.Prelude.{arith, below_more, ap, subst, ◌∙◌, sym, ◌≡◌, ◌+◌, ◌<◌, ◌≤◌, false, true, refl, nat_tests, All-same, PlacedStrip, Plan, AreApart, IsParted}
use Rattle.strips.proofs.Laid.{IsParted-with, IsParted-with-apart, IsParted-with-inside}
use Rattle.strips.proofs.layout.StripPlan.first_fit.Goals as goal

pub loop-offset-preserved : goal.loop-offset-preserved
loop-offset-preserved c =
    let strip : PlacedStrip = record { id = 0; offset = c.loop-offset.offset; width = c.args.width } in
    let strips : c.deref.result.now ≡ c.args.self.now.strips = c.deref.ensures.0 ∙ ap (λ (plan : Plan). plan.strips) c.self.view_is in
    below_more _ _ c.loop-offset.invariant (λ fits.
    let apart = All-same (λ s. AreApart s strip) _ _ strips (IsParted-with-apart c.args.self.now strip fits.parted) in
    let said : false ≡ true = c.if-is_apart_from_all.ensures.1 apart in cc)

pub returns-then-is_apart_from_all : goal.returns-then-is_apart_from_all
returns-then-is_apart_from_all c =
    let strip : PlacedStrip = record { id = 0; offset = c.loop-offset.offset; width = c.args.width } in
    let columns : c.self.inside.columns ≡ c.args.self.now.columns = ap (λ (plan : Plan). plan.columns) c.self.view_is in
    let strips : c.args.self.now.strips ≡ c.deref.result.now = sym (c.deref.ensures.0 ∙ ap (λ (plan : Plan). plan.strips) c.self.view_is) in
    let parted : IsParted c.args.self.now = subst IsParted c.self.view_is c.self.invariant.parted in
    let apart = All-same (λ s. AreApart s strip) _ _ strips (c.if-is_apart_from_all.ensures.0 refl) in
    let wide : 0 < c.args.width = grind (arith, nat_tests) in
    let inside : c.loop-offset.offset + c.args.width ≤ c.args.self.now.columns = grind (arith, nat_tests) in
    (record { wide = wide; parted = IsParted-with c.args.self.now strip parted inside apart }, c.loop-offset.invariant)

pub returns : goal.returns
returns c offset fits =
    let columns : c.self.inside.columns ≡ c.args.self.now.columns = ap (λ (plan : Plan). plan.columns) c.self.view_is in
    let inside : offset + c.args.width ≤ c.args.self.now.columns = IsParted-with-inside c.args.self.now (record { id = 0; offset = offset; width = c.args.width }) fits.parted in
    c.loop-offset.invariant offset (omega arith) fits
