use Rattle.std.proofs.Common.{ℕ, ◌≡◌, ◌<◌, List, length, take, get_or, true, false, arith, inl, inr, sym, subst}
use Rattle.std.specs.Prelude.{All, AllPairs}
use Rattle.std.proofs.lemmas.Bool.{cases_lt}
use Rattle.std.proofs.lemmas.List.{get_or-take, get_or_default, length-take-le}
use Rattle.strips.specs.declared.placed_strip.PlacedStrip.{PlacedStrip}
use Rattle.strips.specs.Plan.{AreApart}
use Rattle.device_report.proofs.widest.are_apart.Goals as goal

-- the strips before an index are apart from the one at it
before_at : (strips front : List PlacedStrip) (place j : ℕ) (d e : PlacedStrip) → front ≡ take place strips → place < length strips → j < place
    → All (λ s. AreApart s (get_or strips place e)) front → AreApart (get_or strips j d) (get_or strips place d)
before_at strips front place j d e is within lt all =
    let Q : List PlacedStrip → Type 0 = All (λ (s : PlacedStrip). AreApart s (get_or strips place e)) in
    let room : length (take place strips) ≡ place = length-take-le place strips (omega arith) in
    let here : AreApart (get_or (take place strips) j d) (get_or strips place e) = subst Q is all j d (omega arith) in
    let left : AreApart (get_or strips j d) (get_or strips place e) = subst (λ (s : PlacedStrip). AreApart s (get_or strips place e)) (get_or-take place strips j d lt) here in
    subst (λ (s : PlacedStrip). AreApart (get_or strips j d) s) (get_or_default strips place e d within) left

-- if all are apart, these are
before_all : (strips front : List PlacedStrip) (place : ℕ) (e : PlacedStrip) → front ≡ take place strips → place < length strips
    → AllPairs AreApart strips → All (λ s. AreApart s (get_or strips place e)) front
before_all strips front place e is within pairs =
    let Q : List PlacedStrip → Type 0 = All (λ (s : PlacedStrip). AreApart s (get_or strips place e)) in
    let room : length (take place strips) ≡ place = length-take-le place strips (omega arith) in
    subst Q (sym is) (λ j d lt.
    let below : j < place = omega arith in
    let here : AreApart (get_or strips j d) (get_or strips place d) = pairs j place d below within in
    let right : AreApart (get_or strips j d) (get_or strips place e) = subst (λ (s : PlacedStrip). AreApart (get_or strips j d) s) (get_or_default strips place d e within) here in
    subst (λ (s : PlacedStrip). AreApart s (get_or strips place e)) (sym (get_or-take place strips j d below)) right)

pub returns-then-not-is_apart_from_all : goal.returns-then-not-is_apart_from_all
returns-then-not-is_apart_from_all c = (
  λ claim i j d lt less. (let said : false ≡ true = claim in let bad : ⊥ = cc in absurd bad),
  λ pairs. c.if-not-is_apart_from_all.ensures.1 (before_all c.args.strips.now c.split_at.result.0.now c.loop-place.place _ c.split_at.ensures.front c.loop-place-test.true pairs),
)

pub loop-place-preserved : goal.loop-place-preserved
loop-place-preserved c j k d lt less =
    let strips = c.args.strips.now in
    elim (cases_lt k c.loop-place.place) [
      | inl below ↦ c.loop-place.invariant j k d lt below
      | inr past ↦
          let same : c.loop-place.place ≡ k = omega arith in
          let before : j < c.loop-place.place = omega arith in
          subst (λ n. AreApart (get_or strips j d) (get_or strips n d)) same
          (before_at strips c.split_at.result.0.now c.loop-place.place j d _ c.split_at.ensures.front c.loop-place-test.true before
          (c.is_apart_from_all.ensures.0 c.if-not-is_apart_from_all.false))
    ]
