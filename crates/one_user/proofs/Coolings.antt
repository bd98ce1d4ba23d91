-- The number of passes of a placing.
use Rattle.one_user.proofs.Prelude.{ℕ, ◌≡◌, ◌≢◌, ◌+◌, ◌*◌, ◌/◌, ◌<◌, ◌≤◌, suc, true, false, arith, refl, sym, subst, ap, ◌∙◌, ◌==◌, Strip, pass_count, pass_count_is, is_past_last, temperature_at}

-- the temperature of the next pass
pub next_temperature : (strip : Strip) (passes : ℕ) → temperature_at strip (passes + 1) ≡ 9 * temperature_at strip passes / 10
unfolding temperature_at
next_temperature strip passes = let next : passes + 1 ≡ suc passes = omega arith in rw next refl

pub first_temperature : (strip : Strip) → temperature_at strip 0 ≡ strip.width + strip.rows
unfolding temperature_at
first_temperature strip = refl

not_past : (strip : Strip) (passes : ℕ) → ((before : ℕ) → before < passes → 0 < temperature_at strip before) → (fewer : ℕ) → fewer < passes + 1 → is_past_last strip fewer ≡ false
not_past strip passes warm fewer l = grind arith

pub passes_are : (strip : Strip) (passes : ℕ) → passes ≤ 320 → temperature_at strip passes ≡ 0 → ((before : ℕ) → before < passes → 0 < temperature_at strip before) → passes + 1 ≡ pass_count strip
passes_are strip passes few cold warm =
    let next : suc passes ≡ passes + 1 = omega arith in
    let at : is_past_last strip (suc passes) ≡ true = ap (λ t. t == 0) cold in
    sym (pass_count_is strip (passes + 1) (omega (arith, few)) (not_past strip passes warm) (subst (λ n. is_past_last strip n ≡ true) next at))

-- one more pass that isn't at temperature 0
pub still_warm : (strip : Strip) (passes : ℕ) → ((before : ℕ) → before < passes → 0 < temperature_at strip before) → 0 < temperature_at strip passes → (before : ℕ) → before < passes + 1 → 0 < temperature_at strip before
still_warm strip passes warm here before l = grind arith
