-- Passes become colder, and cold ones are followed by cold ones.
use Rattle.strip_place.proofs.Prelude.{◌≡◌, ◌≢◌, ℕ, zero, suc, ◌+◌, ◌-◌, ◌*◌, ◌/◌, ◌≤◌, true, false, ap, ◌∙◌, arith, eqb-true, Strip, temperature_at, is_past_last}

-- the number of warm passes is bounded
cooled : (strip : Strip) (passes : ℕ) → temperature_at strip passes ≢ 0 → temperature_at strip passes + passes ≤ strip.width + strip.rows
unfolding temperature_at
cooled strip zero warm = omega arith
cooled strip (suc passes) warm =
    let before : temperature_at strip passes ≢ 0 = λ e. warm (ap (λ t. 9 * t / 10) e) in
    omega (arith, cooled strip passes before, before)

pub few_passes : (strip : Strip) (passes : ℕ) → is_past_last strip passes ≡ false → passes ≤ strip.width + strip.rows
few_passes strip passes warm = grind (arith, cooled)

-- a pass after a cold one is cold
cold_stays : (strip : Strip) (passes more : ℕ) → temperature_at strip passes ≡ 0 → temperature_at strip (passes + more) ≡ 0
unfolding temperature_at
cold_stays strip passes zero cold = ap (temperature_at strip) (omega arith) ∙ cold
cold_stays strip passes (suc more) cold =
    let e : passes + suc more ≡ suc (passes + more) = omega arith in
    ap (temperature_at strip) e ∙ ap (λ t. 9 * t / 10) (cold_stays strip passes more cold)

pub stays_past : (strip : Strip) (few more : ℕ) → few ≤ more → is_past_last strip few ≡ true → is_past_last strip more ≡ true
stays_past strip zero more le past = absurd cc
stays_past strip (suc few) zero le past = absurd (omega arith)
stays_past strip (suc few) (suc more) le past = grind (arith, cold_stays strip few (more - few) (eqb-true (temperature_at strip few) 0 past))
