-- How many steps a job makes.
use Rattle.job_state.proofs.Prelude.{ℕ, ◌≡◌, ◌≤◌, ◌<◌, Bool, true, false, arith, position_or_len, range_with_len, get_or-range_with_len, length-range_with_len, position_or_len_is, Strip, is_past_last, Sources, HasFewSteps, IsNotOverBefore, is_last, pass_count, step_count, step_limit}

-- the least number that passes the test
least_is : (test : ℕ → Bool) (limit least : ℕ) → least < limit → ((fewer : ℕ) → fewer < least → test fewer ≡ false) → test least ≡ true → position_or_len test (range_with_len 0 limit) ≡ least
least_is test limit least within before at = grind (arith, position_or_len_is, get_or-range_with_len, length-range_with_len 0 limit, get_or-range_with_len 0 limit least 0 within)

below_limit : (least : ℕ) → least ≤ 8192 → least < step_limit
unfolding step_limit
below_limit least few = omega (arith, few)

pub pass_count_is : (strip : Strip) (passes : ℕ) → passes ≤ 8192 → ((fewer : ℕ) → fewer < passes → is_past_last strip fewer ≡ false) → is_past_last strip passes ≡ true → pass_count strip ≡ passes
unfolding pass_count
pass_count_is strip passes few before at = least_is (is_past_last strip) step_limit passes (below_limit passes few) before at

-- a job that isn't over yet has made at most as many steps as it makes in all
pub few_made : (sources : Sources) (steps most : ℕ) → IsNotOverBefore sources steps → is_last sources most ≡ true → most ≤ 8192 → steps ≤ 8192
few_made sources steps most before at few = grind (arith, before most, at, few)

pub step_count_is : (sources : Sources) (steps : ℕ) → HasFewSteps sources → IsNotOverBefore sources steps → is_last sources steps ≡ true → step_count sources ≡ steps
unfolding step_count
step_count_is sources steps few before at = search (least_is, below_limit, few_made, arith)
