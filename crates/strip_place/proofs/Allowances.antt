-- The largest growth of the cost at which a change is kept.
use Rattle.strip_place.proofs.Prelude.{◌≡◌, ℕ, suc, ◌+◌, ◌-◌, ◌*◌, ◌^◌, ◌<◌, ◌≤◌, Bool, true, false, ◌⊎◌, inl, inr, arith, nat_le, div_ceil, count_leading_zeros, pow_mono, cases_lt, nat_tests, leading_length, is_kept, allowance}
use Rattle.std.specs.Prelude.{◌&&◌}

-- comparisons as tests
le_true : (a b : ℕ) → a ≤ b → nat_le a b ≡ true
le_true a b le = grind (arith, nat_tests)

le_false : (a b : ℕ) → b < a → nat_le a b ≡ false
le_false a b lt = grind (arith, nat_tests)

-- two tests that imply each other are equal
same_test : (a b : Bool) → (a ≡ true → b ≡ true) → (b ≡ true → a ≡ true) → a ≡ b
same_test a b f g = grind arith

within_ceil : (loss temperature n : ℕ) → 0 < temperature → loss ≤ temperature * n → div_ceil loss temperature ≤ n
within_ceil loss temperature n warm le = grind arith

-- a word has at least k leading zeros if and only if it is below that power of two
zeros_below : (word k : ℕ) → word < 2 ^ 32 → k ≤ count_leading_zeros 32 word → word < 2 ^ (32 - k)
zeros_below word k small le = grind (arith, pow_mono, leading_length 32 word small)

below_zeros : (word k : ℕ) → word < 2 ^ 32 → k ≤ 31 → word < 2 ^ (32 - k) → k ≤ count_leading_zeros 32 word
below_zeros word k small few below = by (cases_lt (count_leading_zeros 32 word) k)
  where
    by : (count_leading_zeros 32 word < k) ⊎ (k ≤ count_leading_zeros 32 word) → k ≤ count_leading_zeros 32 word
    by (inr le) = le
    by (inl lt) =
        let length = leading_length 32 word small in
        let up : 2 ^ (suc (32 - k)) ≤ 2 ^ length.0 = pow_mono (let e = length.1 in omega arith) in
        let double : 2 ^ (suc (32 - k)) ≡ 2 * 2 ^ (32 - k) = grind arith in
        absurd (let last = length.3 in omega (arith, up, double, last, below))

both_true : (a b : Bool) → (a && b) ≡ true → (a ≡ true) × (b ≡ true)
both_true a b is = grind arith

-- the definition's test is a comparison with the allowance
pub allowed : (temperature before after word : ℕ) → word < 2 ^ 32 → nat_le after (before + allowance temperature word) ≡ is_kept temperature before after word
allowed temperature before after word small = grind (arith, within_ceil, zeros_below, below_zeros, nat_tests)
