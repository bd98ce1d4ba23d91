-- The first pad that has a name.
use Rattle.pinned_places.proofs.Prelude.{◌≡◌, ℕ, ◌<◌, ◌≤◌, Bool, true, false, cond, List, Option, Some, None, length, get_or, slice_get, nat_lt, option_map, ap, ◌∙◌, arith, position, Bor, position_or_len, option_copied, nat_tests, position_or_len_is, get_or_from_slice_get, slice_get-get_or, slice_get_within}

-- no element before that index passes
abbrev pub NoneBefore : {X : Type 0} → (X → Bool) → List X → ℕ → Type 0
NoneBefore {X} p xs end = (k : ℕ) (x : X) → k < end → slice_get xs k ≡ Some x → p x ≡ false

pub none_yet : {X : Type 0} (p : X → Bool) (xs : List X) → NoneBefore p xs 0
none_yet p xs k x lt is = absurd (omega (arith, lt))

below : (n len : ℕ) → n < len → nat_lt n len ≡ true
below n len lt = grind (arith, nat_tests, lt)

past : (n len : ℕ) → len ≤ n → nat_lt n len ≡ false
past n len le = grind (arith, nat_tests, le)

pub first_at : {X : Type 0} (p : X → Bool) (xs : List X) (i : ℕ) (x : X) → NoneBefore p xs i → slice_get xs i ≡ Some x → p x ≡ true → position p xs ≡ Some i
first_at p xs i x before is passes = grind (arith, position_or_len_is, slice_get-get_or, slice_get_within xs i x is, get_or_from_slice_get xs i x x is)

pub nowhere : {X : Type 0} (p : X → Bool) (xs : List X) (i : ℕ) (d : X) → NoneBefore p xs i → length xs ≤ i → position p xs ≡ None
nowhere p xs i d before end =
    let here : position_or_len p xs ≡ length xs = position_or_len_is p xs (length xs) d (omega arith) (λ k lt. before k (get_or xs k d) (omega (arith, lt, end)) (slice_get-get_or xs k d lt)) (λ lt. absurd (omega (arith, lt))) in
    ap (λ n. cond (nat_lt n (length xs)) (Some n) None) here ∙ ap (λ b. cond b (Some (length xs)) None) (past (length xs) (length xs) (omega arith))

-- a copy of what is found
pub copied : {X : Type 0} (found : Option (Bor X)) → option_copied found ≡ option_map (λ x. x.now) found
copied found = grind arith
