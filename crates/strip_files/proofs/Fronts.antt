-- The front of a text: what is printed there is read back.
use Rattle.strip_files.proofs.Prelude.{◌≡◌, ℕ, ◌+◌, ◌-◌, ◌*◌, ◌/◌, ◌%◌, ◌^◌, ◌<◌, ◌≤◌, Bool, true, false, IsTrue, not, cond, ◌&&◌, eqb, List, [], ◌∷◌, ◌++◌, length, take, drop, decimal, Option, Some, None, refl, ap, sym, ◌∙◌, arith, nat_le, nat_lt, before_first, list_all, position_or_len, starts_with, and_from, and_parts, eq-eqb, nat_tests, decimal_by_steps, decimal_nonempty, append_cancel_left, list_all-append, fold-append, decimal_of, is_digit, value_of, with_digit, is_no_digit, Stops}

-- the digits of a number, and their value
digit_one : (n : ℕ) → n < 10 → (list_all is_digit ((48 + n) ∷ []) ≡ true) × (value_of ((48 + n) ∷ []) ≡ n)
digit_one n small =
    let low : nat_le 48 (48 + n) ≡ true = grind (arith, nat_tests) in
    let high : nat_le (48 + n) 57 ≡ true = grind (arith, nat_tests, small) in
    (and_from _ _ (and_from _ _ low high) refl, omega arith)

digit_more : (n : ℕ) (ds : List ℕ) → 10 ≤ n → (list_all is_digit ds ≡ true) × (value_of ds ≡ n / 10) → (list_all is_digit (ds ++ (48 + n % 10) ∷ []) ≡ true) × (value_of (ds ++ (48 + n % 10) ∷ []) ≡ n)
digit_more n ds big h =
    let last = digit_one (n % 10) (omega arith) in
    let value : value_of (ds ++ (48 + n % 10) ∷ []) ≡ value_of ds * 10 + (48 + n % 10 - 48) = fold-append with_digit 0 ds ((48 + n % 10) ∷ []) in
    (list_all-append is_digit ds ((48 + n % 10) ∷ []) ∙ and_from _ _ h.0 last.0, value ∙ omega (arith, h.1))

pub digits_told : (n : ℕ) → n < 2 ^ 64 → (list_all is_digit (decimal n) ≡ true) × (value_of (decimal n) ≡ n)
digits_told n small = decimal_by_steps (λ m ds. (list_all is_digit ds ≡ true) × (value_of ds ≡ m)) digit_one digit_more n small

pub decimal_is : (n : ℕ) → n < 2 ^ 32 → decimal_of 32 (decimal n) ≡ Some n
decimal_is n fits =
    let told = digits_told n (omega arith) in
    let ds : List ℕ = decimal n in
    let some : nat_le 1 (length ds) ≡ true = grind (arith, nat_tests, decimal_nonempty n (omega arith)) in
    let less : nat_lt (value_of ds) (2 ^ 32) ≡ true = ap (λ v. nat_lt v (2 ^ 32)) told.1 ∙ grind (arith, nat_tests, fits) in
    ap (λ v. cond v (Some (value_of ds)) None) (and_from _ _ (and_from _ _ told.0 some) less) ∙ ap Some told.1

pub end_at : (p : ℕ → Bool) (xs rest : List ℕ) → list_all (λ b. not (p b)) xs ≡ true → Stops p rest → position_or_len p (xs ++ rest) ≡ length xs
end_at p [] [] all stops = refl
end_at p [] (b ∷ rest) all stops = ap (λ t. cond (not t) (1 + position_or_len p rest) 0) stops
end_at p (x ∷ xs) rest all stops =
    let parts = and_parts (not (p x)) (list_all (λ b. not (p b)) xs) all in
    ap (λ t. cond t (1 + position_or_len p (xs ++ rest)) 0) parts.0 ∙ omega (arith, end_at p xs rest parts.1 stops)

pub taken : (xs ys : List ℕ) → take (length xs) (xs ++ ys) ≡ xs
taken [] ys = refl
taken (x ∷ xs) ys = ap (λ zs. x ∷ zs) (taken xs ys)

pub dropped : (xs ys : List ℕ) → drop (length xs) (xs ++ ys) ≡ ys
dropped [] ys = refl
dropped (x ∷ xs) ys = dropped xs ys

-- what is before the stop, and from there on
pub before : (p : ℕ → Bool) (xs rest : List ℕ) → list_all (λ b. not (p b)) xs ≡ true → Stops p rest → before_first p (xs ++ rest) ≡ xs
before p xs rest all stops = ap (λ k. take k (xs ++ rest)) (end_at p xs rest all stops) ∙ taken xs rest

pub behind : (p : ℕ → Bool) (xs rest : List ℕ) → list_all (λ b. not (p b)) xs ≡ true → Stops p rest → drop (position_or_len p (xs ++ rest)) (xs ++ rest) ≡ rest
behind p xs rest all stops = ap (λ k. drop k (xs ++ rest)) (end_at p xs rest all stops) ∙ dropped xs rest

twice : (b : Bool) → b ≡ true → not (not b) ≡ true
twice true e = refl
twice false e = e

pub digits_all : (ds : List ℕ) → list_all is_digit ds ≡ true → list_all (λ b. not (is_no_digit b)) ds ≡ true
digits_all [] all = refl
digits_all (d ∷ ds) all =
    let parts = and_parts (is_digit d) (list_all is_digit ds) all in
    and_from _ _ (twice (is_digit d) parts.0) (digits_all ds parts.1)

-- ---- with a scanner

starts_own : (text rest : List ℕ) → starts_with eqb (text ++ rest) text ≡ true
starts_own [] rest = refl
starts_own (byte ∷ text) rest = ap (λ b. b && starts_with eqb (text ++ rest) text) (eq-eqb byte byte refl) ∙ starts_own text rest

-- a text at the front is taken
pub text_taken : (text old new rest : List ℕ) (found : Bool) → found ≡ starts_with eqb old text → (IsTrue found → old ≡ text ++ new) → old ≡ text ++ rest → (found ≡ true) × (new ≡ rest)
text_taken text old new rest found is more same =
    let begins : found ≡ true = is ∙ ap (λ s. starts_with eqb s text) same ∙ starts_own text rest in
    (begins, append_cancel_left text new rest (sym (more begins) ∙ same))

-- a number at the front is taken
pub number_taken : (n : ℕ) (old new rest : List ℕ) (found : Option ℕ) → n < 2 ^ 32 → Stops is_no_digit rest → found ≡ decimal_of 32 (before_first is_no_digit old) → old ≡ before_first is_no_digit old ++ new → old ≡ decimal n ++ rest
    → (found ≡ Some n) × (new ≡ rest)
number_taken n old new rest found small stops is more same =
    let all = digits_all (decimal n) (digits_told n (omega arith)).0 in
    let front : before_first is_no_digit old ≡ decimal n = ap (before_first is_no_digit) same ∙ before is_no_digit (decimal n) rest all stops in (
      is ∙ ap (decimal_of 32) front ∙ decimal_is n small,
      append_cancel_left (decimal n) new rest (ap (λ f. f ++ new) (sym front) ∙ sym more ∙ same),
    )
