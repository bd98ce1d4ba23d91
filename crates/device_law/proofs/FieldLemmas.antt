-- The parts of a printed line are read back.
use Rattle.device_law.proofs.Prelude.{◌≡◌, ℕ, ◌+◌, ◌/◌, ◌%◌, ◌^◌, ◌<◌, ◌≤◌, Bool, true, not, cond, List, [], ◌∷◌, ◌++◌, length, take, drop, codes, decimal, Some, refl, ap, ◌∙◌, arith, ⊤, option_map, list_all, position_or_len, and_parts, decimal_of, is_digit, list_all-append, fold-append, decimal_by_steps, decimal_nonempty, after_text, first_number, is_other, is_space, number_field, word_field}
use Rattle.line_text.specs.Decimal.{value_of}

-- the digits of a number, and their value
digit_one : (n : ℕ) → n < 10 → (list_all is_digit ((48 + n) ∷ []) ≡ true) × (value_of ((48 + n) ∷ []) ≡ n)
digit_one n small = grind arith

digit_more : (n : ℕ) (ds : List ℕ) → 10 ≤ n → (list_all is_digit ds ≡ true) × (value_of ds ≡ n / 10) → (list_all is_digit (ds ++ (48 + n % 10) ∷ []) ≡ true) × (value_of (ds ++ (48 + n % 10) ∷ []) ≡ n)
digit_more n ds big h = grind (arith, fold-append, list_all-append)

pub digits_told : (n : ℕ) → n < 2 ^ 64 → (list_all is_digit (decimal n) ≡ true) × (value_of (decimal n) ≡ n)
digits_told n small = decimal_by_steps (λ m ds. (list_all is_digit ds ≡ true) × (value_of ds ≡ m)) digit_one digit_more n small

pub decimal_is : (n : ℕ) → n < 2 ^ 32 → decimal_of 32 (decimal n) ≡ Some n
decimal_is n fits = grind (arith, digits_told, decimal_nonempty)

-- a byte that passes the test is the first one of the rest
abbrev pub Stops : (ℕ → Bool) → List ℕ → Type 0
Stops p [] = ⊤
Stops p (b ∷ rest) = p b ≡ true

end_at : (p : ℕ → Bool) (xs rest : List ℕ) → list_all (λ b. not (p b)) xs ≡ true → Stops p rest → position_or_len p (xs ++ rest) ≡ length xs
end_at p [] [] all stops = refl
end_at p [] (b ∷ rest) all stops = ap (λ t. cond (not t) (1 + position_or_len p rest) 0) stops
end_at p (x ∷ xs) rest all stops =
    let parts = and_parts (not (p x)) (list_all (λ b. not (p b)) xs) all in
    ap (λ t. cond t (1 + position_or_len p (xs ++ rest)) 0) parts.0 ∙ omega (arith, end_at p xs rest parts.1 stops)

taken : (xs ys : List ℕ) → take (length xs) (xs ++ ys) ≡ xs
taken [] ys = refl
taken (x ∷ xs) ys = ap (λ zs. x ∷ zs) (taken xs ys)

dropped : (xs ys : List ℕ) → drop (length xs) (xs ++ ys) ≡ ys
dropped [] ys = refl
dropped (x ∷ xs) ys = dropped xs ys

digits_all : (ds : List ℕ) → list_all is_digit ds ≡ true → list_all (λ b. not (is_other b)) ds ≡ true
digits_all ds all = grind arith

pub first_is : (n : ℕ) (rest : List ℕ) → n < 2 ^ 32 → Stops is_other rest → first_number (decimal n ++ rest) ≡ Some (n, rest)
unfolding first_number
first_is n rest small stops =
    let ds : List ℕ = decimal n in
    let whole : List ℕ = ds ++ rest in
    let same : decimal_of 32 ds ≡ Some n = decimal_is n small in
    let digits = (digits_told n (omega arith)).0 in
    let place : position_or_len is_other whole ≡ length ds = end_at is_other ds rest (digits_all ds digits) stops in
    ap (λ k. option_map (λ (m : ℕ). (m, drop k whole)) (decimal_of 32 (take k whole))) place
    ∙ ap (λ (xs : List ℕ). option_map (λ (m : ℕ). (m, drop (length ds) whole)) (decimal_of 32 xs)) (taken ds rest)
    ∙ ap (λ (r : List ℕ). option_map (λ (m : ℕ). (m, r)) (decimal_of 32 ds)) (dropped ds rest)
    ∙ ap (option_map (λ (m : ℕ). (m, rest))) same

space_after : (rest : List ℕ) → after_text (codes " ") (32 ∷ rest) ≡ Some rest
unfolding after_text
space_after rest = refl

pub number_is : (n : ℕ) (rest : List ℕ) → n < 2 ^ 32 → number_field (decimal n ++ 32 ∷ rest) ≡ Some (n, rest)
unfolding number_field
number_is n rest small = grind (arith, first_is, space_after)

pub word_is : (word rest : List ℕ) → list_all (λ b. not (is_space b)) word ≡ true → word_field (word ++ 32 ∷ rest) ≡ Some (word, rest)
unfolding word_field
word_is word rest all =
    let whole : List ℕ = word ++ 32 ∷ rest in
    let place : position_or_len is_space whole ≡ length word = end_at is_space word (32 ∷ rest) all refl in
    ap (λ k. option_map (λ (r : List ℕ). (take k whole, r)) (after_text (codes " ") (drop k whole))) place
    ∙ ap (λ (xs : List ℕ). option_map (λ (r : List ℕ). (xs, r)) (after_text (codes " ") (drop (length word) whole))) (taken word (32 ∷ rest))
    ∙ ap (λ (xs : List ℕ). option_map (λ (r : List ℕ). (word, r)) (after_text (codes " ") xs)) (dropped word (32 ∷ rest))
    ∙ ap (option_map (λ (r : List ℕ). (word, r))) (space_after rest)
