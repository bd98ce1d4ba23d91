-- The part of a text that is kept.
use Rattle.sessions.proofs.Prelude.{◌≡◌, ℕ, ◌+◌, ◌-◌, ◌≤◌, List, ◌++◌, length, take, length-append, ap, ◌∙◌, arith, take_all, take-append-le, length-take-le, take-append-add, kept_part}

take-append : (n : ℕ) (xs ys : List ℕ) → length xs ≤ n → take n (xs ++ ys) ≡ xs ++ take (n - length xs) ys
take-append n xs ys h = let e : n ≡ length xs + (n - length xs) = omega arith in ap (λ k. take k (xs ++ ys)) e ∙ take-append-add xs ys (n - length xs)

take-take-append : (n : ℕ) (xs ys : List ℕ) → take n (take n xs ++ ys) ≡ take n (xs ++ ys)
take-take-append n xs ys = grind (arith, length-take-le, take-append-le, take_all)

pub kept-kept : (xs ys : List ℕ) → kept_part (kept_part xs ++ ys) ≡ kept_part (xs ++ ys)
unfolding kept_part
kept-kept xs ys = take-take-append 1048577 xs ys

-- a text that isn't too long is kept whole
pub kept-whole : (xs ys : List ℕ) → length xs ≤ 1048577 → length ys ≤ 1048577 - length xs → kept_part (xs ++ ys) ≡ xs ++ ys
unfolding kept_part
kept-whole xs ys h k = take_all 1048577 (xs ++ ys) (rw (length-append xs ys) (omega arith))

pub kept-part : (xs ys : List ℕ) → length xs ≤ 1048577 → kept_part (xs ++ ys) ≡ xs ++ take (1048577 - length xs) ys
unfolding kept_part
kept-part xs ys h = take-append 1048577 xs ys h

pub kept-all : (xs : List ℕ) → length xs ≤ 1048577 → kept_part xs ≡ xs
unfolding kept_part
kept-all xs h = take_all 1048577 xs h
