-- The whole lines of bytes, part by part.
use Rattle.live_run.proofs.Prelude.{◌≡◌, ◌+◌, ◌<◌, ◌≤◌, ◌++◌, ◌∷◌, [], ℕ, suc, List, false, length, take, get_or, ◌≢◌, arith, ap, sym, ◌∙◌, refl, Option, length-append, Consumes-trans, Consumes, take-suc, length-take-le, ◌==◌, nat_tests, whole_bytes}
use Rattle.std.specs.Prelude.{if◌then◌else◌}

-- without an LF in what follows nothing is added
pub whole_no_more : (xs ys : List ℕ) → whole_bytes ys ≡ 0 → whole_bytes (xs ++ ys) ≡ whole_bytes xs
whole_no_more [] ys none = none
whole_no_more (x ∷ xs) ys none = rw (whole_no_more xs ys none) refl

-- else all before it counts
pub whole_more : (xs ys : List ℕ) → 0 < whole_bytes ys → whole_bytes (xs ++ ys) ≡ length xs + whole_bytes ys
whole_more [] ys some = omega arith
whole_more (x ∷ xs) ys some = grind (arith, whole_more xs ys some)

pub whole_within : (xs : List ℕ) → whole_bytes xs ≤ length xs
whole_within [] = omega arith
whole_within (x ∷ xs) = grind (arith, whole_within xs)

-- one more byte
pub next_end : (bytes : List ℕ) (i : ℕ) → i < length bytes → get_or bytes i 0 ≡ 10 → whole_bytes (take (i + 1) bytes) ≡ i + 1
next_end bytes i within is =
    let one : i + 1 ≡ suc i = omega arith in
    let taken : take (i + 1) bytes ≡ take i bytes ++ (10 ∷ []) = ap (λ n. take n bytes) one ∙ take-suc bytes i 0 within ∙ ap (λ b. take i bytes ++ (b ∷ [])) is in
    ap whole_bytes taken ∙ whole_more (take i bytes) (10 ∷ []) (omega arith) ∙ ap (λ n. n + 1) (length-take-le i bytes (omega (arith, within)))

pub next_other : (bytes : List ℕ) (i : ℕ) → i < length bytes → get_or bytes i 0 ≢ 10 → whole_bytes (take (i + 1) bytes) ≡ whole_bytes (take i bytes)
next_other bytes i within other =
    let one : i + 1 ≡ suc i = omega arith in
    let taken : take (i + 1) bytes ≡ take i bytes ++ (get_or bytes i 0 ∷ []) = ap (λ n. take n bytes) one ∙ take-suc bytes i 0 within in
    let no_end : (get_or bytes i 0 == 10) ≡ false = grind (arith, nat_tests, other) in
    ap whole_bytes taken ∙ whole_no_more (take i bytes) (get_or bytes i 0 ∷ []) (ap (λ t. if t then 1 else 0) no_end)

-- a part that was read counts with what was read before it
module _ (old mid new : Option (List ℕ)) (seen part : List ℕ) (so_far : ℕ) (before : Consumes old mid seen) (more : Consumes mid new part) (is : so_far ≡ length seen) where
  abbrev pub AreRead : ℕ → ℕ → Type 0
  AreRead read whole = (all : List ℕ) × Consumes old new all × (read ≡ length all) × (whole ≡ whole_bytes all)

  pub after_more : (read counted : ℕ) → counted ≡ whole_bytes part → 0 < counted → read ≡ so_far + length part → AreRead read (so_far + counted)
  after_more read counted parts some adds = (
    seen ++ part,
    Consumes-trans old mid new seen part before more,
    omega (arith, adds, is, length-append seen part),
    omega (arith, is, parts, whole_more seen part (omega (arith, parts, some))),
  )

  pub after_none : (read counted whole : ℕ) → counted ≡ whole_bytes part → counted ≡ 0 → read ≡ so_far + length part → whole ≡ whole_bytes seen → AreRead read whole
  after_none read counted whole parts none adds kept = (
    seen ++ part,
    Consumes-trans old mid new seen part before more,
    omega (arith, adds, is, length-append seen part),
    kept ∙ sym (whole_no_more seen part (sym parts ∙ none)),
  )
