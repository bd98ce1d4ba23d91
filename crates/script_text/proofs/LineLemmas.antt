-- The text that is kept, without the CRs at the ends of its lines.
use Rattle.script_text.proofs.Prelude.{◌≡◌, ℕ, zero, suc, ◌<◌, ◌≤◌, List, [], ◌∷◌, ◌++◌, Bool, true, false, cond, eqb, length, take, min, inl, inr, length-append, append_assoc, refl, sym, ap, ◌∙◌, arith, slice_index, flat_map, onto_first, eqb-true, take_all, physical_lines, kept_part, without_cr, kept-kept, IsEnded, without_crs}

-- LF, and CR
abbrev pub is_lf : ℕ → Bool
is_lf b = eqb b 10

-- the bytes up to that index, or all of them
take-min : (n : ℕ) (xs : List ℕ) → take (min (length xs) n) xs ≡ take n xs
take-min n xs = grind (arith, take_all)

pub kept-short : (xs : List ℕ) → take (min (length xs) 1048577) xs ≡ kept_part xs
unfolding kept_part
kept-short xs = take-min 1048577 xs

pub no_lines : (text : List ℕ) → length text ≡ 0 → physical_lines text ≡ []
no_lines [] h = refl
no_lines (b ∷ bytes) h = absurd (omega arith)

-- a line with its LF
abbrev pub ended_line : List ℕ → List ℕ
ended_line line = without_cr line ++ 10 ∷ []

-- a byte other than CR before a line is unaffected when the line's CR is removed
without_cr-later : (b : ℕ) (line : List ℕ) → eqb b 13 ≡ false → without_cr (b ∷ line) ≡ b ∷ without_cr line
without_cr-later b [] e = grind arith
without_cr-later b (c ∷ line) e = grind arith

without_cr-none : without_cr [] ≡ []
without_cr-none = elim (eqb (slice_index [] 0) 13) as (λ v. cond {A = List ℕ} v [] [] ≡ []) [ true ↦ refl | false ↦ refl ]

-- this also holds for the first of a text's lines
onto_line : (b : ℕ) (lines : List (List ℕ)) → eqb b 13 ≡ false → 0 < length lines → flat_map ended_line (onto_first b lines) ≡ b ∷ flat_map ended_line lines
onto_line b lines e some = grind (arith, without_cr-later)

length-onto : (b : ℕ) (lines : List (List ℕ)) → 0 < length (onto_first b lines)
length-onto b lines = grind arith

-- a text that isn't empty has a line
some_lines : (b : ℕ) (text : List ℕ) → 0 < length (physical_lines (b ∷ text))
some_lines b text = grind arith

lines_ahead : (text : List ℕ) → 0 < length text → 0 < length (physical_lines text)
lines_ahead [] some = absurd (omega arith)
lines_ahead (b ∷ text) some = some_lines b text

-- no byte is a CR
abbrev pub HasNoCr : List ℕ → Type 0
HasNoCr bytes = (k : ℕ) → k < length bytes → eqb (slice_index bytes k) 13 ≡ false

-- if no byte is a CR, the lines stay as they are
whole_lines : (front : List ℕ) → HasNoCr front → without_crs (front ++ 10 ∷ []) ≡ front ++ 10 ∷ []
whole_lines [] none = ap (λ l. (l ++ 10 ∷ []) ++ []) without_cr-none
whole_lines (b ∷ front) none =
    let later : without_crs (front ++ 10 ∷ []) ≡ front ++ 10 ∷ [] = whole_lines front (λ k within. none (suc k) (omega arith)) in
    elim (eqb b 10) as (λ v. eqb b 10 ≡ v → flat_map ended_line (cond v ([] ∷ physical_lines (front ++ 10 ∷ [])) (onto_first b (physical_lines (front ++ 10 ∷ [])))) ≡ b ∷ (front ++ 10 ∷ [])) [
      | true ↦ λ e. ap (λ l. (l ++ 10 ∷ []) ++ without_crs (front ++ 10 ∷ [])) without_cr-none ∙ ap (λ t. 10 ∷ t) later ∙ ap (λ c. c ∷ (front ++ 10 ∷ [])) (sym (eqb-true b 10 e))
      | false ↦ λ e. onto_line b (physical_lines (front ++ 10 ∷ [])) (none 0 (omega arith)) (lines_ahead (front ++ 10 ∷ []) (rw (length-append front (10 ∷ [])) (omega arith))) ∙ ap (λ t. b ∷ t) later
    ] refl

slice_index-front : (front rest : List ℕ) (k : ℕ) → k < length front → slice_index (front ++ rest) k ≡ slice_index front k
slice_index-front [] rest k within = absurd (omega arith)
slice_index-front (b ∷ front) rest zero within = refl
slice_index-front (b ∷ front) rest (suc k) within = slice_index-front front rest k (omega arith)

HasNoCr-front : (front rest : List ℕ) → HasNoCr (front ++ rest) → HasNoCr front
HasNoCr-front front rest none = λ k within. ap (λ b. eqb b 13) (sym (slice_index-front front rest k within)) ∙ none k (rw (length-append front rest) (omega arith))

-- a text without CRs stays as it is
pub without_crs-none : (text : List ℕ) → IsEnded text → HasNoCr text → without_crs text ≡ text
without_crs-none text (inl empty) none = rw empty refl
without_crs-none text (inr ended) none = grind (arith, whole_lines, HasNoCr-front ended.0 (10 ∷ []) (rw (← ended.1) none))

pub no_cr : (text : List ℕ) → ((k : ℕ) → 0 ≤ k → k < length text → ¬ (eqb (slice_index text k) 13 ≡ true)) → HasNoCr text
no_cr text never = λ k within. elim (eqb (slice_index text k) 13) as (λ v. ¬ (v ≡ true) → v ≡ false) [ true ↦ λ f. absurd (f refl) | false ↦ λ f. refl ] (never k (omega arith) within)

-- one more line of a text
pub kept_line : (text line after bytes : List ℕ) (lines : List (List ℕ)) → lines ≡ line ∷ physical_lines after → kept_part (kept_part (text ++ without_cr line) ++ 10 ∷ []) ≡ bytes →
    kept_part (bytes ++ without_crs after) ≡ kept_part (text ++ flat_map ended_line lines)
kept_line text line after bytes lines first is = grind (arith, kept-kept, append_assoc)
