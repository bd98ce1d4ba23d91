-- The CR at a line's end, and the lines of a text that is put together.
use Rattle.workers_law.proofs.Prelude.{◌≡◌, ℕ, zero, suc, List, [], ◌∷◌, ◌++◌, drop, Bool, true, false, not, cond, eqb, refl, sym, ap, ◌∙◌, arith, ◌&&◌, ◌==◌, slice_index, after_first, flat_map, list_all, onto_first, and_parts, physical_lines, is_blank, without_cr, is_one_line, line_then, without_blanks, after_first_word, with_feed}

-- a line without the CR at its end
without_cr-none : without_cr [] ≡ []
without_cr-none = elim (eqb (slice_index [] 0) 13) as (λ v. cond {A = List ℕ} v [] [] ≡ []) [ true ↦ refl | false ↦ refl ]

without_cr-more : (b c : ℕ) (xs : List ℕ) → without_cr (b ∷ c ∷ xs) ≡ b ∷ without_cr (c ∷ xs)
without_cr-more b c xs = grind arith

-- what is after the first blank
abbrev after_if : Bool → List ℕ → List ℕ
after_if true xs = xs
after_if false xs = after_first is_blank xs

after-cons : (b : ℕ) (xs : List ℕ) → after_first is_blank (b ∷ xs) ≡ after_if (is_blank b) xs
after-cons b xs = grind arith

pub after_cr : (xs : List ℕ) → after_first is_blank (without_cr xs) ≡ without_cr (after_first is_blank xs)
after_cr [] = ap (after_first is_blank) without_cr-none ∙ sym without_cr-none
after_cr (b ∷ []) = grind arith
after_cr (b ∷ c ∷ xs) = grind (arith, after-cons, without_cr-more b c xs, after-cons b (without_cr (c ∷ xs)), after-cons b (c ∷ xs), after_cr (c ∷ xs))

-- the line from its first word on
abbrev words_if : Bool → ℕ → List ℕ → List ℕ
words_if true b xs = without_blanks xs
words_if false b xs = b ∷ xs

blanks-cons : (b : ℕ) (xs : List ℕ) → without_blanks (b ∷ xs) ≡ words_if (is_blank b) b xs
blanks-cons b xs = grind arith

pub blanks_cr : (xs : List ℕ) → without_blanks (without_cr xs) ≡ without_cr (without_blanks xs)
blanks_cr [] = ap without_blanks without_cr-none ∙ sym without_cr-none
blanks_cr (b ∷ []) = grind arith
blanks_cr (b ∷ c ∷ xs) = grind (arith, blanks-cons, without_cr-more b c xs, blanks-cons b (without_cr (c ∷ xs)), blanks-cons b (c ∷ xs), blanks_cr (c ∷ xs))

-- what is after a line's first word is the same without the CR
pub behind_cr : (line : List ℕ) → after_first is_blank (without_blanks (without_cr line)) ≡ without_cr (after_first_word line)
behind_cr line = ap (after_first is_blank) (blanks_cr line) ∙ after_cr (without_blanks line)

-- lines of a text have no LF
pub one_drop : (n : ℕ) (xs : List ℕ) → is_one_line xs ≡ true → is_one_line (drop n xs) ≡ true
one_drop zero xs is = is
one_drop (suc n) [] is = refl
one_drop (suc n) (x ∷ xs) is = one_drop n xs (and_parts (not (x == 10)) (is_one_line xs) is).1

pub one_behind : (line : List ℕ) → is_one_line line ≡ true → is_one_line (after_first_word line) ≡ true
one_behind line is = grind (arith, one_drop)

onto_lines : (b : ℕ) (lines : List (List ℕ)) → (b == 10) ≡ false → list_all is_one_line lines ≡ true → list_all is_one_line (onto_first b lines) ≡ true
onto_lines b lines e all = grind arith

pub are_lines : (text : List ℕ) → list_all is_one_line (physical_lines text) ≡ true
are_lines [] = refl
are_lines (b ∷ rest) = grind (arith, are_lines rest)

-- a text that is put together of lines has these lines
pub put_together : (lines : List (List ℕ)) → list_all is_one_line lines ≡ true → physical_lines (flat_map with_feed lines) ≡ lines
put_together [] all = refl
put_together (line ∷ lines) all =
    let parts = and_parts (is_one_line line) (list_all is_one_line lines) all in
    line_then line (flat_map with_feed lines) parts.0 ∙ ap (λ ls. line ∷ ls) (put_together lines parts.1)
