-- The first word of a line is taken off.
use Rattle.sessions.proofs.Prelude.{◌≡◌, ℕ, suc, ◌+◌, ◌<◌, true, false, not, List, [], ◌∷◌, length, take, drop, filter, refl, sym, ap, ◌∙◌, arith, slice_split, before_first, position_or_len, is_blank, is_filled, words_of}

-- the index of the first byte that isn't blank
abbrev word_start : List ℕ → ℕ
word_start bytes = position_or_len (λ b. not (is_blank b)) bytes

-- the index of the first blank
abbrev word_end : List ℕ → ℕ
word_end bytes = position_or_len is_blank bytes

take_next : {X : Type 0} (n : ℕ) (x : X) (xs : List X) → take (1 + n) (x ∷ xs) ≡ x ∷ take n xs
take_next n x xs = let e : 1 + n ≡ suc n = omega arith in ap (λ m. take m (x ∷ xs)) e

drop_next : {X : Type 0} (n : ℕ) (x : X) (xs : List X) → drop (1 + n) (x ∷ xs) ≡ drop n xs
drop_next n x xs = let e : 1 + n ≡ suc n = omega arith in ap (λ m. drop m (x ∷ xs)) e

-- blanks before the first word separate nothing
words_of-skipped : (bytes : List ℕ) → words_of (drop (word_start bytes) bytes) ≡ words_of bytes
words_of-skipped [] = refl
words_of-skipped (x ∷ xs) = grind (arith, drop_next, words_of-skipped xs)

word_start-skipped : (bytes : List ℕ) → word_start (drop (word_start bytes) bytes) ≡ 0
word_start-skipped [] = refl
word_start-skipped (x ∷ xs) = grind (arith, drop_next, word_start-skipped xs)

no_blank_first : (x : ℕ) (xs : List ℕ) → word_start (x ∷ xs) ≡ 0 → is_blank x ≡ false
no_blank_first x xs h = grind arith

-- what follows a first part
abbrev parts_from : List ℕ → List (List ℕ)
parts_from [] = []
parts_from (y ∷ ys) = slice_split is_blank ys

slice_split-first_part : (bytes : List ℕ) → slice_split is_blank bytes ≡ before_first is_blank bytes ∷ parts_from (drop (word_end bytes) bytes)
slice_split-first_part [] = refl
slice_split-first_part (x ∷ xs) = grind (arith, drop_next, slice_split-first_part xs)

words_of-from_blank : (bytes : List ℕ) → filter is_filled (parts_from (drop (word_end bytes) bytes)) ≡ words_of (drop (word_end bytes) bytes)
words_of-from_blank [] = refl
words_of-from_blank (x ∷ xs) = grind (arith, drop_next, words_of-from_blank xs)

is_filled-word : (x : ℕ) (xs : List ℕ) → is_blank x ≡ false → is_filled (before_first is_blank (x ∷ xs)) ≡ true
is_filled-word x xs e = grind arith

-- a line that begins with a word
words_of-word : (bytes : List ℕ) → 0 < length bytes → word_start bytes ≡ 0 → words_of bytes ≡ before_first is_blank bytes ∷ words_of (drop (word_end bytes) bytes)
words_of-word [] h e = absurd (omega arith)
words_of-word (x ∷ xs) h e = grind (arith, slice_split-first_part (x ∷ xs), words_of-from_blank (x ∷ xs))

-- a line of blanks
pub no_word : (line rest : List ℕ) → rest ≡ drop (word_start line) line → length rest ≡ 0 → words_of line ≡ []
no_word line [] is none = sym (ap words_of is ∙ words_of-skipped line)
no_word line (b ∷ rest) is none = absurd (omega arith)

-- the first word, and the others after it
pub a_word : (line rest word others : List ℕ) → rest ≡ drop (word_start line) line → 0 < length rest → word ≡ before_first is_blank rest → others ≡ drop (word_end rest) rest → words_of line ≡ word ∷ words_of others
a_word line rest word others is some first behind = grind (arith, words_of-word, word_start-skipped line, words_of-skipped line)
