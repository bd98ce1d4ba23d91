-- The words of a line, taken from its front one by one.
use Rattle.line_text.proofs.Prelude.{◌≡◌, ℕ, suc, length-drop, ◌+◌, ◌<◌, true, false, not, List, [], ◌∷◌, length, take, drop, filter, refl, ap, arith, slice_split, before_first, position_or_len, is_blank, is_filled, words_of}

-- the index of the first byte that is not a blank
abbrev pub word_start : List ℕ → ℕ
word_start bytes = position_or_len (λ b. not (is_blank b)) bytes

-- the index of the first blank
abbrev pub word_end : List ℕ → ℕ
word_end bytes = position_or_len is_blank bytes

take_next : {X : Type 0} (n : ℕ) (x : X) (xs : List X) → take (1 + n) (x ∷ xs) ≡ x ∷ take n xs
take_next n x xs = let e : 1 + n ≡ suc n = omega arith in ap (λ m. take m (x ∷ xs)) e

drop_next : {X : Type 0} (n : ℕ) (x : X) (xs : List X) → drop (1 + n) (x ∷ xs) ≡ drop n xs
drop_next n x xs = let e : 1 + n ≡ suc n = omega arith in ap (λ m. drop m (x ∷ xs)) e

-- skipping blanks before the first word changes no words
pub words_of-skipped : (bytes : List ℕ) → words_of (drop (word_start bytes) bytes) ≡ words_of bytes
words_of-skipped [] = refl
words_of-skipped (x ∷ xs) = grind (arith, drop_next, words_of-skipped xs)

pub word_start-skipped : (bytes : List ℕ) → word_start (drop (word_start bytes) bytes) ≡ 0
word_start-skipped [] = refl
word_start-skipped (x ∷ xs) = grind (arith, drop_next, word_start-skipped xs)

no_blank_first : (x : ℕ) (xs : List ℕ) → word_start (x ∷ xs) ≡ 0 → is_blank x ≡ false
no_blank_first x xs h = grind arith

-- the parts after the first one
abbrev parts_from : List ℕ → List (List ℕ)
parts_from [] = []
parts_from (y ∷ ys) = slice_split is_blank ys

slice_split-first_part : (bytes : List ℕ) → slice_split is_blank bytes ≡ before_first is_blank bytes ∷ parts_from (drop (word_end bytes) bytes)
slice_split-first_part [] = refl
slice_split-first_part (x ∷ xs) = grind (arith, drop_next, slice_split-first_part xs)

words_of-from_blank : (bytes : List ℕ) → filter is_filled (parts_from (drop (word_end bytes) bytes)) ≡ words_of (drop (word_end bytes) bytes)
words_of-from_blank [] = refl
words_of-from_blank (x ∷ xs) = grind (arith, drop_next, words_of-from_blank xs)

is_filled-word : (x : ℕ) (xs : List ℕ) → is_blank x ≡ false → is_filled (before_first is_blank (x ∷ xs)) ≡ true
is_filled-word x xs e = grind arith

-- the words of a line that begins with a word
pub words_of-word : (bytes : List ℕ) → 0 < length bytes → word_start bytes ≡ 0 → words_of bytes ≡ before_first is_blank bytes ∷ words_of (drop (word_end bytes) bytes)
words_of-word [] h e = absurd (omega arith)
words_of-word (x ∷ xs) h e = grind (arith, slice_split-first_part (x ∷ xs), words_of-from_blank (x ∷ xs))

-- the first word has at least one byte
pub word_end-positive : (bytes : List ℕ) → 0 < length bytes → word_start bytes ≡ 0 → 0 < word_end bytes
word_end-positive [] h e = absurd (omega arith)
word_end-positive (x ∷ xs) h e = grind arith

-- one turn of taking words: the first word, and what is left after the blanks that follow it
pub record TakesWord (rest later : List ℕ) : Type 0 where
  pub words : words_of rest ≡ before_first is_blank rest ∷ words_of later
  pub skipped : word_start later ≡ 0
  pub shorter : length later < length rest

pub takes_word : (rest others later : List ℕ) → 0 < length rest → word_start rest ≡ 0 → others ≡ drop (word_end rest) rest → later ≡ drop (word_start others) others → TakesWord rest later
takes_word rest others later h e o l = grind (arith, words_of-word, words_of-skipped, word_start-skipped, word_end-positive, length-drop)
