-- What a line asks, known from its head.
use Rattle.session_threads.proofs.Prelude.{◌≡◌, ℕ, ◌+◌, ◌-◌, ◌<◌, ◌≤◌, List, [], ◌∷◌, ◌++◌, length, take, get_or, Bool, true, false, ◌||◌, cond, ◌==◌, refl, arith, length-take, lt-ltb, nat_tests, take_all, take_more, list_any-append, is_filled, words_of, LineForm, Asks, Blank, Refused, UnknownCommand, without_cr, line_form, words_form, IsHead, has_word}

filled_words : (line : List ℕ) → is_filled (words_of line) ≡ has_word line
filled_words [] = refl
filled_words (x ∷ xs) = grind (arith, filled_words xs)

or_false : (b : Bool) → (b || false) ≡ b
or_false b = grind arith

-- the CR at a line's end makes no word
last_off : (line : List ℕ) → 0 < length line → line ≡ take (length line - 1) line ++ get_or line (length line - 1) 0 ∷ []
last_off line some = grind (arith, take_all, take_more)

word_then_cr : (line front : List ℕ) (last : ℕ) → line ≡ front ++ last ∷ [] → last ≡ 13 → has_word front ≡ has_word line
word_then_cr line front last is cr = grind (arith, list_any-append)

cut_cr : (line : List ℕ) (b : Bool) → (get_or line (length line - 1) 0 == 13) ≡ b → has_word (cond b (take (length line - 1) line) line) ≡ has_word line
cut_cr [] b is = elim b as (λ b. has_word (cond b [] []) ≡ false) [ true ↦ refl | false ↦ refl ]
cut_cr (x ∷ xs) true is = word_then_cr (x ∷ xs) _ _ (last_off (x ∷ xs) (omega arith)) (grind (arith, nat_tests, is))
cut_cr (x ∷ xs) false is = refl

pub word_without_cr : (line : List ℕ) → has_word (without_cr line) ≡ has_word line
word_without_cr line = cut_cr line (get_or line (length line - 1) 0 == 13) refl

cut_length : (line : List ℕ) (b : Bool) → length line ≤ length (cond b (take (length line - 1) line) line) + 1
cut_length line b = grind (arith, length-take)

pub long_without_cr : (line : List ℕ) → length line ≤ length (without_cr line) + 1
long_without_cr line = cut_length line (get_or line (length line - 1) 0 == 13)

-- a line that is too long for a command
abbrev long_form : Bool → LineForm
long_form filled = cond filled (Asks (Refused UnknownCommand)) (Asks Blank)

words_long : (n : ℕ) (words : List (List ℕ)) → 4096 < n → words_form n words ≡ long_form (is_filled words)
words_long n words long = grind (arith, lt-ltb)

line_long : (line : List ℕ) → 4098 ≤ length line → line_form (without_cr line) ≡ long_form (has_word line)
line_long line long = grind (arith, words_long, long_without_cr, filled_words, word_without_cr)

pub head_form : (head line : List ℕ) → IsHead head line → line_form (without_cr head) ≡ line_form (without_cr line)
head_form head line h1 = grind (arith, line_long)
