-- The forms of the lines of a tenancy's script.
use Rattle.tenancy_script.proofs.Prelude.{◌≡◌, ℕ, ◌+◌, ◌/◌, ◌%◌, ◌^◌, ◌<◌, ◌≤◌, List, [], ◌∷◌, ◌++◌, Bool, true, false, not, cond, eqb, length, take, drop, codes, decimal, Some, None, refl, ap, ◌∙◌, arith, length-append, ◌&&◌, nat_lt, nat_le, filter, option_map, All, list_all, position_or_len, before_first, after_first, and_from, and_parts, nat_tests, list_all-append, AllPass-from_list_all, fold-append, slice_split_none, slice_split_at, decimal_by_steps, decimal_nonempty, length-decimal-le, is_blank, is_filled, words_of, decimal_of, is_digit, value_of, Place, Command, Refused, UnknownCommand, Asks as LineAsks, filled_form, line_form, placing, words_form, Admit, form_by, form_in, form_of, is_name, is_name_byte, operator_form, operator_line, session_form}
use Rattle.tenancy_script.proofs.TextLemmas.{is_plain, is_not, take-front, drop-front, without_cr-plain}

-- a byte that passes a test differs from one that fails it
differs : (p : ℕ → Bool) (b x : ℕ) → p b ≡ true → p x ≡ false → eqb b x ≡ false
differs p b x passes fails = grind arith

-- bytes that pass a test, if LF and CR fail it
plain_from : (p : ℕ → Bool) → p 10 ≡ false → p 13 ≡ false → (bytes : List ℕ) → list_all p bytes ≡ true → list_all is_plain bytes ≡ true
plain_from p lf cr [] all = refl
plain_from p lf cr (b ∷ bytes) all =
    let parts = and_parts (p b) (list_all p bytes) all in
    and_from _ _ (and_from _ _ (ap not (differs p b 10 parts.0 lf)) (ap not (differs p b 13 parts.0 cr))) (plain_from p lf cr bytes parts.1)

-- a byte that isn't a blank
abbrev pub is_solid : ℕ → Bool
is_solid b = not (is_blank b)

no_blank : (b : ℕ) → eqb b 32 ≡ false → eqb b 9 ≡ false → eqb b 13 ≡ false → is_solid b ≡ true
no_blank b space tab cr = grind arith

solid_from : (p : ℕ → Bool) → p 32 ≡ false → p 9 ≡ false → p 13 ≡ false → (bytes : List ℕ) → list_all p bytes ≡ true → list_all is_solid bytes ≡ true
solid_from p space tab cr [] all = refl
solid_from p space tab cr (b ∷ bytes) all =
    let parts = and_parts (p b) (list_all p bytes) all in
    and_from _ _ (no_blank b (differs p b 32 parts.0 space) (differs p b 9 parts.0 tab) (differs p b 13 parts.0 cr)) (solid_from p space tab cr bytes parts.1)

-- the bytes of a name
name_bytes : (name : List ℕ) → is_name name ≡ true → list_all is_name_byte name ≡ true
name_bytes name is = (and_parts (nat_lt 0 (length name) && nat_le (length name) 32) (list_all is_name_byte name) is).1

name_some : (name : List ℕ) → is_name name ≡ true → 0 < length name
name_some name is = grind arith

name_plain : (name : List ℕ) → is_name name ≡ true → list_all is_plain name ≡ true
name_plain name is = plain_from is_name_byte refl refl name (name_bytes name is)

name_solid : (name : List ℕ) → is_name name ≡ true → list_all is_solid name ≡ true
name_solid name is = solid_from is_name_byte refl refl refl name (name_bytes name is)

-- the digits of a number, and their value
digit_one : (n : ℕ) → n < 10 → (list_all is_digit ((48 + n) ∷ []) ≡ true) × (value_of ((48 + n) ∷ []) ≡ n)
digit_one n small = grind arith

digit_more : (n : ℕ) (ds : List ℕ) → 10 ≤ n → (list_all is_digit ds ≡ true) × (value_of ds ≡ n / 10) → (list_all is_digit (ds ++ (48 + n % 10) ∷ []) ≡ true) × (value_of (ds ++ (48 + n % 10) ∷ []) ≡ n)
digit_more n ds big h = grind (arith, fold-append, list_all-append)

digits_told : (n : ℕ) → n < 2 ^ 64 → (list_all is_digit (decimal n) ≡ true) × (value_of (decimal n) ≡ n)
digits_told n small = decimal_by_steps (λ m ds. (list_all is_digit ds ≡ true) × (value_of ds ≡ m)) digit_one digit_more n small

pub decimal_of-decimal : (bits n : ℕ) → n < 2 ^ 64 → n < 2 ^ bits → decimal_of bits (decimal n) ≡ Some n
decimal_of-decimal bits n small fits = grind (arith, digits_told, decimal_nonempty)

decimal_plain : (n : ℕ) → n < 2 ^ 64 → list_all is_plain (decimal n) ≡ true
decimal_plain n small = plain_from is_digit refl refl (decimal n) (digits_told n small).0

decimal_solid : (n : ℕ) → n < 2 ^ 64 → list_all is_solid (decimal n) ≡ true
decimal_solid n small = solid_from is_digit refl refl refl (decimal n) (digits_told n small).0

-- two words and the blank between them
all_solid : (bytes : List ℕ) → list_all is_solid bytes ≡ true → All (λ b. is_blank b ≡ false) bytes
all_solid bytes all = λ k d within. is_not _ (AllPass-from_list_all is_solid bytes all k d within)

filled : (x y : List ℕ) → 0 < length x → 0 < length y → filter is_filled (x ∷ y ∷ []) ≡ x ∷ y ∷ []
filled x y some more = grind arith

two_words : (x y : List ℕ) → list_all is_solid x ≡ true → list_all is_solid y ≡ true → 0 < length x → 0 < length y → words_of (x ++ 32 ∷ y) ≡ x ∷ y ∷ []
two_words x y first second some more = search (slice_split_at, all_solid, slice_split_none, filled, arith)

-- the first word of a line, and the rest after it
first_blank : (word rest : List ℕ) → list_all is_solid word ≡ true → position_or_len is_blank (word ++ 32 ∷ rest) ≡ length word
first_blank [] rest all = refl
first_blank (b ∷ word) rest all =
    let parts = and_parts (is_solid b) (list_all is_solid word) all in
    let later = first_blank word rest parts.1 in
    ap (λ v. cond v (1 + position_or_len is_blank (word ++ 32 ∷ rest)) 0) parts.0 ∙ omega (arith, later)

first_word : (word rest : List ℕ) → list_all is_solid word ≡ true → before_first is_blank (word ++ 32 ∷ rest) ≡ word
first_word word rest all = ap (λ n. take n (word ++ 32 ∷ rest)) (first_blank word rest all) ∙ take-front word (32 ∷ rest)

other_words : (word rest : List ℕ) → list_all is_solid word ≡ true → after_first is_blank (word ++ 32 ∷ rest) ≡ rest
other_words word rest all = ap (λ n. drop (n + 1) (word ++ 32 ∷ rest)) (first_blank word rest all) ∙ drop-front word 32 rest

-- a line of a name's session
pub session_plain : (name words : List ℕ) → is_name name ≡ true → list_all is_plain words ≡ true → list_all is_plain (64 ∷ name ++ 32 ∷ words) ≡ true
session_plain name words is plain = list_all-append is_plain name (32 ∷ words) ∙ and_from _ _ (name_plain name is) plain

pub session_is : (name words : List ℕ) → is_name name ≡ true → list_all is_plain words ≡ true → form_of (64 ∷ name ++ 32 ∷ words) ≡ session_form name (line_form words)
unfolding form_in
session_is name words is plain =
    let line : List ℕ = (64 ∷ name) ++ 32 ∷ words in
    let solid : list_all is_solid (64 ∷ name) ≡ true = name_solid name is in
    ap form_in (without_cr-plain line (session_plain name words is plain))
    ∙ ap (λ word. form_by word (after_first is_blank line)) (first_word (64 ∷ name) words solid)
    ∙ ap (form_by (64 ∷ name)) (other_words (64 ∷ name) words solid)
    ∙ ap (λ v. cond v (session_form name (line_form words)) (operator_form None)) is

-- the words of a placing
abbrev pub placing_words : ℕ → ℕ → List ℕ
placing_words seed effort = codes "place " ++ (decimal seed ++ 32 ∷ decimal effort)

pub placing_plain : (seed effort : ℕ) → seed < 2 ^ 64 → effort < 2 ^ 32 → list_all is_plain (placing_words seed effort) ≡ true
placing_plain seed effort s e = list_all-append is_plain (decimal seed) (32 ∷ decimal effort) ∙ and_from _ _ (decimal_plain seed s) (decimal_plain effort (omega (arith, e)))

pub placing_is : (seed effort : ℕ) → seed < 2 ^ 64 → effort < 2 ^ 32 → line_form (placing_words seed effort) ≡ LineAsks (Command (Place seed effort))
placing_is seed effort s e =
    let wide : effort < 2 ^ 64 = omega (arith, e) in
    let words : words_of (placing_words seed effort) ≡ codes "place" ∷ decimal seed ∷ decimal effort ∷ [] =
    ap (λ rest. codes "place" ∷ rest) (two_words (decimal seed) (decimal effort) (decimal_solid seed s) (decimal_solid effort wide) (decimal_nonempty seed s) (decimal_nonempty effort wide)) in
    let first : length (decimal seed) ≤ 20 = length-decimal-le 20 seed (omega arith) (omega (arith, s)) s in
    let second : length (decimal effort) ≤ 20 = length-decimal-le 20 effort (omega arith) (omega (arith, e)) wide in
    let long : length (placing_words seed effort) ≤ 4096 = omega (arith, first, second, length-append (decimal seed) (32 ∷ decimal effort)) in
    let short : nat_lt 4096 (length (placing_words seed effort)) ≡ false = grind (arith, nat_tests, long) in
    ap (words_form (length (placing_words seed effort))) words
    ∙ ap (λ v. cond v (LineAsks (Refused UnknownCommand)) (filled_form (codes "place") (decimal seed ∷ decimal effort ∷ []))) short
    ∙ ap (λ n. LineAsks (placing n (decimal_of 32 (decimal effort)))) (decimal_of-decimal 64 seed s s)
    ∙ ap (λ n. LineAsks (placing (Some seed) n)) (decimal_of-decimal 32 effort wide e)

-- an admission
abbrev pub admission_line : List ℕ → ℕ → List ℕ
admission_line name width = codes "op admit " ++ (name ++ 32 ∷ decimal width)

pub admission_plain : (name : List ℕ) (width : ℕ) → is_name name ≡ true → width < 2 ^ 32 → list_all is_plain (admission_line name width) ≡ true
admission_plain name width is w = list_all-append is_plain name (32 ∷ decimal width) ∙ and_from _ _ (name_plain name is) (decimal_plain width (omega (arith, w)))

pub admission_is : (name : List ℕ) (width : ℕ) → is_name name ≡ true → width < 2 ^ 32 → form_of (admission_line name width) ≡ operator_form (Some (Admit name width))
unfolding form_in
admission_is name width is w =
    let wide : width < 2 ^ 64 = omega (arith, w) in
    let words : words_of (codes "admit " ++ (name ++ 32 ∷ decimal width)) ≡ codes "admit" ∷ name ∷ decimal width ∷ [] =
    ap (λ rest. codes "admit" ∷ rest) (two_words name (decimal width) (name_solid name is) (decimal_solid width wide) (name_some name is) (decimal_nonempty width wide)) in
    ap form_in (without_cr-plain (admission_line name width) (admission_plain name width is w))
    ∙ ap (λ ws. operator_form (operator_line ws)) words
    ∙ ap (λ v. operator_form (cond v (option_map (Admit name) (decimal_of 32 (decimal width))) None)) is
    ∙ ap (λ n. operator_form (option_map (Admit name) n)) (decimal_of-decimal 32 width wide w)
