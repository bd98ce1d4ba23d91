-- The results of reading lines.
use Rattle.device_lines.proofs.Prelude.{◌≡◌, ℕ, ◌+◌, ◌-◌, ◌<◌, ◌≤◌, List, [], ◌∷◌, length, take, drop, position, Result, Ok, Err, Option, Some, None, Bool, true, false, cond, refl, sym, ap, ◌∙◌, arith, length-drop, nat_lt, position_or_len, slice_split, nat_tests, take_all, slice_split_first, slice_split_none, fails_before_first, cond_some, DeviceFault, InputFault, TextError, NoMemory, Fault, IsError, is_feed, lines_of, IsStep, Seen, after_line, end_of, error_at, line_read, lines_read, plus}

-- a line before others
pub line_first : (seen next : Seen) (number n : ℕ) (line : List ℕ) (lines : List (List ℕ)) → n ≡ plus number 1 → line_read seen line n ≡ Ok next → lines_read (line ∷ lines) seen number ≡ lines_read lines next n
unfolding lines_read
line_first seen next number n line lines at is = ap (λ k. after_line (lines_read lines) k (line_read seen line k)) (sym at) ∙ ap (after_line (lines_read lines) n) is

pub line_refused : (seen new : Seen) (number n : ℕ) (line : List ℕ) (lines : List (List ℕ)) (refusal : TextError DeviceFault) → n ≡ plus number 1 → IsStep (line_read seen line n) new (Err refusal) →
    IsError (lines_read (line ∷ lines) seen number) (error_at n refusal)
unfolding lines_read
line_refused seen new number n line lines NoMemory at is = tt
line_refused seen new number n line lines (Fault fault) at is = ap (λ k. after_line (lines_read lines) k (line_read seen line k)) (sym at) ∙ ap (after_line (lines_read lines) n) is

-- without lines
pub none_left : (seen : Seen) (number : ℕ) → lines_read [] seen number ≡ Ok (seen, number)
unfolding lines_read
none_left seen number = refl

abbrev pub rest_size : Option (List ℕ) → ℕ
rest_size None = 0
rest_size (Some rest) = length rest + 1

pub lines_refused : (meant : Result (Seen × ℕ) InputFault) (error : TextError InputFault) → IsError meant error → IsError (end_of meant) error
lines_refused meant NoMemory is = tt
lines_refused meant (Fault fault) is = ap end_of is

-- the first line of a text
pub split_first : (text : List ℕ) (end : ℕ) → Some end ≡ position is_feed text → lines_of text ≡ take end text ∷ lines_of (take (length text - (end + 1)) (drop (end + 1) text))
unfolding lines_of
split_first text end is =
    let found = cond_some (nat_lt (position_or_len is_feed text) (length text)) (position_or_len is_feed text) end (sym is) in
    let test : nat_lt (position_or_len is_feed text) (length text) ≡ true = found.0 in
    let place : position_or_len is_feed text ≡ end = found.1 in
    let within : position_or_len is_feed text < length text = grind (arith, nat_tests, test) in
    let later : take (length text - (end + 1)) (drop (end + 1) text) ≡ drop (end + 1) text = take_all _ _ (omega (arith, length-drop (end + 1) text)) in
    slice_split_first is_feed text 0 within ∙ ap (λ n. take n text ∷ slice_split is_feed (drop (n + 1) text)) place ∙ ap (λ rest. take end text ∷ slice_split is_feed rest) (sym later)

pub split_whole : (text : List ℕ) → None ≡ position is_feed text → lines_of text ≡ text ∷ []
unfolding lines_of
split_whole text is = slice_split_none is_feed text (λ k d inside. fails_before_first is_feed text k d (omega (arith, inside, past (nat_lt (position_or_len is_feed text) (length text)) refl is)))
  where
    past : (b : Bool) → nat_lt (position_or_len is_feed text) (length text) ≡ b → None ≡ cond b (Some (position_or_len is_feed text)) None → length text ≤ position_or_len is_feed text
    past true e none = cc
    past false e none = grind (arith, nat_tests, e)
