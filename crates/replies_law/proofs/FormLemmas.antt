-- Replies of each form.
use Rattle.replies_law.proofs.Prelude.{◌≡◌, ℕ, zero, suc, ◌+◌, ◌<◌, ◌≤◌, ◌/◌, ◌%◌, ◌^◌, true, cond, List, [], ◌∷◌, ◌++◌, length, drop, codes, decimal, Option, Some, None, refl, sym, ap, ◌∙◌, arith, length-append, append_assoc, append-nil, nat_le, nat_lt, option_map, option_and_then, unwrap_or, list_all, and_from, nat_tests, list_all-append, fold-append, decimal_by_steps, decimal_nonempty, drop-append_seam, take-append_seam, decimal_of, is_digit, value_of, after_prefix, kind_and_length, line_of, lines_length, owners_length, session_length, told_bytes, told_file, told_owners, number_within, NoFeed}
use Rattle.replies_law.proofs.FeedLemmas.{IsLine, decimal_no_feed, ended_length, line_is_first, line_parts, no_feed-append}

-- the digits of a number, and their value
digit_one : (n : ℕ) → n < 10 → (list_all is_digit ((48 + n) ∷ []) ≡ true) × (value_of ((48 + n) ∷ []) ≡ n)
digit_one n small = grind arith

digit_more : (n : ℕ) (ds : List ℕ) → 10 ≤ n → (list_all is_digit ds ≡ true) × (value_of ds ≡ n / 10) → (list_all is_digit (ds ++ (48 + n % 10) ∷ []) ≡ true) × (value_of (ds ++ (48 + n % 10) ∷ []) ≡ n)
digit_more n ds big h = grind (arith, fold-append, list_all-append)

decimal_of-decimal : (n : ℕ) → n < 2 ^ 64 → decimal_of 64 (decimal n) ≡ Some n
decimal_of-decimal n small =
    let told = decimal_by_steps (λ m ds. (list_all is_digit ds ≡ true) × (value_of ds ≡ m)) digit_one digit_more n small in
    let ds : List ℕ = decimal n in
    let some : nat_le 1 (length ds) ≡ true = grind (arith, nat_tests, decimal_nonempty n small) in
    let less : nat_lt (value_of ds) (2 ^ 64) ≡ true = ap (λ v. nat_lt v (2 ^ 64)) told.1 ∙ grind (arith, nat_tests, small) in
    ap (λ v. cond v (Some (value_of ds)) None) (and_from _ _ (and_from _ _ told.0 some) less) ∙ ap Some told.1

-- a line with another beginning announces no file
begins_more : (start line more : List ℕ) → after_prefix start (line ++ more) ≡ None → after_prefix start line ≡ None
begins_more [] line more never = cc
begins_more (a ∷ start) [] more never = refl
begins_more (a ∷ start) (b ∷ line) more never = grind (arith, begins_more start line more)

-- the bytes of a line and the rest after it
line_before : (line rest : List ℕ) → line_of (length line + 1) (line ++ 10 ∷ rest) ≡ line
line_before line rest = grind (arith, take-append_seam line (10 ∷ rest))

is_within : (bytes : List ℕ) (n : ℕ) → n ≤ length bytes → number_within bytes n ≡ Some n
is_within bytes n few = grind arith

-- the length of a session's reply whose first line announces a number of bytes
told_length : (line rest : List ℕ) (told : Option (List ℕ × ℕ)) → NoFeed line → told_file line ≡ told → told_bytes told ≤ length rest →
    session_length (line ++ 10 ∷ rest) ≡ Some (length line + 1 + told_bytes told)
told_length line rest told all is few = grind (arith, length-append, ended_length, line_before)

-- a session's line that announces no file
pub plain_line : (text rest : List ℕ) → IsLine text → after_prefix (codes "text ") text ≡ None → session_length (text ++ rest) ≡ Some (length text)
plain_line text rest is never =
    let parts = line_parts text is in
    let none : told_file parts.line ≡ None = ap (option_and_then kind_and_length) (begins_more (codes "text ") parts.line (10 ∷ []) (ap (after_prefix (codes "text ")) (sym parts.is) ∙ never)) in
    let long : length parts.line + 1 + 0 ≡ length text = omega (arith, length-append parts.line (10 ∷ []), ap length parts.is) in
    ap (λ t. session_length (t ++ rest)) parts.is ∙ ap session_length (append_assoc parts.line (10 ∷ []) rest)
    ∙ told_length parts.line rest None parts.other none (omega arith) ∙ ap Some long

-- and one that a file follows
pub file_behind : (head kind file rest : List ℕ) → NoFeed head → told_file (head ++ decimal (length file)) ≡ option_map (λ n. (kind, n)) (decimal_of 64 (decimal (length file))) → length file < 2 ^ 64 →
    session_length ((head ++ decimal (length file) ++ 10 ∷ file) ++ rest) ≡ Some (length (head ++ decimal (length file) ++ 10 ∷ file))
file_behind head kind file rest all tells small = grind (arith, decimal_of-decimal, length-append, append_assoc, told_length, no_feed-append, decimal_no_feed)

-- a number of lines
abbrev pub AreLines : ℕ → List ℕ → Type 0
AreLines zero text = text ≡ []
AreLines (suc count) text = (first : List ℕ) × (more : List ℕ) × IsLine first × AreLines count more × (text ≡ first ++ more)

pub lines_are_first : (count : ℕ) (text rest : List ℕ) → AreLines count text → lines_length count (text ++ rest) ≡ Some (length text)
lines_are_first zero text rest are = ap (λ t. Some (length t)) (sym are)
lines_are_first (suc count) text rest are =
    let first = are.0 in
    let more = are.1 in
    let e : text ++ rest ≡ first ++ (more ++ rest) = ap (λ t. t ++ rest) are.4 ∙ append_assoc first more rest in
    let long : length first + length more ≡ length text = omega (arith, length-append first more, ap length are.4) in
    ap (lines_length (suc count)) e
    ∙ ap (λ o. option_and_then (λ n. option_map (λ m. n + m) (lines_length count (drop n (first ++ (more ++ rest))))) o) (line_is_first first (more ++ rest) are.2)
    ∙ ap (λ t. option_map (λ m. length first + m) (lines_length count t)) (drop-append_seam first (more ++ rest))
    ∙ ap (option_map (λ m. length first + m)) (lines_are_first count more rest are.3)
    ∙ ap Some long

pub lines_more : (count : ℕ) (text line : List ℕ) → AreLines count text → IsLine line → AreLines (count + 1) (text ++ line)
lines_more zero text line are is = (line, [], is, refl, (ap (λ t. t ++ line) are ∙ sym (append-nil line)))
lines_more (suc count) text line are is = grind (arith, append_assoc, lines_more count are.1 line are.3 is)

-- the owners are a number of lines after one that announces the number
pub owners_are_read : (text rest : List ℕ) (count : ℕ) → count < 2 ^ 64 → AreLines count text →
    owners_length ((codes "owners " ++ decimal count ++ 10 ∷ text) ++ rest) ≡ Some (length (codes "owners " ++ decimal count ++ 10 ∷ text))
owners_are_read text rest count small are =
    let line = codes "owners " ++ decimal count in
    let other : NoFeed line = no_feed-append (codes "owners ") (decimal count) refl (decimal_no_feed count) in
    let bytes = line ++ 10 ∷ (text ++ rest) in
    let e : (codes "owners " ++ decimal count ++ 10 ∷ text) ++ rest ≡ bytes = append_assoc line (10 ∷ text) rest in
    let told : told_owners line ≡ count = ap (λ o. unwrap_or o 0) (decimal_of-decimal count small) in
    let past : drop (length line + 1) bytes ≡ text ++ rest = skip line (text ++ rest) in
    let long : length line + 1 + length text ≡ length (line ++ 10 ∷ text) = omega (arith, length-append line (10 ∷ text)) in
    ap owners_length e
    ∙ ap (λ o. option_and_then (λ n. option_map (λ m. n + m) (lines_length (told_owners (line_of n bytes)) (drop n bytes))) o) (ended_length line (text ++ rest) other)
    ∙ ap (λ l. option_map (λ m. length line + 1 + m) (lines_length (told_owners l) (drop (length line + 1) bytes))) (line_before line (text ++ rest))
    ∙ ap (λ n. option_map (λ m. length line + 1 + m) (lines_length n (drop (length line + 1) bytes))) told
    ∙ ap (λ t. option_map (λ m. length line + 1 + m) (lines_length count t)) past
    ∙ ap (option_map (λ m. length line + 1 + m)) (lines_are_first count text rest are)
    ∙ ap Some long
  where
    skip : (line later : List ℕ) → drop (length line + 1) (line ++ 10 ∷ later) ≡ later
    skip [] later = refl
    skip (b ∷ line) later = let e : length (b ∷ line) + 1 ≡ suc (length line + 1) = omega arith in ap (λ n. drop n ((b ∷ line) ++ 10 ∷ later)) e ∙ skip line later
