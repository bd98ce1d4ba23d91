-- The printed lines are read back.
use Rattle.device_law.proofs.Prelude.{◌≡◌, ℕ, ◌^◌, ◌<◌, Bool, true, false, not, eqb, List, [], ◌∷◌, ◌++◌, length, decimal, refl, sym, ap, ◌∙◌, arith, append_assoc, list_all, and_from, and_parts, eqb-true, true≢false, decimal_nonempty, list_all-append, slice_split_at, AllPass-from_list_all, is_digit, StateName, state_text, blank_word, DeviceSize, Listed, begins_with_digit, is_name, is_name_byte, listed_in, listed_on, Seen, is_feed, line_read, lines_of, list_line, is_space, IsInside, IsPrintable}
use Rattle.tenant_slot.specs.declared.reply.StateName.TheVariants as State
use Rattle.device_law.proofs.FieldLemmas.{digits_told, number_is, word_is}

-- a name has no space
byte_solid : (b : ℕ) → is_name_byte b ≡ true → not (is_space b) ≡ true
byte_solid b is = grind arith

bytes_solid : (bytes : List ℕ) → list_all is_name_byte bytes ≡ true → list_all (λ b. not (is_space b)) bytes ≡ true
bytes_solid [] all = refl
bytes_solid (b ∷ bytes) all =
    let parts = and_parts (is_name_byte b) (list_all is_name_byte bytes) all in
    and_from _ _ (byte_solid b parts.0) (bytes_solid bytes parts.1)

name_solid : (name : List ℕ) → is_name name ≡ true → list_all (λ b. not (is_space b)) name ≡ true
name_solid name is = grind (arith, bytes_solid)

abbrev pub list_bytes : Listed → List ℕ
list_bytes one = decimal one.id ++ blank_word one.name ++ blank_word (decimal one.offset) ++ blank_word (decimal one.width) ++ blank_word one.state

pub listed_is : (size : DeviceSize) (one : Listed) → IsPrintable one → listed_in size (list_bytes one) ≡ listed_on size one
unfolding listed_in
listed_is size one fits = grind (arith, append_assoc, number_is, word_is, name_solid)

-- the line begins with a digit
digit_first : (ds rest : List ℕ) → list_all is_digit ds ≡ true → 0 < length ds → begins_with_digit (ds ++ rest) ≡ true
digit_first [] rest all some = absurd (omega arith)
digit_first (d ∷ ds) rest all some = (and_parts (is_digit d) (list_all is_digit ds) all).0

-- and has no line feed
abbrev pub is_solid : ℕ → Bool
is_solid b = not (is_feed b)

solid_from : (p : ℕ → Bool) → p 10 ≡ false → (bytes : List ℕ) → list_all p bytes ≡ true → list_all is_solid bytes ≡ true
solid_from p feed [] all = refl
solid_from p feed (b ∷ bytes) all =
    let parts = and_parts (p b) (list_all p bytes) all in
    and_from _ _ (by (eqb b 10) refl parts.0) (solid_from p feed bytes parts.1)
  where
    by : (t : Bool) → eqb b 10 ≡ t → p b ≡ true → not t ≡ true
    by true e passes = absurd (true≢false (sym passes ∙ ap p (eqb-true b 10 e) ∙ feed))
    by false e passes = refl

pub solid_append : (x y : List ℕ) → list_all is_solid x ≡ true → list_all is_solid y ≡ true → list_all is_solid (x ++ y) ≡ true
solid_append x y first second = list_all-append is_solid x y ∙ and_from _ _ first second

pub decimal_solid : (n : ℕ) → n < 2 ^ 32 → list_all is_solid (decimal n) ≡ true
decimal_solid n small = solid_from is_digit refl (decimal n) (digits_told n (omega arith)).0

not_feed : (x : Bool) → not x ≡ true → x ≡ false
not_feed x e = grind arith

pub line_solid : (one : Listed) → IsPrintable one → list_all is_solid one.state ≡ true → list_all is_solid (list_bytes one) ≡ true
line_solid one fits state = grind (arith, solid_from, solid_append, decimal_solid)

pub state_solid : (state : StateName) → list_all is_solid (state_text state) ≡ true
state_solid state = grind arith

pub first_of_lines : (line rest : List ℕ) → list_all is_solid line ≡ true → lines_of (line ++ 10 ∷ rest) ≡ line ∷ lines_of rest
unfolding lines_of
first_of_lines line rest all = slice_split_at is_feed line 10 rest (λ k d inside. not_feed _ (AllPass-from_list_all is_solid line all k d inside)) refl

-- what such a line is read as
pub line_is : (seen : Seen) (number : ℕ) (one : Listed) → IsPrintable one → IsInside seen → line_read seen (list_bytes one) number ≡ list_line seen (listed_on seen.size one)
line_is seen number one fits inside = grind (arith, append_assoc, digit_first, digits_told, decimal_nonempty, listed_is)
