-- Private: what is left of a text that is read, or compared with what is printed.
use Rattle.std.specs.Prelude.{ℕ, ◌≡◌, ◌<◌, ◌^◌, ◌==◌, ◌||◌, Bool, true, false, not, List, [], ◌∷◌, ◌++◌, length, decimal, Result, OnOk, OnErr, Option, Some, None, option_and_then, if◌then◌else◌}
use Rattle.std.specs.List.{list_all}
use Rattle.layout_files.specs.Prelude.{Stops, is_no_digit}

-- the text without these bytes at its front; `None` if it doesn't begin with them
abbrev pub without_front : List ℕ → List ℕ → Option (List ℕ)
without_front [] text = Some text
without_front (byte ∷ bytes) [] = None
without_front (byte ∷ bytes) (first ∷ others) = if byte == first then without_front bytes others else None

-- what is left of a text after these bytes; `None` if it has differed before, or differs here
abbrev pub left_after : Option (List ℕ) → List ℕ → Option (List ℕ)
left_after left bytes = option_and_then (without_front bytes) left

-- the number of bytes that are left, 0 if the text has differed
abbrev pub size : Option (List ℕ) → ℕ
size None = 0
size (Some left) = length left

-- whether a line begins here that is not empty
abbrev pub begins_line : List ℕ → Bool
begins_line [] = false
begins_line (byte ∷ rest) = not (byte == 10)

abbrev pub has_line : Option (List ℕ) → Bool
has_line None = false
has_line (Some left) = begins_line left

-- a comparison ends well just if the text is this one
pub record IsSame {E : Type 0} (outcome : Result (Unit {0}) E) (text printed : List ℕ) : Type 0 where
  pub ok : OnOk outcome (text ≡ printed)
  pub err : OnErr outcome (text ≡ printed → ⊥)

-- a space or a line end
abbrev pub is_word_end : ℕ → Bool
is_word_end byte = (byte == 32) || (byte == 10)

-- no byte of it ends a word
abbrev pub IsPlain : List ℕ → Type 0
IsPlain word = list_all (λ byte. not (is_word_end byte)) word ≡ true

-- where a number of 32 bits is, it is read
abbrev pub IsNumberRead : Option (List ℕ) → ℕ → Option (List ℕ) → Type 0
IsNumberRead old number new = (n : ℕ) (after : List ℕ) → n < 2 ^ 32 → Stops is_no_digit after → old ≡ Some (decimal n ++ after) → (number ≡ n) × (new ≡ Some after)

-- where a word is, it is read
abbrev pub IsWordRead : Option (List ℕ) → List ℕ → Option (List ℕ) → Type 0
IsWordRead old word new = (w after : List ℕ) → IsPlain w → Stops is_word_end after → old ≡ Some (w ++ after) → (word ≡ w) × (new ≡ Some after)
