-- The parts of a line, taken from its front one by one.
use Rattle.std.specs.Prelude.{ℕ, Bool, not, ◌==◌, List, length, take, drop, codes, Option, Some, None, option_map, if◌then◌else◌}
use Rattle.std.specs.Char.{is_ascii_digit}
use Rattle.std.specs.List.{before_first, position_or_len}
use Rattle.std.specs.Str.{bytes_eq}
use Rattle.device_lines.specs.Prelude.{decimal_of}

-- what follows if there is a value; nothing follows from `None`
abbrev pub if_given : {A B : Type 0} → Option A → (A → Option B) → Option B
if_given None next = None
if_given (Some a) next = next a

-- the bytes after a text; `None` if they don't begin with it
unfoldable pub after_text : List ℕ → List ℕ → Option (List ℕ)
after_text text bytes = if bytes_eq (take (length text) bytes) text then Some (drop (length text) bytes) else None

abbrev pub is_other : ℕ → Bool
is_other byte = not (is_ascii_digit byte)

abbrev pub is_space : ℕ → Bool
is_space byte = byte == 32

-- the decimal number of 32 bits in the digits at the front, and the bytes after it
unfoldable pub first_number : List ℕ → Option (ℕ × List ℕ)
first_number bytes = option_map (λ n. (n, drop (position_or_len is_other bytes) bytes)) (decimal_of 32 (before_first is_other bytes))

-- a number or a word that ends before a space, and the bytes after the space
unfoldable pub number_field : List ℕ → Option (ℕ × List ℕ)
number_field bytes = if_given (first_number bytes) (λ taken. option_map (λ rest. (taken.0, rest)) (after_text (codes " ") taken.1))

unfoldable pub word_field : List ℕ → Option (List ℕ × List ℕ)
word_field bytes = option_map (λ rest. (before_first is_space bytes, rest)) (after_text (codes " ") (drop (position_or_len is_space bytes) bytes))
