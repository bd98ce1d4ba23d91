-- The lines of the list.
use Rattle.std.specs.Prelude.{ℕ, ◌≡◌, ◌==◌, List, Some}
use Rattle.std.specs.List.{before_first, after_first}
use Rattle.line_text.specs.Decimal.{decimal_of}
use Rattle.whole_scripts.specs.declared.row.Row.{Row}

-- the text before its first blank
abbrev pub ahead : List ℕ → List ℕ
ahead text = before_first (λ byte. byte == 32) text

-- the text after it
abbrev pub text_after : List ℕ → List ℕ
text_after text = after_first (λ byte. byte == 32) text

-- a name, a status and words, with one blank after the first and one after the second
abbrev pub IsRow : List ℕ → Row → Type 0
IsRow line row = (row.name.now ≡ ahead line) × (decimal_of 32 (ahead (text_after line)) ≡ Some row.status)
    × (row.words.now ≡ text_after (text_after line))
