-- The rows of a table's cover.
use Rattle.std.specs.Prelude.{ℕ, ◌-◌, Bool, true, false, not, ◌&&◌, ◌||◌, ◌==◌, nat_eq, List, [], ◌∷◌, Option, None, Some, codes, length}
use Rattle.std.specs.List.{list_all}
use Rattle.std.specs.Option.{option_map, option_or}
use Rattle.std.specs.Str.{bytes_eq}
use Rattle.blif.specs.declared.cover.Cover.{Cover}
use Rattle.blif.specs.declared.keyword.Keyword.{Keyword}
use Rattle.blif.specs.declared.keyword.Keyword.TheVariants.{Names, Row}
use Rattle.blif.specs.Keywords.{args_of, last_of}

-- a character of a row's first word: 0, 1, or - for an input that may be either
abbrev pub is_literal : ℕ → Bool
is_literal byte = (byte == 48) || ((byte == 49) || (byte == 45))

-- whether the word is a row's output
abbrev pub is_output : List ℕ → Bool
is_output (byte ∷ []) = (byte == 48) || (byte == 49)
is_output word = false

-- whether the words are a row of a table with this many inputs
abbrev pub is_row : ℕ → List (List ℕ) → Bool
is_row inputs (output ∷ []) = nat_eq inputs 0 && is_output output
is_row inputs (pattern ∷ output ∷ []) = not (nat_eq inputs 0) && (nat_eq (length pattern) inputs && (list_all is_literal pattern && is_output output))
is_row inputs words = false

-- whether the row's output is 1
abbrev pub gives_one : List (List ℕ) → Bool
gives_one words = bytes_eq (last_of words) (codes "1")

-- whether the row's output differs from that of the cover's first row
abbrev pub is_mixed : Option Bool → List (List ℕ) → Bool
is_mixed None words = false
is_mixed (Some true) words = not (gives_one words)
is_mixed (Some false) words = gives_one words

-- the cover after a line of this kind, which begins it or continues the given one above the line;
-- its first row fixes the output
abbrev pub cover_after : Keyword → List (List ℕ) → Option Cover → Option Cover
cover_after Names words above = Some (record { inputs = length (args_of words) - 1; output = None })
cover_after Row words above = option_map (λ cover. record { inputs = cover.inputs; output = option_or cover.output (Some (gives_one words)) }) above
cover_after keyword words above = None
