-- The kind of a line, by its first word.
use Rattle.std.specs.Prelude.{ℕ, Bool, List, [], ◌∷◌, ◌==◌, codes, drop, slice_index, if◌then◌else◌}
use Rattle.std.specs.List.{list_any}
use Rattle.std.specs.Str.{bytes_eq}
use Rattle.blif.specs.declared.keyword.Keyword.{Keyword}
use Rattle.blif.specs.declared.keyword.Keyword.TheVariants.{Model, Inputs, Outputs, Clock, Names, Latch, End, Skipped, Other, Row}

-- whether the word begins a line of delays, areas or loads
abbrev pub is_skipped : List ℕ → Bool
is_skipped word = list_any (bytes_eq word) (
    codes ".area" ∷ codes ".delay" ∷ codes ".wire_load_slope" ∷ codes ".wire" ∷ codes ".input_arrival" ∷ codes ".default_input_arrival"
    ∷ codes ".output_required" ∷ codes ".default_output_required" ∷ codes ".input_drive" ∷ codes ".default_input_drive" ∷ codes ".output_load"
    ∷ codes ".default_output_load" ∷ codes ".max_input_load" ∷ codes ".default_max_input_load" ∷ codes ".cycle" ∷ codes ".clock_event" ∷ [])

-- the kind of a line whose first word begins with a point
abbrev pub command_of : List ℕ → Keyword
command_of word =
    if bytes_eq word (codes ".names") then Names else
    if bytes_eq word (codes ".latch") then Latch else
    if bytes_eq word (codes ".inputs") then Inputs else
    if bytes_eq word (codes ".outputs") then Outputs else
    if bytes_eq word (codes ".clock") then Clock else
    if bytes_eq word (codes ".model") then Model else
    if bytes_eq word (codes ".end") then End else
    if is_skipped word then Skipped else
    Other

-- the kind of a line with these words: a command if the first word begins with a point, otherwise a
-- row
abbrev pub keyword_of : List (List ℕ) → Keyword
keyword_of [] = Row
keyword_of (word ∷ words) = if slice_index word 0 == 46 then command_of word else Row

-- the words after the first
abbrev pub args_of : List (List ℕ) → List (List ℕ)
args_of words = drop 1 words

-- the last of the words
abbrev pub last_of : List (List ℕ) → List ℕ
last_of [] = []
last_of (word ∷ []) = word
last_of (word ∷ next ∷ words) = last_of (next ∷ words)
