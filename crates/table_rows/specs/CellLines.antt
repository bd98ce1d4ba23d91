-- What the lines of a netlist say of a table and of a latch beside their nets.
use Rattle.std.specs.Prelude.{ℕ, ◌==◌, Bool, true, false, not, List, [], ◌∷◌, codes, drop, map, slice_get}
use Rattle.std.specs.List.{prefix_len, take_while}
use Rattle.std.specs.Option.{option_map_or}
use Rattle.line_text.specs.Lines.{JoinedLine}
use Rattle.blif.specs.declared.keyword.Keyword.{Keyword}
use Rattle.blif.specs.declared.keyword.Keyword.TheVariants.{Row}
use Rattle.blif.specs.Keywords.{args_of}
use Rattle.blif.specs.Sights.{kind_of}

-- the lines from the one with this number on
abbrev pub lines_from : List JoinedLine → ℕ → List JoinedLine
lines_from lines number = drop (prefix_len (λ line. not (line.number == number)) lines) lines

abbrev pub is_row_kind : Keyword → Bool
is_row_kind Row = true
is_row_kind keyword = false

-- the rows of the table on the line with this number: the words of the lines after it, up to the
-- first one that is not a row
abbrev pub rows_at : List JoinedLine → ℕ → List (List (List ℕ))
rows_at lines number = map (λ line. line.words) (take_while (λ line. is_row_kind (kind_of line)) (drop 1 (lines_from lines number)))

-- the words of the line with this number, without the first one
abbrev pub args_at : List JoinedLine → ℕ → List (List ℕ)
args_at lines number = option_map_or (λ line. args_of line.words) (slice_get (lines_from lines number) 0) []

-- a latch's type, if its line has one
abbrev pub type_in : List (List ℕ) → List ℕ
type_in (input ∷ output ∷ type ∷ control ∷ words) = type
type_in args = codes "none"

-- a latch's initial value; 3, unknown, if its line has none
abbrev pub init_in : List (List ℕ) → List ℕ
init_in (input ∷ output ∷ init ∷ []) = init
init_in (input ∷ output ∷ type ∷ control ∷ init ∷ words) = init
init_in args = codes "3"
