-- The lines of a script that are no comment, not empty and not in a text.
use Rattle.std.specs.Prelude.{ℕ, ◌+◌, ◌==◌, ◌&&◌, Bool, true, false, not, List, [], ◌∷◌, if◌then◌else◌}
use Rattle.std.specs.List.{after_first, before_first}
use Rattle.script_replies.specs.Prelude.{physical_lines, is_blank, is_name, without_blanks, begins_text as line_begins, ends_text, without_cr, line_form}
use Rattle.script_replies.specs.declared.lines.ScriptLine.{ScriptLine}

-- a line with its number, without the CR at its end
pub record NumberedLine : Type 0 where
  pub number : ℕ
  pub text : List ℕ

abbrev pub numbered : ScriptLine → NumberedLine
numbered line = record { number = line.number; text = line.text.now }

-- a line's first word, and its rest after one blank
abbrev pub first_word : List ℕ → List ℕ
first_word line = before_first is_blank (without_blanks line)

abbrev pub rest_after : List ℕ → List ℕ
rest_after line = after_first is_blank (without_blanks line)

-- a line without words, or whose first word begins with `#`, is skipped
abbrev pub is_skipped_by : List ℕ → Bool
is_skipped_by [] = true
is_skipped_by (byte ∷ word) = byte == 35

abbrev pub is_skipped : List ℕ → Bool
is_skipped line = is_skipped_by (first_word line)

-- a text follows a line whose first word is `@` and a name, if the rest asks for one with a text
abbrev pub begins_text_by : List ℕ → List ℕ → Bool
begins_text_by [] rest = false
begins_text_by (byte ∷ name) rest = (byte == 64) && (is_name name && line_begins (line_form rest))

abbrev pub begins_text : List ℕ → Bool
begins_text line = begins_text_by (first_word line) (rest_after line)

-- the lines among these that are asked, the first of which has that number; the lines of a text are
-- left out
abbrev pub asked_from : ℕ → Bool → List (List ℕ) → List NumberedLine
asked_from number within [] = []
asked_from number true (line ∷ lines) = asked_from (number + 1) (not (ends_text line)) lines
asked_from number false (line ∷ lines) =
    if is_skipped (without_cr line) then asked_from (number + 1) false lines
    else record { number = number; text = without_cr line } ∷ asked_from (number + 1) (begins_text (without_cr line)) lines

-- those of a script whose first line has that number
abbrev pub lines_asked : ℕ → List ℕ → List NumberedLine
lines_asked number text = asked_from number false (physical_lines text)
