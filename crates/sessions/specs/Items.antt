-- The items of a session's input: what its lines ask, in order. A command with a text is one item
-- together with it.
use Rattle.std.specs.Prelude.{ℕ, ◌-◌, List, [], ◌∷◌, ◌++◌, length, take, Bool, true, false, Option, Some, None, option_map, slice_index, ◌==◌, if◌then◌else◌}
use Rattle.sessions.specs.declared.pending_text.TheConstants.{MAX_KEPT}
use Rattle.sessions.specs.Prelude.{physical_lines}
use Rattle.sessions.specs.declared.line.SessionLine.{SessionLine}
use Rattle.sessions.specs.declared.line.SessionLine.TheVariants.{Blank, Command, Refused}
use Rattle.sessions.specs.declared.line.TextKind.{TextKind}
use Rattle.sessions.specs.declared.line.LineForm.{LineForm}
use Rattle.sessions.specs.declared.line.LineForm.TheVariants.{Asks, Begins}
use Rattle.sessions.specs.declared.refusal.SessionRefusal.TheVariants.{UnfinishedUpload}
use Rattle.sessions.specs.SessionLines.{line_form, text_command}

-- a line without the CR at its end
abbrev pub without_cr : List ℕ → List ℕ
without_cr line = if slice_index line (length line - 1) == 13 then take (length line - 1) line else line

abbrev pub is_point : List ℕ → Bool
is_point (b ∷ []) = b == 46
is_point line = false

-- a line that is `.` alone ends a text
abbrev pub ends_text : List ℕ → Bool
ends_text line = is_point (without_cr line)

-- the text up to a line that is `.` alone, each of its lines ended by LF, the CR before it dropped;
-- None without such a line
abbrev pub text_ahead : List (List ℕ) → Option (List ℕ)
text_ahead [] = None
text_ahead (line ∷ lines) = if ends_text line then Some [] else option_map (λ text. without_cr line ++ 10 ∷ text) (text_ahead lines)

-- the part of a text that is kept: its first 1,048,577 bytes
unfoldable pub kept_part : List ℕ → List ℕ
kept_part text = take MAX_KEPT text

-- the command with its text, of which the first 1,048,577 bytes are kept; a text that doesn't end
-- is refused
abbrev pub text_item : TextKind → Option (List ℕ) → SessionLine
text_item kind (Some text) = Command (text_command kind (kept_part text))
text_item kind None = Refused UnfinishedUpload

-- a line without words is no item
abbrev pub with_item : SessionLine → List SessionLine → List SessionLine
with_item Blank items = items
with_item item items = item ∷ items

-- the items of a line of that form and of the lines after it
abbrev pub with_form : LineForm → List (List ℕ) → List SessionLine → List SessionLine
with_form (Asks item) lines items = with_item item items
with_form (Begins kind) lines items = text_item kind (text_ahead lines) ∷ items

abbrev pub begins_text : LineForm → Bool
begins_text (Begins kind) = true
begins_text (Asks item) = false

-- the items of these lines; the lines of a text are not items themselves
abbrev pub items_from : Bool → List (List ℕ) → List SessionLine
items_from within [] = []
items_from true (line ∷ lines) = if ends_text line then items_from false lines else items_from true lines
items_from false (line ∷ lines) = with_form (line_form (without_cr line)) lines (items_from (begins_text (line_form (without_cr line))) lines)

-- the items of an input
abbrev pub items_of : List ℕ → List SessionLine
items_of input = items_from false (physical_lines input)
