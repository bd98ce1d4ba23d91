-- What a client's lines hand over.
use Rattle.std.specs.Prelude.{ℕ, ◌+◌, Bool, ◌||◌, List, [], ◌∷◌, ◌++◌, length, codes, nat_lt, nat_le, if◌then◌else◌}
use Rattle.std.specs.Str.{bytes_eq}
use Rattle.front_lines.specs.Prelude.{words_of, tagged_text, with_feed}
use Rattle.front_lines.specs.Speakers.{with_marks, tag_in}
use Rattle.front_lines.specs.declared.speaker.Speaker.{Speaker}
use Rattle.front_lines.specs.declared.speaker.Speaker.TheVariants.{Operator, Tenant}
use Rattle.front_lines.specs.declared.client_text.TheConstants.{MAX_COMMAND, MAX_OPERATOR, MAX_TEXT}
use Rattle.front_lines.specs.declared.client_text.Stage.{Stage}
use Rattle.front_lines.specs.declared.client_text.Stage.TheVariants.{Lines, Outside, Within, TooLong}
use Rattle.front_lines.specs.declared.client_text.Form.{Form}
use Rattle.front_lines.specs.declared.client_text.Form.TheVariants.{Blank, Begins, Whole}
use Rattle.front_lines.specs.declared.client_text.Taken.{Taken}
use Rattle.front_lines.specs.declared.client_text.Taken.TheVariants.{Command, Nothing as TakenNothing, Refused}
use Rattle.front_lines.specs.declared.refusal.Refusal.{Refusal}
use Rattle.front_lines.specs.declared.refusal.Refusal.TheVariants.{EndsInput, LineTooLong, TextTooLong}

-- where a client is, and the lines so far of the netlist that it is in, each ended by LF
pub record ClientState : Type 0 where
  pub stage : Stage
  pub text : List ℕ

abbrev pub outside : ClientState
outside = record { stage = Outside; text = [] }

-- where a client is that has said nothing
abbrev pub begins_as : Speaker → ClientState
begins_as (Tenant tag) = outside
begins_as (Operator id) = record { stage = Lines; text = [] }

abbrev pub within : List ℕ → ClientState
within text = record { stage = Within; text = text }

-- what a line completes: a command, or a refusal
pub data Item : Type 0 where
  Nothing : Item
  HandOver : List ℕ → Item
  Refuse : Refusal → Item

abbrev pub item_in : Taken → Item
item_in TakenNothing = Nothing
item_in (Command text) = HandOver text.items
item_in (Refused refusal) = Refuse refusal

-- `upload` and `change` begin a netlist
abbrev pub form_of_words : List (List ℕ) → Form
form_of_words [] = Blank
form_of_words (word ∷ []) = if bytes_eq word (codes "upload") || bytes_eq word (codes "change") then Begins else Whole
form_of_words (word ∷ next ∷ words) = Whole

abbrev pub form_of : List ℕ → Form
form_of line = form_of_words (words_of line)

-- a line that is `.` alone ends a netlist; a CR after it is dropped
abbrev pub is_end : List ℕ → Bool
is_end line = bytes_eq line (46 ∷ []) || bytes_eq line (46 ∷ 13 ∷ [])

-- a line outside of netlists, with its LF, as a command
abbrev pub pushed : List ℕ → Item
pushed line = HandOver (with_feed line)

abbrev pub item_of_any : Form → List ℕ → Item
item_of_any Blank line = Nothing
item_of_any Begins line = pushed line
item_of_any Whole line = pushed line

abbrev pub item_of_form : Form → List ℕ → Item
item_of_form Blank line = Nothing
item_of_form Begins line = Nothing
item_of_form Whole line = pushed line

abbrev pub item_outside : List ℕ → Item
item_outside line = if nat_lt MAX_COMMAND (length line) then Refuse LineTooLong else item_of_form (form_of line) line

abbrev pub item_within : List ℕ → List ℕ → Item
item_within text line = if is_end line then HandOver (text ++ with_feed line) else Nothing

abbrev pub item_too_long : List ℕ → Item
item_too_long line = if is_end line then Refuse TextTooLong else Nothing

-- the operator has no netlists. His line `end` would end the service, and has no reply
abbrev pub item_operator : List ℕ → Item
item_operator line = if nat_lt MAX_OPERATOR (length line) then Refuse LineTooLong else if bytes_eq line (codes "end") then Refuse EndsInput else item_of_any (form_of line) line

abbrev pub item_at : Stage → List ℕ → List ℕ → Item
item_at Outside text line = item_outside line
item_at Within text line = item_within text line
item_at TooLong text line = item_too_long line
item_at Lines text line = item_operator line

-- what a line completes
abbrev pub item_of : ClientState → List ℕ → Item
item_of state line = item_at state.stage state.text line

abbrev pub after_form : Form → List ℕ → List ℕ → ClientState
after_form Blank text line = record { stage = Outside; text = text }
after_form Begins text line = within (with_feed line)
after_form Whole text line = record { stage = Outside; text = text }

abbrev pub after_outside : List ℕ → List ℕ → ClientState
after_outside text line = if nat_lt MAX_COMMAND (length line) then record { stage = Outside; text = text } else after_form (form_of line) text line

-- a netlist with more than MAX_TEXT bytes is forgotten
abbrev pub after_within : List ℕ → List ℕ → ClientState
after_within text line =
    if is_end line then outside else if nat_le MAX_TEXT (length text + length line) then record { stage = TooLong; text = [] } else within (text ++ with_feed line)

abbrev pub after_too_long : List ℕ → List ℕ → ClientState
after_too_long text line = if is_end line then record { stage = Outside; text = text } else record { stage = TooLong; text = text }

abbrev pub state_at : Stage → List ℕ → List ℕ → ClientState
state_at Outside text line = after_outside text line
state_at Within text line = after_within text line
state_at TooLong text line = after_too_long text line
state_at Lines text line = record { stage = Lines; text = text }

-- where a client is after a line
abbrev pub state_after : ClientState → List ℕ → ClientState
state_after state line = state_at state.stage state.text line

-- and after lines
abbrev pub state_from : ClientState → List (List ℕ) → ClientState
state_from state [] = state
state_from state (line ∷ lines) = state_from (state_after state line) lines

-- what a line hands over: each line of the command that it completes, with the tag in front
abbrev pub handed_for : Speaker → Item → List ℕ
handed_for who Nothing = []
handed_for who (HandOver command) = tagged_text (tag_in who) (with_marks who command)
handed_for who (Refuse refusal) = []

-- all that lines hand over
abbrev pub handed : Speaker → ClientState → List (List ℕ) → List ℕ
handed who state [] = []
handed who state (line ∷ lines) = handed_for who (item_of state line) ++ handed who (state_after state line) lines
