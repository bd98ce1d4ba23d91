-- The meaning of a script, line by line.
use Rattle.std.specs.Prelude.{ℕ, ◌≡◌, ◌+◌, List, [], ◌∷◌, length, drop, not, codes, Bool, true, false, ◌&&◌, ◌||◌, ◌==◌, nat_le, nat_lt, Option, Some, None, option_map, Result, Ok, Err, ⊤, if◌then◌else◌}
use Rattle.std.specs.Borrow.{Bor}
use Rattle.std.specs.Char.{is_ascii_alphanumeric}
use Rattle.std.specs.List.{list_all, position_or_len, before_first, after_first}
use Rattle.std.specs.Option.{option_map_or}
use Rattle.std.specs.Str.{bytes_eq}
use Rattle.script_text.specs.declared.operator_line.OperatorLine.{OperatorLine}
use Rattle.script_text.specs.declared.operator_line.OperatorLine.TheVariants.{Admit, Evict, Move, List as ListAll, Owners, Step, Take, Put}
use Rattle.script_text.specs.declared.act.Act.{Act}
use Rattle.script_text.specs.declared.act.Act.TheVariants.{Operator, Session}
use Rattle.script_text.specs.Prelude.{LineForm, Asks as LineAsks, Begins as LineBegins, line_form, physical_lines, without_cr, ends_text, text_ahead, text_item, is_blank, words_of, decimal_of}
use Rattle.script_text.specs.declared.form.Form.{Form}
use Rattle.script_text.specs.declared.form.Form.TheVariants.{Skipped, Faulty, Asks, Begins}

-- a letter, a digit or `_`
abbrev pub is_name_byte : ℕ → Bool
is_name_byte b = is_ascii_alphanumeric b || b == 95

-- a name has 1 to 32 name bytes
abbrev pub is_name : List ℕ → Bool
is_name name = nat_lt 0 (length name) && nat_le (length name) 32 && list_all is_name_byte name

-- the operator's line for the words after `op`; `None` if they aren't one
abbrev pub operator_line : List (List ℕ) → Option (OperatorLine (List ℕ))
operator_line (verb ∷ []) =
    if bytes_eq verb (codes "list") then Some ListAll else
    if bytes_eq verb (codes "owners") then Some Owners else None
operator_line (verb ∷ name ∷ []) =
    if bytes_eq verb (codes "evict") && is_name name then Some (Evict name) else
    if bytes_eq verb (codes "take") && is_name name then Some (Take name) else
    if bytes_eq verb (codes "put") then option_map Put (decimal_of 32 name) else None
operator_line (verb ∷ name ∷ number ∷ []) =
    if bytes_eq verb (codes "admit") && is_name name then option_map (Admit name) (decimal_of 32 number) else
    if bytes_eq verb (codes "move") && is_name name then option_map (Move name) (decimal_of 32 number) else
    if bytes_eq verb (codes "step") && is_name name then option_map (Step name) (decimal_of 32 number) else None
operator_line words = None

-- a line of that name's session
abbrev pub session_form : List ℕ → LineForm → Form (List ℕ)
session_form name (LineAsks line) = Asks (Session name line)
session_form name (LineBegins kind) = Begins name kind

-- a line by its first word, and by its rest after one blank
abbrev pub form_by : List ℕ → List ℕ → Form (List ℕ)
form_by [] rest = Skipped
form_by (b ∷ name) rest =
    if b == 35 then Skipped else
    if b == 64 then (if is_name name then session_form name (line_form rest) else Faulty) else
    if bytes_eq (b ∷ name) (codes "op") then option_map_or (λ line. Asks (Operator line)) (operator_line (words_of rest)) Faulty else Faulty

-- blanks at the start of a line are skipped
abbrev pub without_blanks : List ℕ → List ℕ
without_blanks line = drop (position_or_len (λ b. not (is_blank b)) line) line

-- the form of a line without the CR at its end
unfoldable pub form_in : List ℕ → Form (List ℕ)
form_in line = form_by (before_first is_blank (without_blanks line)) (after_first is_blank (without_blanks line))

abbrev pub form_of : List ℕ → Form (List ℕ)
form_of line = form_in (without_cr line)

-- the acts of a script's lines, in order, or the number of the first faulty line
abbrev pub Acts : Type 0
Acts = Result (List (Act (List ℕ))) ℕ

abbrev pub with_act : Act (List ℕ) → Acts → Acts
with_act act (Ok acts) = Ok (act ∷ acts)
with_act act (Err fault) = Err fault

-- the acts from a line of that number on, given those of the lines after it
abbrev pub with_line : ℕ → Form (List ℕ) → List (List ℕ) → Acts → Acts
with_line number Skipped lines rest = rest
with_line number Faulty lines rest = Err number
with_line number (Asks act) lines rest = with_act act rest
with_line number (Begins name kind) lines rest = with_act (Session name (text_item kind (text_ahead lines))) rest

abbrev pub begins_text : Form (List ℕ) → Bool
begins_text (Begins name kind) = true
begins_text form = false

-- the acts of the lines, the first of which has that number; lines within a text aren't acts of the
-- script
abbrev pub acts_from : ℕ → Bool → List (List ℕ) → Acts
acts_from number within [] = Ok []
acts_from number true (line ∷ lines) = acts_from (number + 1) (not (ends_text line)) lines
acts_from number false (line ∷ lines) = with_line number (form_of line) lines (acts_from (number + 1) (begins_text (form_of line)) lines)

-- the acts of a script whose first line has that number
abbrev pub script_of : ℕ → List ℕ → Acts
script_of number text = acts_from number false (physical_lines text)

-- the value of an operator's line, an act or a form: its names as lists of bytes
abbrev pub named_operator : OperatorLine (Bor (List ℕ)) → OperatorLine (List ℕ)
named_operator (Admit name width) = Admit name.now width
named_operator (Evict name) = Evict name.now
named_operator (Move name offset) = Move name.now offset
named_operator ListAll = ListAll
named_operator Owners = Owners
named_operator (Step name count) = Step name.now count
named_operator (Take name) = Take name.now
named_operator (Put number) = Put number

abbrev pub named_act : Act (Bor (List ℕ)) → Act (List ℕ)
named_act (Operator line) = Operator (named_operator line)
named_act (Session name line) = Session name.now line

abbrev pub named_form : Form (Bor (List ℕ)) → Form (List ℕ)
named_form Skipped = Skipped
named_form Faulty = Faulty
named_form (Asks act) = Asks (named_act act)
named_form (Begins name kind) = Begins name.now kind

-- private: the form of an operator's line, faulty if it is missing
abbrev pub operator_form : Option (OperatorLine (List ℕ)) → Form (List ℕ)
operator_form line = option_map_or (λ asked. Asks (Operator asked)) line Faulty
