-- A script as threads run it: the operator's lines, and the input of each name's session.
use Rattle.std.specs.Prelude.{ℕ, ◌≡◌, ◌≢◌, ◌+◌, List, [], ◌∷◌, ◌++◌, length, map, AllPairs, Bool, true, false, ◌==◌, Option, Some, None, Result, Ok, Err, ⊤, if◌then◌else◌}
use Rattle.std.specs.List.{after_first}
use Rattle.std.specs.Option.{option_map_or}
use Rattle.std.specs.Str.{bytes_eq}
use Rattle.script_text.specs.Prelude.{physical_lines, is_blank, ends_text, TextError, NoMemory, Fault}
use Rattle.script_text.specs.declared.act.Act.TheVariants.{Operator, Session}
use Rattle.script_text.specs.declared.form.Form.{Form}
use Rattle.script_text.specs.declared.form.Form.TheVariants.{Skipped, Faulty, Asks, Begins}
use Rattle.script_text.specs.declared.operator_line.OperatorLine.{OperatorLine}
use Rattle.script_text.specs.declared.operator_line.OperatorLine.TheVariants.{Step, Take, Put}
use Rattle.script_text.specs.declared.inputs.SessionInput.{SessionInput}
use Rattle.script_text.specs.declared.threaded.ThreadedScript.{ThreadedScript}
use Rattle.script_text.specs.Script.{form_of, named_operator, without_blanks}

-- a session's name and its input
pub record Said : Type 0 where
  pub name : List ℕ
  pub input : List ℕ

-- no two sessions have one name
abbrev pub AreApart : List Said → Type 0
AreApart said = AllPairs (λ a b. a.name ≢ b.name) said

-- the operator's lines before the first session's line; the input of each name's session, in the
-- order of their first lines; and the operator's other lines
pub record Parts : Type 0 where
  pub ahead : List (OperatorLine (List ℕ))
  pub sessions : List Said
  pub rest : List (OperatorLine (List ℕ))

abbrev pub nothing_said : Parts
nothing_said = record { ahead = []; sessions = []; rest = [] }

-- one more line of the operator
abbrev pub with_operator : Parts → OperatorLine (List ℕ) → Parts
with_operator parts line =
    if length parts.sessions == 0 then record parts { ahead = parts.ahead ++ line ∷ [] } else record parts { rest = parts.rest ++ line ∷ [] }

-- bytes are appended to the input of the name's session; if the name has none, its session is added
-- at the end
abbrev pub with_input : List Said → List ℕ → List ℕ → List Said
with_input [] name bytes = record { name = name; input = bytes } ∷ []
with_input (s ∷ said) name bytes = if bytes_eq name s.name then record s { input = s.input ++ bytes } ∷ said else s ∷ with_input said name bytes

abbrev pub with_said : Parts → List ℕ → List ℕ → Parts
with_said parts name bytes = record parts { sessions = with_input parts.sessions name bytes }

abbrev pub with_feed : List ℕ → List ℕ
with_feed line = line ++ 10 ∷ []

-- a line's rest after its first word and one blank
abbrev pub after_first_word : List ℕ → List ℕ
after_first_word line = after_first is_blank (without_blanks line)

-- a line that takes, steps or puts a job by hand
abbrev pub is_by_hand : OperatorLine (List ℕ) → Bool
is_by_hand (Step name count) = true
is_by_hand (Take name) = true
is_by_hand (Put number) = true
is_by_hand line = false

-- what the next line belongs to: the script itself, the text at the script's start, or a text of
-- that name's session
pub data Within : Type 0 where
  Script : Within
  Head : Within
  Upload : List ℕ → Within

-- the parts read so far, and what the next line belongs to
pub record Heard : Type 0 where
  pub parts : Parts
  pub within : Within

abbrev pub heard_so_far : Parts → Within → Heard
heard_so_far parts within = record { parts = parts; within = within }

-- a line outside of texts; `None` if it is faulty
abbrev pub hears_form : Parts → Form (List ℕ) → List ℕ → Option Heard
hears_form parts Skipped line = Some (heard_so_far parts Script)
hears_form parts Faulty line = None
hears_form parts (Asks (Operator asked)) line = if is_by_hand asked then None else Some (heard_so_far (with_operator parts asked) Script)
hears_form parts (Asks (Session name item)) line = Some (heard_so_far (with_said parts name (with_feed (after_first_word line))) Script)
hears_form parts (Begins name kind) line = Some (heard_so_far (with_said parts name (with_feed (after_first_word line))) (Upload name))

-- one more line, also within a text; `None` if it is faulty
abbrev pub hears_in : Within → Parts → List ℕ → Option Heard
hears_in Script parts line = hears_form parts (form_of line) line
hears_in Head parts line = Some (heard_so_far parts (if ends_text line then Script else Head))
hears_in (Upload name) parts line = Some (heard_so_far (with_said parts name (with_feed line)) (if ends_text line then Script else Upload name))

-- the parts of a script, or the number of its first faulty line
abbrev pub Threaded : Type 0
Threaded = Result Parts ℕ

-- the parts after these lines too, the first of which has that number
abbrev pub threaded_from : ℕ → Heard → List (List ℕ) → Threaded
threaded_from number h [] = Ok h.parts
threaded_from number h (line ∷ lines) = option_map_or (λ next. threaded_from (number + 1) next lines) (hears_in h.within h.parts line) (Err number)

-- the parts of a script whose first line has that number
abbrev pub threaded_of : ℕ → List ℕ → Threaded
threaded_of number text = threaded_from number (heard_so_far nothing_said Script) (physical_lines text)

-- the parts of a script that starts with the rest of a text
abbrev pub threaded_behind : ℕ → List ℕ → Threaded
threaded_behind number text = threaded_from number (heard_so_far nothing_said Head) (physical_lines text)

-- the value of a session's input, and of a threaded script: names and inputs as lists of bytes
abbrev pub said_by : SessionInput → Said
said_by s = record { name = s.name.now; input = s.input.items }

abbrev pub parts_of : ThreadedScript → Parts
parts_of script = record { ahead = map named_operator script.ahead.items; sessions = map said_by script.sessions.items; rest = map named_operator script.rest.items }

-- the possible results of a reader of that script
abbrev pub GivesThreaded : Threaded → Result ThreadedScript (TextError ℕ) → Type 0
GivesThreaded meant (Ok script) = meant ≡ Ok (parts_of script)
GivesThreaded meant (Err (Fault number)) = meant ≡ Err number
GivesThreaded meant (Err NoMemory) = ⊤
