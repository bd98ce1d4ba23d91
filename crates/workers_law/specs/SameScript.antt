-- A script says the same, read in order and read for threads.
use Rattle.std.specs.Prelude.{ℕ, ◌≡◌, Bool, List, [], ◌∷◌, ◌++◌, Ok, if◌then◌else◌}
use Rattle.std.specs.Str.{bytes_eq}
use Rattle.line_text.specs.Lines.{physical_lines}
use Rattle.sessions.specs.declared.line.SessionLine.{SessionLine}
use Rattle.sessions.specs.Items.{items_of, with_item}
use Rattle.script_text.specs.declared.act.Act.{Act}
use Rattle.script_text.specs.declared.act.Act.TheVariants.{Operator, Session}
use Rattle.script_text.specs.declared.operator_line.OperatorLine.{OperatorLine}
use Rattle.script_text.specs.Script.{acts_from}
use Rattle.script_text.specs.Threaded.{Parts, Said, heard_so_far, nothing_said, threaded_from}
use Rattle.script_text.specs.Threaded.Within.{Head, Script}

-- the operator's lines, and those of them before the first session's line
abbrev pub operator_lines : List (Act (List ℕ)) → List (OperatorLine (List ℕ))
operator_lines [] = []
operator_lines (Operator line ∷ acts) = line ∷ operator_lines acts
operator_lines (Session name item ∷ acts) = operator_lines acts

abbrev pub lines_ahead : List (Act (List ℕ)) → List (OperatorLine (List ℕ))
lines_ahead [] = []
lines_ahead (Operator line ∷ acts) = line ∷ lines_ahead acts
lines_ahead (Session name item ∷ acts) = []

-- what a name's session asks, in order; its blank lines ask nothing
abbrev pub items_by : List ℕ → List (Act (List ℕ)) → List SessionLine
items_by name [] = []
items_by name (Operator line ∷ acts) = items_by name acts
items_by name (Session other item ∷ acts) = if bytes_eq name other then with_item item (items_by name acts) else items_by name acts

-- the input of a name's session
abbrev pub input_of : List ℕ → List Said → List ℕ
input_of name [] = []
input_of name (s ∷ said) = if bytes_eq name s.name then s.input else input_of name said

-- the same lines of the operator, and the same items of each name
pub record IsSameScript (parts : Parts) (acts : List (Act (List ℕ))) : Type 0 where
  pub ahead : lines_ahead acts ≡ parts.ahead
  pub operator : operator_lines acts ≡ parts.ahead ++ parts.rest
  pub items : (name : List ℕ) → items_by name acts ≡ items_of (input_of name parts.sessions)

-- A script that is read for threads is also read in order, and says the same. `head` says whether
-- it begins within the text of an architecture.
abbrev pub IsReadTheSame : Type 0
IsReadTheSame = (number : ℕ) (text : List ℕ) (head : Bool) (parts : Parts) → threaded_from number (heard_so_far nothing_said (if head then Head else Script)) (physical_lines text) ≡ Ok parts →
    (acts : List (Act (List ℕ))) × (acts_from number head (physical_lines text) ≡ Ok acts) × IsSameScript parts acts
