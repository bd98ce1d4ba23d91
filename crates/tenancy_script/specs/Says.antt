-- The acts of a tenancy's script, by the definitions for scripts.
use Rattle.std.specs.Prelude.{ℕ, ◌≡◌, List, [], ◌∷◌, ◌++◌, map, Bool, true, false, not, Option, Some, None, Ok, Err}
use Rattle.line_text.specs.Lines.{physical_lines}
use Rattle.sessions.specs.Items.{ends_text}
use Rattle.sessions.specs.declared.line.SessionLine.{SessionLine}
use Rattle.sessions.specs.declared.line.SessionLine.TheVariants.{Command, Wait}
use Rattle.tenant_slot.specs.declared.command.Command.TheVariants.{Upload, Pack, Place, Route, Net, PlaceFile, RouteFile}
use Rattle.script_text.specs.declared.act.Act.{Act}
use Rattle.script_text.specs.declared.act.Act.TheVariants.{Operator, Session}
use Rattle.script_text.specs.declared.operator_line.OperatorLine.TheVariants.{Admit}
use Rattle.script_text.specs.Script.{Acts, begins_text, form_of}
use Rattle.tenancy_script.specs.declared.script.TenancyScript.{TenancyScript}
use Rattle.tenancy_script.specs.declared.script.ScriptParameters.{ScriptParameters}
use Rattle.tenancy_script.specs.Faults.{uploaded_text}
use Rattle.tenancy_script.specs.Printed.{is_ended}

-- the script is for these wishes and this netlist
pub record IsOf (wishes : ScriptParameters) (netlist : List ℕ) (script : TenancyScript) : Type 0 where
  pub name : script.name.now ≡ wishes.name.now
  pub width : script.width ≡ wishes.width
  pub seed : script.seed ≡ wishes.seed
  pub effort : script.effort ≡ wishes.effort
  pub text : script.text.now ≡ netlist

-- the acts of the tenancy's own lines, in order
abbrev pub session_lines : List ℕ → ℕ → ℕ → List SessionLine
session_lines text seed effort =
    Command (Upload text) ∷ Command Pack ∷ Wait ∷ Command (Place seed effort) ∷ Wait ∷ Command Route ∷ Wait ∷ Command Net ∷ Command PlaceFile ∷ Command RouteFile ∷ []

-- the admission comes first, if there is a width
abbrev pub with_admission : Option ℕ → List ℕ → List (Act (List ℕ)) → List (Act (List ℕ))
with_admission (Some width) name acts = Operator (Admit name width) ∷ acts
with_admission None name acts = acts

-- the acts of a tenancy's script
abbrev pub acts_of : TenancyScript → List (Act (List ℕ))
acts_of script = with_admission script.width script.name.now (map (Session script.name.now) (session_lines (uploaded_text script.text.now) script.seed script.effort))

-- a script's acts, and these after them; a fault stays a fault
abbrev pub followed_by : Acts → List (Act (List ℕ)) → Acts
followed_by (Ok acts) more = Ok (acts ++ more)
followed_by (Err fault) more = Err fault

-- whether a text is open after these lines, given whether one is open before them
abbrev pub is_within : Bool → List (List ℕ) → Bool
is_within within [] = within
is_within true (line ∷ lines) = is_within (not (ends_text line)) lines
is_within false (line ∷ lines) = is_within (begins_text (form_of line)) lines

-- the last line of the script ends with LF, and each upload in it ends
pub record IsWhole (script : List ℕ) : Type 0 where
  pub ended : is_ended script ≡ true
  pub outside : is_within false (physical_lines script) ≡ false
