-- The result of the tool that prints a tenancy's script.
use Rattle.std.specs.Prelude.{◌≡◌, ℕ, Bool, List, Option, Some}
use Rattle.desk_netlists.specs.Prelude.{TakesAll, TakesPart, TenancyScript, ScriptParameters, refusal_of, printed_script, IsOf, Outcome, Done, OutputFailed, TextRefused}

-- the whole script with these wishes around this text is written
pub record IsPrinted {S : Type 0} (contents : S → Option (List ℕ)) (has_failed : S → Bool) (old new : S) (wishes : ScriptParameters) (netlist : List ℕ) : Type 0 where
  pub script : TenancyScript
  pub of : IsOf wishes netlist script
  pub bytes : TakesAll contents has_failed old new (printed_script script)

-- a beginning of the script is written, and the device has failed
pub record IsPrintedInPart {S : Type 0} (contents : S → Option (List ℕ)) (has_failed : S → Bool) (old new : S) (wishes : ScriptParameters) (netlist : List ℕ) : Type 0 where
  pub script : TenancyScript
  pub of : IsOf wishes netlist script
  pub bytes : TakesPart contents has_failed old new (printed_script script)

-- the script is printed, or the output fails on the way, or the name or the text is refused and
-- nothing is written
abbrev pub Prints : {S : Type 0} → (S → Option (List ℕ)) → (S → Bool) → S → S → ScriptParameters → List ℕ → Outcome → Type 0
Prints contents has_failed old new wishes netlist Done = IsPrinted contents has_failed old new wishes netlist
Prints contents has_failed old new wishes netlist OutputFailed = IsPrintedInPart contents has_failed old new wishes netlist
Prints contents has_failed old new wishes netlist (TextRefused fault) = (refusal_of wishes.name.now netlist ≡ Some fault) × (new ≡ old)
Prints contents has_failed old new wishes netlist outcome = ⊥
