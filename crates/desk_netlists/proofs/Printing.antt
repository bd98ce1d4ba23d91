-- Printing a tenancy's script.
use Rattle.desk_netlists.proofs.Prelude.{◌≡◌, ℕ, Bool, List, Option, Result, Ok, Err, sym, subst, Failed, Writes, TenancyScript, ScriptParameters, printed_script, IsOf, Outcome, written_so, Prints}

by_result : {S : Type 0} (contents : S → Option (List ℕ)) (has_failed : S → Bool) (old new : S) (wishes : ScriptParameters) (netlist : List ℕ) (script : TenancyScript) (r : Result (Unit {0}) Failed) → IsOf wishes netlist script →
    Writes contents has_failed old new (printed_script script) r → Prints contents has_failed old new wishes netlist (written_so r)
by_result contents has_failed old new wishes netlist script (Ok u) of written = record { script = script; of = of; bytes = written }
by_result contents has_failed old new wishes netlist script (Err failed) of written = record { script = script; of = of; bytes = written }

pub printed_so : {S : Type 0} (contents : S → Option (List ℕ)) (has_failed : S → Bool) (old new : S) (wishes : ScriptParameters) (netlist : List ℕ) (script : TenancyScript) (r : Result (Unit {0}) Failed) (outcome : Outcome) → outcome ≡ written_so r → IsOf wishes netlist script →
    Writes contents has_failed old new (printed_script script) r → Prints contents has_failed old new wishes netlist outcome
printed_so contents has_failed old new wishes netlist script r outcome e of written =
    subst (λ o. Prints contents has_failed old new wishes netlist o) (sym e) (by_result contents has_failed old new wishes netlist script r of written)
