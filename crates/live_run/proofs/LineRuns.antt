-- A command line that runs.
use Rattle.live_run.proofs.Prelude.{◌≡◌, ◌∙◌, ℕ, List, [], true, false, Option, Some, None, inr, ap, subst, sym, refl, is_some, Bor, View, CommandLine, Outcome, RunsLine, Runs}

-- without a log
pub begins_plain : (line : CommandLine) (architecture : List ℕ) (before after : View) (outcome : Outcome) → before.has_log ≡ false → line.log ≡ None → Runs line.options architecture false (Some []) line.told before after outcome → RunsLine line before after outcome
begins_plain line architecture before after outcome no_log none runs =
    let P : Option (Bor (List ℕ)) → Type 0 = λ log. Runs line.options architecture (is_some log) (Some []) line.told before after outcome in
    inr (record { architecture = architecture; past = Some []; begun = before; input = refl; output = refl; log = no_log ∙ sym (ap is_some none); runs = subst P (sym none) runs })

-- with one
pub begins_logged : (line : CommandLine) (path : Bor (List ℕ)) (architecture : List ℕ) (past : Option (List ℕ)) (before begun after : View) (outcome : Outcome) → begun.remaining ≡ before.remaining → begun.output ≡ before.output → begun.has_log ≡ true → line.log ≡ Some path → Runs line.options architecture true past line.told begun after outcome → RunsLine line before after outcome
begins_logged line path architecture past before begun after outcome input output has_log some runs =
    let P : Option (Bor (List ℕ)) → Type 0 = λ log. Runs line.options architecture (is_some log) past line.told begun after outcome in
    inr (record { architecture = architecture; past = past; begun = begun; input = input; output = output; log = has_log ∙ sym (ap is_some some); runs = subst P (sym some) runs })
