-- The status of a run.
use Rattle.std.proofs.Common.{◌≡◌, ◌∙◌, ℕ, List, Option, inl, inr, ap}
use Rattle.std.specs.Prelude.{◌⊎◌}
use Rattle.fpgad_run.specs.declared.options.CommandLine.{CommandLine}
use Rattle.fpgad_run.specs.declared.outcome.Outcome.{Outcome}
use Rattle.fpgad_run.specs.declared.outcome.Outcome.TheVariants.{NoMemory}
use Rattle.fpgad_run.specs.Outcomes.{status_of}
use Rattle.promises.specs.Commands.{Exits, Runs}

pub exits : (input old new : Option (List ℕ)) (outcome : Outcome) (status : ℕ) → status ≡ status_of outcome → ((outcome ≡ NoMemory) × (new ≡ old)) ⊎ ((line : CommandLine) × Runs line input outcome old new) → Exits input status old new
exits input old new outcome status is (inl out) = inr (inl (is ∙ ap status_of out.0, out.1))
exits input old new outcome status is (inr runs) = inr (inr (outcome, is, runs))
