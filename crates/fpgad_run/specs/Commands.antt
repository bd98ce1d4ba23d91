-- What a run writes, and how it ends.
use Rattle.std.specs.Prelude.{ℕ, ◌≢◌, List, Option, IfSome}
use Rattle.fpgad_run.specs.declared.outcome.Outcome.{Outcome}
use Rattle.fpgad_run.specs.declared.outcome.Outcome.TheVariants.{NotSettled}
use Rattle.fpgad_run.specs.declared.inputs.Architecture.{Architecture}
use Rattle.fpgad_run.specs.declared.options.Options.{Options}
use Rattle.fpgad_run.specs.OnThreads.{AreThreadedReplies, threaded_start_of}
use Rattle.fpgad_run.specs.Program.{Decides, Writes, WritesSuch, start_of}

-- a run that serves its script in order
abbrev pub RunsInOrder : Options → Architecture → Option (List ℕ) → Outcome → Option (List ℕ) → Option (List ℕ) → Type 0
RunsInOrder options architecture input outcome old new = (outcome ≢ NotSettled)
    × IfSome input (λ text. Decides (start_of options.tracks architecture text) outcome)
    × Writes options architecture input outcome old new

-- a run that serves its script on threads
abbrev pub RunsOnThreads : Options → Architecture → Option (List ℕ) → Outcome → Option (List ℕ) → Option (List ℕ) → Type 0
RunsOnThreads options architecture input outcome old new = IfSome input (λ text. Decides (threaded_start_of options.tracks architecture text) outcome)
    × WritesSuch (λ text output. AreThreadedReplies options (threaded_start_of options.tracks architecture text) output) input outcome old new
