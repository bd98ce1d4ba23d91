-- What a command line makes of a live service without workers.
use Rattle.std.specs.Prelude.{ℕ, ◌≡◌, ◌≢◌, ◌⊎◌, List, Option, is_some}
use Rattle.live_run.specs.Prelude.{View}
use Rattle.live_run.specs.declared.options.CommandLine.{CommandLine}
use Rattle.live_run.specs.declared.outcome.Outcome.{Outcome}
use Rattle.live_run.specs.declared.outcome.Outcome.TheVariants.{Done}
use Rattle.live_run.specs.Runs.{Runs}

-- a service with the numbers of the command line, over the architecture of its file, and with a log
-- exactly if the command line names one
pub record Begins (line : CommandLine) (before after : View) (outcome : Outcome) : Type 0 where
  pub architecture : List ℕ
  pub past : Option (List ℕ)
  pub begun : View
  pub input : begun.remaining ≡ before.remaining
  pub output : begun.output ≡ before.output
  pub log : begun.has_log ≡ is_some line.log
  pub runs : Runs line.options architecture (is_some line.log) past line.told begun after outcome

-- or one that does not begin, and writes nothing
abbrev pub RunsLine : CommandLine → View → View → Outcome → Type 0
RunsLine line before after outcome = ((outcome ≢ Done) × (after.output ≡ before.output)) ⊎ Begins line before after outcome
