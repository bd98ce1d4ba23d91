use Rattle.live_log.proofs.Prelude.{◌≡◌, ℕ, ◌+◌, ◌≤◌, List, Bool, length, physical_lines, lines_kept}
use Rattle.live_log.proofs.ServingSteps.{Leads}
use Rattle.live_log.proofs.serving.serve_kept.Given as goal

-- the service takes the next line, and each kept line so far was counted and answered
pub record Served {A : Type 0} (is_ready : A → Type 0) (answers : A → ℕ → List ℕ → List ℕ → A → Type 0) (old service : A) (kept marks : List Bool) (number : ℕ) (rest log : List ℕ) : Type 0 where
  pub ready : is_ready service
  pub few : number + length rest ≤ length log
  pub counted : number + length (lines_kept marks (physical_lines rest)) ≡ length (lines_kept kept (physical_lines log))
  pub served : Leads answers old 1 (lines_kept kept (physical_lines log)) service number (lines_kept marks (physical_lines rest))

abbrev pub invariant-loop-rest : goal.invariant-loop-rest
invariant-loop-rest g l = Served g.A.Answers.is_ready g.A.Answers.answers l.initial.service l.service l.short.kept.items l.marks l.number l.rest l.short.log.now

abbrev pub decreases-loop-rest : goal.decreases-loop-rest
decreases-loop-rest g l = length l.rest
