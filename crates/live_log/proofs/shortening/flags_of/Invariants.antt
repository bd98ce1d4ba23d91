use Rattle.live_log.proofs.Prelude.{ℕ, ◌+◌, ◌≤◌, List, length, physical_lines, Mark}
use Rattle.live_log.proofs.ChoiceSteps.{LeadsMarks}
use Rattle.live_log.proofs.ServingSteps.{Leads}
use Rattle.live_log.proofs.shortening.flags_of.Given as goal

-- the service takes the next line, each line so far has its mark and was answered, and each has a
-- byte
pub record Marked {A : Type 0} (is_ready : A → Type 0) (answers : A → ℕ → List ℕ → List ℕ → A → Type 0) (old service : A) (marks : List Mark) (number : ℕ) (rest log : List ℕ) : Type 0 where
  pub ready : is_ready service
  pub few : number + length rest ≤ length log
  pub marked : LeadsMarks answers old (physical_lines log) service number marks (physical_lines rest)
  pub served : Leads answers old 1 (physical_lines log) service number (physical_lines rest)

abbrev pub invariant-loop-rest : goal.invariant-loop-rest
invariant-loop-rest g l = Marked g.A.Answers.is_ready g.A.Answers.answers l.initial.service l.service l.keeper.marks.lines.items l.number l.rest l.log

abbrev pub decreases-loop-rest : goal.decreases-loop-rest
decreases-loop-rest g l = length l.rest
