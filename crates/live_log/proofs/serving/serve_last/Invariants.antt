use Rattle.live_log.proofs.Prelude.{◌≡◌, ℕ, ◌+◌, List, drop, map, texts, last_line}
use Rattle.live_log.proofs.ServingSteps.{Leads}
use Rattle.live_log.proofs.serving.serve_last.Given as goal

-- the service takes the next line, and each comment so far was answered
pub record Served {A : Type 0} (is_ready : A → Type 0) (answers : A → ℕ → List ℕ → List ℕ → A → Type 0) (old service : A) (count number place : ℕ) (all rest : List (List ℕ)) : Type 0 where
  pub ready : is_ready service
  pub counted : number ≡ count + place
  pub served : Leads answers old (count + 1) all service number rest

abbrev pub invariant-loop-tag : goal.invariant-loop-tag
invariant-loop-tag g l = Served g.A.Answers.is_ready g.A.Answers.answers l.initial.service l.service l.count l.number l.tag-index (map last_line (texts l.tags)) (map last_line (texts (drop l.tag-index l.tags)))
