-- Private: what a line of the operator does, by the names and the core's states before and after
-- it.
use Rattle.std.specs.Prelude.{ℕ, ◌≡◌, ◌≢◌, ◌≤◌, List, ◌++◌, length, All}
use Rattle.std.specs.Borrow.{Bor}
use Rattle.operator.specs.Prelude.{Basis, Call, Run, ServiceState, live_of, OperatorLine, Admit, named_operator, Unfit, own_graph, MakesStep}
use Rattle.operator.specs.OperatorText.{last_id}
use Rattle.operator.specs.HeldJobs.{HeldList}
use Rattle.operator.specs.Serving.{IsAdmission, Leaves, Tried, tried_calls, tried_text, IsServed}

-- the reply is appended, and each id keeps its name
abbrev pub Answers : Basis → List (List ℕ) → HeldList → ServiceState → OperatorLine (Bor (List ℕ)) → List ℕ → List ℕ → List (List ℕ) → HeldList → ServiceState → Type 0
Answers graph names jobs service line before after new_names new_jobs new_service = (calls : List Call) × (text : List ℕ)
    × IsServed (record { names = names; jobs = jobs; service = service; graph = graph }) (named_operator line) calls text (record { names = new_names; jobs = new_jobs; service = new_service; graph = graph })
    × (after ≡ before ++ text) × (length new_names ≡ length new_service.histories)

-- this also holds if memory runs out, except that the reply may be missing or cut short
abbrev pub Stands : Basis → List (List ℕ) → HeldList → ServiceState → OperatorLine (Bor (List ℕ)) → List (List ℕ) → HeldList → ServiceState → Type 0
Stands graph names jobs service line new_names new_jobs new_service =
    Leaves (record { names = names; jobs = jobs; service = service; graph = graph }) (named_operator line) (record { names = new_names; jobs = new_jobs; service = new_service; graph = graph })
    × (length new_names ≡ length new_service.histories)

abbrev pub Admits : List (List ℕ) → ServiceState → List ℕ → ℕ → List ℕ → List ℕ → List (List ℕ) → ServiceState → Type 0
Admits names service name width before after new_names new_service = (jobs : HeldList) (graph : Basis) → (calls : List Call) × (text : List ℕ)
    × IsAdmission (live_of service.histories (last_id names name)) (record { names = names; jobs = jobs; service = service; graph = graph }) name width calls text (record { names = new_names; jobs = jobs; service = new_service; graph = graph })
    × (after ≡ before ++ text) × (length new_names ≡ length new_service.histories)

abbrev pub AdmissionStands : List (List ℕ) → ServiceState → List ℕ → ℕ → List (List ℕ) → ServiceState → Type 0
AdmissionStands names service name width new_names new_service = (jobs : HeldList) (graph : Basis) →
    Leaves (record { names = names; jobs = jobs; service = service; graph = graph }) (Admit name width) (record { names = new_names; jobs = jobs; service = new_service; graph = graph })
    × (length new_names ≡ length new_service.histories)

-- `count` steps of a tenancy's job are tried
pub record Tries (graph : Basis) (service : ServiceState) (id count : ℕ) (new : ServiceState) : Type 0 where
  pub tried : Tried
  pub counted : length tried ≡ count
  pub makes : All (λ t. MakesStep id t.0 t.1) tried
  pub runs : Run service (tried_calls tried) new
  pub even : length new.histories ≡ length service.histories
  pub fits : graph ≡ own_graph service.device → All (λ t. t.1 ≢ Unfit) tried

-- and their outcomes are appended to the reply
pub record Steps (graph : Basis) (service : ServiceState) (id count : ℕ) (before after : List ℕ) (new : ServiceState) : Type 0 where
  pub tries : Tries graph service id count new
  pub told : after ≡ before ++ tried_text tries.tried

-- or only some of them are tried
abbrev pub TriesSome : Basis → ServiceState → ℕ → ℕ → ServiceState → Type 0
TriesSome graph service id count new = (made : ℕ) × (made ≤ count) × Tries graph service id made new
