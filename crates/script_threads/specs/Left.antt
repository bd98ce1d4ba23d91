-- Jobs that are left after the threads have ended.
use Rattle.std.specs.Prelude.{ℕ, ◌≡◌, ◌≤◌, ◌⊎◌, List, [], All, true, false}
use Rattle.std.specs.List.{Contains}
use Rattle.script_threads.specs.Prelude.{Basis, JobState, takeable_in, Call, Run, Take, Put, GiveBack, ServiceState, live_of, own_graph, is_of_threads, own_receipts}
use Rattle.script_threads.specs.Turns.{own_answers}

-- the jobs that are left make their steps, and no command is asked. On the device's own graph each
-- tenancy has no step to take after that, unless its job was given back since memory ran out
pub record MakesSteps (graph : Basis) (old new : ServiceState) : Type 0 where
  pub calls : List Call
  pub run : Run old calls new
  pub kinds : All (λ call. is_of_threads call ≡ true) calls
  pub none_asked : (id : ℕ) → own_answers id calls ≡ []
  pub ended : graph ≡ own_graph old.device → (id : ℕ) → (takeable_in (live_of new.histories id) ≡ false) ⊎ ((job : JobState) × (job.step.id ≡ id) × Contains calls (GiveBack job))

-- private: a call takes, puts or gives back a job of that tenancy
abbrev pub IsJobOf : ℕ → Call → Type 0
IsJobOf id (Take t answer) = t ≡ id
IsJobOf id (Put done foreign answer) = done.id ≡ id
IsJobOf id (GiveBack job) = job.step.id ≡ id
IsJobOf id call = ⊥

-- private: after these calls the tenancy has no step to take, or its job was given back
abbrev pub IsEnded : ServiceState → List Call → ℕ → Type 0
IsEnded new calls id = (takeable_in (live_of new.histories id) ≡ false) ⊎ ((job : JobState) × (job.step.id ≡ id) × Contains calls (GiveBack job))

-- private: the job of one tenancy makes its steps
pub record MakesStepsOf (graph : Basis) (old : ServiceState) (id : ℕ) (new : ServiceState) : Type 0 where
  pub calls : List Call
  pub run : Run old calls new
  pub kinds : All (IsJobOf id) calls
  pub ended : graph ≡ own_graph old.device → IsEnded new calls id

-- private: the jobs of the first tenancies have made their steps
pub record HaveMadeSteps (graph : Basis) (old : ServiceState) (ids : ℕ) (new : ServiceState) : Type 0 where
  pub calls : List Call
  pub run : Run old calls new
  pub kinds : All (λ call. is_of_threads call ≡ true) calls
  pub none_served : (id : ℕ) → own_receipts id calls ≡ []
  pub ended : graph ≡ own_graph old.device → (id : ℕ) → id ≤ ids → IsEnded new calls id
