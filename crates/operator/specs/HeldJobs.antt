-- Jobs that the operator holds, numbered from 1 in the order in which they were taken; `None`
-- replaces one that was put.
use Rattle.std.specs.Prelude.{ℕ, ◌≡◌, ◌⊎◌, ◌-◌, List, [], ◌∷◌, ◌++◌, Option, Some, None, option_map, reverse, ◌==◌, if◌then◌else◌}
use Rattle.operator.specs.Prelude.{JobState, Call, Take, GiveBack, StepOutcome, Nothing, StepsAndPuts}
use Rattle.std.specs.List.{filter_map}
use Rattle.std.specs.Option.{option_map_or}

abbrev pub HeldList : Type 0
HeldList = List (Option JobState)

-- the job of that number
abbrev pub job_at : HeldList → ℕ → Option JobState
job_at [] number = None
job_at (job ∷ jobs) number = if number == 1 then job else job_at jobs (number - 1)

abbrev pub without_job : HeldList → ℕ → HeldList
without_job [] number = []
without_job (job ∷ jobs) number = if number == 1 then None ∷ jobs else job ∷ without_job jobs (number - 1)

-- with one more job, if one was taken
abbrev pub with_job : HeldList → Option JobState → HeldList
with_job jobs taken = option_map_or (λ job. jobs ++ Some job ∷ []) taken jobs

-- the calls that take a job to be held. If no job is held afterwards, there was none to take, or
-- the graph didn't fit the job, which was given back
abbrev pub Holds : ℕ → Option JobState → List Call → Type 0
Holds id (Some job) calls = calls ≡ Take id (Some job) ∷ []
Holds id None calls = (calls ≡ Take id None ∷ []) ⊎ ((job : JobState) × (calls ≡ Take id (Some job) ∷ GiveBack job ∷ []))

-- the job is stepped and put, if it is held
abbrev pub PutsHeld : Option JobState → List Call → StepOutcome → Type 0
PutsHeld None calls outcome = (calls ≡ []) × (outcome ≡ Nothing)
PutsHeld (Some job) calls outcome = StepsAndPuts job calls outcome

-- all held jobs are given back, the last one first
abbrev pub give_backs : HeldList → List Call
give_backs jobs = filter_map (option_map GiveBack) (reverse jobs)
