-- The calls of the core that make a step.
use Rattle.std.specs.Prelude.{ℕ, ◌≡◌, ◌⊎◌, ⊤, List, [], ◌∷◌, ◌++◌, All, Bool, true, Some, None, Result, Ok, Err}
use Rattle.std.specs.declared.alloc.AllocError.{AllocError}
use Rattle.std.specs.List.{flat_map}
use Rattle.sessions.specs.Prelude.{JobStep, JobState, StepReply, PutReply, Recorded as PutRecorded, Full as PutFull, Gone as PutGone, Call, Take, Put, GiveBack}
use Rattle.sessions.specs.declared.steps.StepOutcome.{StepOutcome}
use Rattle.sessions.specs.declared.steps.StepOutcome.TheVariants.{Recorded, Full, Gone, NoMemory, Nothing, Unfit}

-- the job's step is put, and answered so, whatever the flag of its event
abbrev pub IsOnePut : JobState → List Call → Result PutReply (JobStep × AllocError) → Type 0
IsOnePut job calls answer = (foreign : Bool) × (calls ≡ Put job.step foreign answer ∷ [])

-- the calls of the core that step and put a job, and the outcome. If memory runs out the job is
-- given back, unstepped or with its step made; if the graph isn't that of its device it is given
-- back unstepped
abbrev pub StepsAndPuts : JobState → List Call → StepOutcome → Type 0
StepsAndPuts job calls (Recorded reply) = IsOnePut job calls (Ok (PutRecorded reply))
StepsAndPuts job calls Full = IsOnePut job calls (Ok PutFull)
StepsAndPuts job calls Gone = IsOnePut job calls (Ok PutGone)
StepsAndPuts job calls NoMemory =
    (calls ≡ GiveBack job ∷ [])
    ⊎ ((foreign : Bool) × (back : JobStep × AllocError) × (calls ≡ Put job.step foreign (Err back) ∷ GiveBack (record { step = job.step; made = true }) ∷ []))
StepsAndPuts job calls Nothing = ⊥
StepsAndPuts job calls Unfit = calls ≡ GiveBack job ∷ []

-- those calls after the call that takes the job
abbrev pub MakesStep : ℕ → List Call → StepOutcome → Type 0
MakesStep id calls Nothing = calls ≡ Take id None ∷ []
MakesStep id calls outcome = (job : JobState) × (more : List Call) × StepsAndPuts job more outcome × (calls ≡ Take id (Some job) ∷ more)

-- a step with this outcome ends a row of recorded steps
abbrev pub EndsSteps : StepOutcome → Type 0
EndsSteps (Recorded reply) = ⊥
EndsSteps outcome = ⊤

-- steps that were recorded, each with its calls and its reply, and then one that was not
abbrev pub Waits : ℕ → List Call → StepOutcome → Type 0
Waits id calls last = (made : List (List Call × StepReply)) × (end : List Call)
    × All (λ m. MakesStep id m.0 (Recorded m.1)) made × MakesStep id end last × EndsSteps last × (calls ≡ flat_map (λ m. m.0) made ++ end)

-- private: a step that was recorded, with its calls and its reply
abbrev pub MadeStep : Type 0
MadeStep = List Call × StepReply
