-- Jobs as their holders see them.
use Rattle.std.specs.Prelude.{ℕ, ◌≡◌, ◌≢◌, ◌+◌, ◌-◌, Bool, true, false, Result, Ok, Err}
use Rattle.job_state.specs.declared.step.JobStep.{JobStep}
use Rattle.job_state.specs.declared.sources.JobKind.{JobKind}
use Rattle.job_state.specs.declared.sources.JobKind.TheVariants.{Placing}
use Rattle.job_state.specs.declared.sources.Sources.{Sources}
use Rattle.job_state.specs.JobValue.{is_last}

-- a step of a job, and whether the step was made already, by a done step that couldn't be put
pub record JobState : Type 0 where
  pub step : JobStep
  pub made : Bool

-- a job at its start
abbrev pub first_step : ℕ → ℕ → Sources → JobState
first_step id generation sources = record { step = record { id = id; generation = generation; number = 1; sources = sources }; made = false }

-- the job after that step was put
abbrev pub next_step : JobStep → JobState
next_step step = record { step = record step { number = step.number + 1 }; made = false }

-- the job has no step left to make
abbrev pub is_over : JobState → Bool
is_over job = is_last job.step.sources (job.step.number - 1)

-- a job of that kind is finished: it is over, and its last step was put
pub record IsFinished (of : JobKind) (job : JobState) : Type 0 where
  pub kind : job.step.sources.kind ≡ of
  pub over : is_over job ≡ true
  pub put : job.made ≡ false

-- the results of a step: it is made, or memory runs out and the job comes back as it was. A step
-- that was made already is not made again. A placing's step takes no memory
abbrev pub Steps : JobState → Result JobStep JobState → Type 0
Steps job (Ok done) = done ≡ job.step
Steps job (Err back) = (back ≡ job) × (job.made ≡ false) × (job.step.sources.kind ≢ Placing)
