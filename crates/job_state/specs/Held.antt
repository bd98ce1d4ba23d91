-- Private: what a job carries, and that this is the job's value.
use Rattle.std.specs.Prelude.{ℕ, ◌≡◌, ◌+◌, ◌-◌, ◌<◌, ◌≤◌, Bool, true, false, Ok, if◌then◌else◌}
use Rattle.job_state.specs.Prelude.{MAX_NETS}
use Rattle.job_state.specs.declared.step.JobStep.{JobStep}
use Rattle.job_state.specs.declared.sources.Sources.{Sources}
use Rattle.job_state.specs.declared.work.Work.{Work}
use Rattle.job_state.specs.declared.work.Work.TheVariants.{Unlisted, Routed}
use Rattle.job_state.specs.JobValue.{is_last, job_value}

-- the number of steps made by a job that is before that step, or has made it
abbrev pub steps_made : JobStep → Bool → ℕ
steps_made step made = if made then step.number else step.number - 1

-- the job is over after at most 8,192 steps: a circuit has no more BLEs, a placing no more passes,
-- and a routing no more iterations
abbrev pub HasFewSteps : Sources → Type 0
HasFewSteps sources = (steps : ℕ) × (steps ≤ MAX_NETS) × (is_last sources steps ≡ true)

-- the job wasn't over after fewer steps
abbrev pub IsNotOverBefore : Sources → ℕ → Type 0
IsNotOverBefore sources steps = (fewer : ℕ) → fewer < steps → is_last sources fewer ≡ false

-- what a job has after `steps` steps: its value, or the routes that its next and last step has
-- found, which aren't listed yet
abbrev pub StandsFor : Sources → ℕ → Work → Type 0
StandsFor sources steps (Unlisted routed) = (job_value sources (steps + 1) ≡ Ok (Routed routed)) × (is_last sources steps ≡ false)
StandsFor sources steps work = job_value sources steps ≡ Ok work

-- what a job has after `steps` steps; if its own step is made, this is exactly its value
pub record HasMade (step : JobStep) (work : Work) (steps : ℕ) : Type 0 where
  pub value : StandsFor step.sources steps work
  pub exact : steps ≡ step.number → job_value step.sources steps ≡ Ok work
  pub from_one : 1 ≤ step.number
  pub few : HasFewSteps step.sources
  pub going : IsNotOverBefore step.sources steps

-- a job that has that step to make, or has made it already
pub record IsJob (step : JobStep) (work : Work) (made : Bool) : Type 0 where
  pub holds : HasMade step work (steps_made step made)
  pub going : is_last step.sources (step.number - 1) ≡ false

-- the step is made
pub record IsDone (step : JobStep) (work : Work) : Type 0 where
  pub holds : HasMade step work step.number
  pub going : is_last step.sources (step.number - 1) ≡ false
