-- What a job keeps from step to step.
use Rattle.job_state.proofs.Prelude.{ℕ, ◌≡◌, ◌+◌, ◌-◌, ◌≤◌, Bool, true, false, Ok, IfOk, arith, PlacingUnderWay, Placing as PlacingJob, Sources, JobStep, Work, Placed, HasMade, IsNotOverBefore, steps_made, JobState, is_over, circuit_in, end_value, pass_count, placing_at, is_last, IsLeft, next_work}
use Rattle.job_state.proofs.Ended.{made_at_end, placed_made}
use Rattle.job_state.proofs.Stands.{as_stands, stands_left, stands_next, stands_over}

one_more : (number : ℕ) → 1 ≤ number → number - 1 + 1 ≡ number
one_more number from_one = omega (arith, from_one)

-- a job that wasn't over before a step, nor with the one before it, isn't over before the next
pub not_before : (sources : Sources) (number : ℕ) → 1 ≤ number → IsNotOverBefore sources (number - 1) → is_last sources (number - 1) ≡ false → IsNotOverBefore sources number
not_before sources number from_one before at fewer less = grind arith

-- the step is made
pub stepped : (step : JobStep) (work new : Work) → HasMade step work (step.number - 1) → is_last step.sources (step.number - 1) ≡ false → new ≡ next_work work → HasMade step new step.number
stepped step work new holds going is = grind (arith, stands_next, as_stands, not_before step.sources step.number holds.from_one holds.going going)

-- the state that a step leaves if memory runs out
pub left : (step : JobStep) (work new : Work) (steps : ℕ) → (steps ≡ step.number → ⊥) → HasMade step work steps → is_last step.sources steps ≡ false → IsLeft work new → HasMade step new steps
left step work new steps apart holds going is = record { value = stands_left step.sources steps work new holds.value going is; exact = λ same. absurd (apart same); from_one = holds.from_one; few = holds.few; going = holds.going }

-- what is made when the job is over
pub made_last : (step : JobStep) (work : Work) (steps : ℕ) → HasMade step work steps → is_last step.sources steps ≡ true → end_value step.sources ≡ Ok work
made_last step work steps holds at = made_at_end step.sources steps work holds.few holds.going at (stands_over step.sources steps work holds.value at)

-- the state of a job as its holder sees it, after its last step was put
pub kept_over : (job : JobState) (step : JobStep) (work : Work) (made : Bool) → record { step = step; made = made } ≡ job → HasMade step work (steps_made step made) → job.made ≡ false → HasMade job.step work (job.step.number - 1)
kept_over job step work made view holds put = grind arith

pub ended : (job : JobState) (step : JobStep) (work : Work) (made : Bool) → record { step = step; made = made } ≡ job → HasMade step work (steps_made step made) → is_over job ≡ true → job.made ≡ false →
    end_value job.step.sources ≡ Ok work
ended job step work made view holds over put = made_last job.step work (job.step.number - 1) (kept_over job step work made view holds put) over

pub placing_ended : (job : JobState) (step : JobStep) (placed : PlacingUnderWay) (made : Bool) → record { step = step; made = made } ≡ job → HasMade step (Placed placed) (steps_made step made) → is_over job ≡ true → job.made ≡ false →
    job.step.sources.kind ≡ PlacingJob → IfOk (circuit_in job.step.sources) (λ circuit. placed ≡ placing_at job.step.sources circuit (pass_count job.step.sources.strip))
placing_ended job step placed made view holds over put kind =
    let kept = kept_over job step (Placed placed) made view holds put in
    placed_made job.step.sources (job.step.number - 1) placed kind kept.few kept.going over kept.value
