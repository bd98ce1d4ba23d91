-- Private: what a worker's turn under the lock does to the core that it borrows.
use Rattle.std.specs.Prelude.{ℕ, ◌≡◌, Bool, true, false, Option, Some, None, Result, Ok, Err}
use Rattle.std.specs.declared.alloc.AllocError.{AllocError}
use Rattle.strips.specs.Plan.{offset_of}
use Rattle.job_state.specs.declared.step.JobStep.{JobStep}
use Rattle.job_state.specs.Job.{JobState}
use Rattle.service_core.specs.Calls.{IsGivenBack, IsTaken, Puts}
use Rattle.service_core.specs.declared.put_reply.PutReply.{PutReply}
use Rattle.service_core.specs.Service.{ServiceState}
use Rattle.shared_core.specs.CoreCalls.{ChangesService, CountsPut}
use Rattle.shared_core.specs.CoreState.{CoreState, ShareState, holder_of, ready_number, with_mark}
use Rattle.worker_pool.specs.declared.lack.Served.{Served}
use Rattle.worker_pool.specs.declared.lack.Served.TheVariants.{Nothing, Made, NoMemory}
use Rattle.worker_pool.specs.declared.turns.Taken.{Taken}
use Rattle.worker_pool.specs.Lack.{is_last_try}

-- that number is no longer marked
abbrev pub unmarked_at : CoreState → ℕ → CoreState
unmarked_at core slot = record core { slots = with_mark core.slots (Some slot) false }

-- the core with that service
abbrev pub with_service : CoreState → ServiceState → CoreState
with_service core service = record core { service = service }

-- the next step of that tenancy's job is taken, with the offset of its strip, or there is no step
-- to take
abbrev pub TakesStep : ℕ → CoreState → Option Taken → CoreState → Type 0
TakesStep id old None new = IsTaken old.service id None new.service × ChangesService old new
TakesStep id old (Some taken) new = IsTaken old.service id (Some taken.job) new.service × ChangesService old new × (taken.offset ≡ offset_of old.service.plan.strips id)

-- this is done for the tenancy that has the number, if there is one
abbrev pub TakesFor : Option ℕ → CoreState → Option Taken → CoreState → Type 0
TakesFor None old taken new = (taken ≡ None) × (new ≡ old)
TakesFor (Some id) old taken new = TakesStep id old taken new

-- a number that was popped is unmarked, and the next step of its tenancy is taken
abbrev pub Takes : CoreState → ℕ → Option Taken → CoreState → Type 0
Takes old slot taken new = TakesFor (holder_of old.slots.holders slot) (unmarked_at old slot) taken new

-- the worker has the number of the tenancy's next step, if there is a step to take whose number is
-- nobody's; the number is marked then
abbrev pub Marks : CoreState → ℕ → Option ℕ → CoreState → Type 0
Marks old id next new = (next ≡ ready_number old id) × (new ≡ record old { slots = with_mark old.slots next true })

-- or, after the last try, the number is given up, and nobody has it
abbrev pub MarksUnless : Bool → CoreState → ℕ → Option ℕ → CoreState → Type 0
MarksUnless true old id again new = (again ≡ None) × (new ≡ old)
MarksUnless false old id again new = Marks old id again new

-- a job is given back to the service, after this number of steps in a row that ran out of memory,
-- and its number is marked or given up
abbrev pub Returns : CoreState → JobState → ℕ → Served → CoreState → Type 0
Returns old job lacks Nothing new = ⊥
Returns old job lacks (Made next) new = ⊥
Returns old job lacks (NoMemory again) new = (service : ServiceState) × IsGivenBack old.service job service × MarksUnless (is_last_try lacks) (with_service old service) job.step.id again new

-- after the answer to a put, the next number is marked; or the step, which was made, is given back
abbrev pub GoesOn : Result PutReply (JobStep × AllocError) → CoreState → JobStep → ℕ → Served → CoreState → Type 0
GoesOn (Ok reply) old done lacks Nothing new = ⊥
GoesOn (Ok reply) old done lacks (Made next) new = Marks old done.id next new
GoesOn (Ok reply) old done lacks (NoMemory again) new = ⊥
GoesOn (Err back) old done lacks served new = Returns old (record { step = done; made = true }) lacks served new

-- a step is put; only the share counts it, if it is recorded
pub record PutsStep (old : CoreState) (share : ShareState) (done : JobStep) (lacks : ℕ) (served : Served) (new : CoreState) (new_share : ShareState) : Type 0 where
  pub answer : Result PutReply (JobStep × AllocError)
  pub service : ServiceState
  pub puts : Puts old.service done answer service
  pub counted : CountsPut share answer new_share
  pub goes_on : GoesOn answer (with_service old service) done lacks served new
