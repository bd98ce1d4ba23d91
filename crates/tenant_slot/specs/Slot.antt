-- A slot: one tenancy by its id, and its running job, which may be out.
use Rattle.std.specs.Prelude.{ℕ, ◌≡◌, ◌+◌, ◌<◌, ◌↔◌, Result, Ok, Err, Option, Some, None, option_map, is_some, Bool, true, false, ◌&&◌, nat_lt, ⊤}
use Rattle.std.specs.Option.{option_map_or}
use Rattle.tenant_slot.specs.declared.slot.TheConstants.{MAX_ENTRIES}
use Rattle.tenant_slot.specs.Prelude.{JobStep, Sources, JobState}
use Rattle.tenant_slot.specs.declared.command.Command.{Command}
use Rattle.tenant_slot.specs.declared.event.Advance.{Advance}
use Rattle.tenant_slot.specs.declared.event.Event.{Event}
use Rattle.tenant_slot.specs.declared.event.Event.TheVariants.{Command as Asked, Advance as Stepped}
use Rattle.tenant_slot.specs.declared.origin.Origin.{Origin}
use Rattle.tenant_slot.specs.declared.origin.Origin.TheVariants.{Running, Unknown}
use Rattle.tenant_slot.specs.declared.reply.Reply.{Reply}
use Rattle.tenant_slot.specs.declared.reply.Reply.TheVariants.{Step}
use Rattle.tenant_slot.specs.declared.reply.StepReply.{StepReply}
use Rattle.tenant_slot.specs.declared.not_served.NotAnswered.{NotAnswered}
use Rattle.tenant_slot.specs.declared.not_served.NotAnswered.TheVariants.{NoMemory, JournalFull}
use Rattle.tenant_slot.specs.SingleUser.{State, answer_to, kind_that_runs, sources_of, step}

-- a tenancy with its id, and whether the running job's next step is here: `None` if it is out,
-- otherwise whether it was made already
pub record SlotState : Type 0 where
  pub id : ℕ
  pub state : State
  pub here : Option Bool

-- the slot after an event that has a reply: if the event changes the state, the running job's next
-- step is here and not made
abbrev pub after_event : SlotState → Event → SlotState
after_event slot event = record slot { state = (step slot.state event).0; here = option_map_or (λ new. Some false) (answer_to slot.state event).0 slot.here }

-- the possible replies of a command, with the slots before and after it: if memory runs out or the
-- journal is full, nothing changes
abbrev pub Serves : SlotState → Command → Result Reply NotAnswered → SlotState → Type 0
Serves old command (Ok reply) new = ((step old.state (Asked command)).1 ≡ Some reply) × (new ≡ after_event old (Asked command))
Serves old command (Err JournalFull) new = (old.state.entries ≡ MAX_ENTRIES) × (new ≡ old)
Serves old command (Err NoMemory) new = (old.state.entries < MAX_ENTRIES) × (new ≡ old)

-- what the running job is computed from, if one runs
abbrev pub running_sources : State → Option Sources
running_sources state = option_map (sources_of state) (kind_that_runs state.name)

-- the running job's next step
abbrev pub next_job : SlotState → Option JobStep
next_job slot = option_map (λ sources. record { id = slot.id; generation = slot.state.generation; number = slot.state.steps + 1; sources = sources }) (running_sources slot.state)

-- there is a step to take: a job runs, its next step is here, and the journal has space for an
-- entry
abbrev pub is_takeable : SlotState → Bool
is_takeable slot = is_some (kind_that_runs slot.state.name) && (is_some slot.here && nat_lt slot.state.entries MAX_ENTRIES)

-- the possible results of a take. If there is a step to take, it is the running job's next one,
-- made exactly if it came back made, and it is out afterwards; otherwise `None`, and nothing
-- changes
abbrev pub Takes : SlotState → Option JobState → SlotState → Type 0
Takes old None new = (is_takeable old ≡ false) × (new ≡ old)
Takes old (Some job) new = (is_takeable old ≡ true) × (next_job old ≡ Some job.step) × (old.here ≡ Some job.made) × (new ≡ record old { here = None })

-- how a step that was made is recorded: it is foreign unless its sources are those of the running
-- job
pub record IsAdvanceOf (state : State) (done : JobStep) (made : Advance) : Type 0 where
  pub generation : made.generation ≡ done.generation
  pub number : made.number ≡ done.number
  pub foreign : (made.foreign ≡ false) ↔ (running_sources state ≡ Some done.sources)

-- what the caller knows of a step that it puts is true
abbrev pub IsOrigin : SlotState → JobStep → Origin → Type 0
IsOrigin slot done Running = next_job slot ≡ Some done
IsOrigin slot done Unknown = ⊤

-- a step of this tenancy can be put if the journal has space for its entry
pub record CanPut (slot : SlotState) (done : JobStep) : Type 0 where
  pub id : done.id ≡ slot.id
  pub room : slot.state.entries < MAX_ENTRIES

-- the possible results of a put
pub record Puts (old : SlotState) (done : JobStep) (made : Advance) (reply : StepReply) (new : SlotState) : Type 0 where
  pub advance : IsAdvanceOf old.state done made
  pub told : (step old.state (Stepped made)).1 ≡ Some (Step reply)
  pub after : new ≡ after_event old (Stepped made)

-- if the step of a job that is given back is the running job's next one, the job can be taken again
-- as it is; otherwise it is dropped
pub record GivesBack (old : SlotState) (back : JobState) (new : SlotState) : Type 0 where
  pub only_here : new ≡ record old { here = new.here }
  pub ready : next_job old ≡ Some back.step → new.here ≡ Some back.made
  pub dropped : (next_job old ≡ Some back.step → ⊥) → new.here ≡ old.here
