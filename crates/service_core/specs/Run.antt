-- Calls of the core with their results, and the states that they result in, one after another. A
-- refused call changes nothing.
use Rattle.std.specs.Prelude.{ℕ, ◌≡◌, ◌+◌, ◌<◌, length, List, [], ◌∷◌, Bool, true, false, Option, Some, None, IfSome, IsSome, IsSomeAnd, MatchOption, Result, Ok, Err}
use Rattle.std.specs.declared.alloc.AllocError.{AllocError}
use Rattle.service_core.specs.Prelude.{MAX_ENTRIES, MAX_STRIPS, IsFirstFit, IsParted, is_bad_width, with_moved, Owned, JobStep, JobState, Command, Event, Advance as Stepped, Step, StepReply, step, GivesBack, IsAdvanceOf, is_takeable, next_job}
use Rattle.service_core.specs.declared.service.TheConstants.{MAX_ADMISSIONS}
use Rattle.tenant_slot.specs.declared.event.Event.TheVariants.{Command as Asked}
use Rattle.service_core.specs.declared.entry.Entry.{Entry}
use Rattle.service_core.specs.declared.op_refusal.OpRefusal.{OpRefusal}
use Rattle.service_core.specs.declared.op_refusal.OpRefusal.TheVariants.{NoMemory, NoRoom, TooManyStrips, BadWidth, NoSuchTenancy, IdsSpent}
use Rattle.service_core.specs.declared.not_served.NoteCause.TheVariants.{JournalFull as CauseJournalFull, NoSuchTenancy as CauseNoSuchTenancy}
use Rattle.service_core.specs.declared.not_served.NotServed.{NotServed}
use Rattle.service_core.specs.declared.not_served.NotServed.TheVariants.{NoMemory as NotServedNoMemory, JournalFull as NotServedJournalFull, NoSuchTenancy as NotServedNoSuchTenancy}
use Rattle.service_core.specs.declared.put_reply.PutReply.{PutReply}
use Rattle.service_core.specs.declared.put_reply.PutReply.TheVariants.{Recorded, Full, Gone}
use Rattle.service_core.specs.History.{History, slot_of, state_of, with_entry, with_here}
use Rattle.service_core.specs.Owners.{ListsOwnersOf}
use Rattle.service_core.specs.Receipt.{Receipted}
use Rattle.service_core.specs.Service.{ServiceState, live_of, with_change, with_tenancy, without_tenancy}

-- a call with its result; a put has its event's flag, which isn't part of the reply; the last is a
-- look at the book
pub data Call : Type 0 where
  Admit : ℕ → Result (ℕ × ℕ) OpRefusal → Call
  Evict : ℕ → Result (Unit {0}) OpRefusal → Call
  Move : ℕ → ℕ → Result (Unit {0}) OpRefusal → Call
  Tenant : ℕ → Command → Result Receipted NotServed → Call
  Take : ℕ → Option JobState → Call
  Put : JobStep → Bool → Result PutReply (JobStep × AllocError) → Call
  GiveBack : JobState → Call
  Owners : List Owned → Call

-- a tenancy of that width is admitted, if a strip fits and memory suffices
pub record CanAdmit (state : ServiceState) (width : ℕ) : Type 0 where
  pub good_width : is_bad_width state.plan width ≡ false
  pub few_strips : length state.plan.strips < MAX_STRIPS
  pub ids_left : length state.histories < MAX_ADMISSIONS

-- why a tenancy of that width isn't admitted: each refusal applies if none before it does, in the
-- order BadWidth, TooManyStrips, IdsSpent, NoRoom, NoMemory
abbrev pub RefusesAdmission : ServiceState → ℕ → OpRefusal → Type 0
RefusesAdmission state width BadWidth = is_bad_width state.plan width ≡ true
RefusesAdmission state width TooManyStrips = (is_bad_width state.plan width ≡ false) × (length state.plan.strips ≡ MAX_STRIPS)
RefusesAdmission state width IdsSpent = (is_bad_width state.plan width ≡ false) × (length state.plan.strips < MAX_STRIPS) × (length state.histories ≡ MAX_ADMISSIONS)
RefusesAdmission state width NoRoom = CanAdmit state width × IsFirstFit state.plan width None
RefusesAdmission state width NoMemory = CanAdmit state width × ((offset : ℕ) × IsFirstFit state.plan width (Some offset))
RefusesAdmission state width NoSuchTenancy = ⊥

-- a live tenancy's receipt has the index of the next entry, and the reply that the tenancy gets
-- alone
abbrev pub IsReceipt : Option History → ℕ → Command → Receipted → Type 0
IsReceipt live id command r = IsSomeAnd live (λ h. (r.id ≡ id) × (r.place ≡ length h.entries) × (r.command ≡ command) × ((step (state_of h) (Asked command)).1 ≡ Some r.reply))

-- a step that was made, as an event, and as an entry with its reply
abbrev pub step_event : JobStep → Bool → Event
step_event done foreign = Stepped (record { generation = done.generation; number = done.number; foreign = foreign })

abbrev pub step_entry : JobStep → Bool → StepReply → Entry
step_entry done foreign reply = record { event = step_event done foreign; reply = Step reply }

-- the flag says whether the sources differ from the running job's, and the reply is the one that
-- the tenancy gets alone
pub record IsStepOf (h : History) (done : JobStep) (foreign : Bool) (reply : StepReply) : Type 0 where
  pub flag : IsAdvanceOf (state_of h) done (record { generation = done.generation; number = done.number; foreign = foreign })
  pub told : (step (state_of h) (step_event done foreign)).1 ≡ Some (Step reply)

-- a call with its result takes one state to the next. An admission returns the next id and the
-- least offset at which the strips are separated. An eviction is refused exactly if the tenancy
-- isn't live. A strip moves exactly if its tenancy is live and the strips are separated with it at
-- that offset; the columns that it leaves don't count. A served command or a recorded step adds its
-- entry to its tenancy's journal, and nothing else changes. A take returns a job exactly if there
-- is a step to take: it is that step, made exactly if it came back made, and it is out afterwards.
-- A job that is given back to a live tenancy can be taken again if it is the next step of the
-- running one; otherwise it is dropped
abbrev pub Happens : ServiceState → Call → ServiceState → Type 0
Happens old (Admit width (Ok given)) new = CanAdmit old width × (given.0 ≡ length old.histories + 1) × IsFirstFit old.plan width (Some given.1) × (new ≡ with_tenancy old width given.1)
Happens old (Admit width (Err refusal)) new = RefusesAdmission old width refusal × (new ≡ old)
Happens old (Evict id (Ok nothing)) new = IsSome (live_of old.histories id) × (new ≡ without_tenancy old id)
Happens old (Evict id (Err refusal)) new = (refusal ≡ NoSuchTenancy) × (live_of old.histories id ≡ None) × (new ≡ old)
Happens old (Move id offset (Ok nothing)) new = IsSome (live_of old.histories id) × IsParted (with_moved old.plan id offset) × (new ≡ record old { plan = with_moved old.plan id offset })
Happens old (Move id offset (Err NoSuchTenancy)) new = (live_of old.histories id ≡ None) × (new ≡ old)
Happens old (Move id offset (Err NoRoom)) new = IsSome (live_of old.histories id) × (IsParted (with_moved old.plan id offset) → ⊥) × (new ≡ old)
Happens old (Move id offset (Err refusal)) new = ⊥
Happens old (Tenant id command (Ok r)) new = IsReceipt (live_of old.histories id) id command r × (new ≡ with_change old id (with_entry (record { event = Asked command; reply = r.reply })))
Happens old (Tenant id command (Err (NotServedJournalFull note))) new = (note ≡ record { id = id; cause = CauseJournalFull }) × IsSomeAnd (live_of old.histories id) (λ h. length h.entries ≡ MAX_ENTRIES) × (new ≡ old)
Happens old (Tenant id command (Err (NotServedNoSuchTenancy note))) new = (note ≡ record { id = id; cause = CauseNoSuchTenancy }) × (live_of old.histories id ≡ None) × (new ≡ old)
Happens old (Tenant id command (Err NotServedNoMemory)) new = IsSomeAnd (live_of old.histories id) (λ h. length h.entries < MAX_ENTRIES) × (new ≡ old)
Happens old (Take id (Some job)) new = IsSomeAnd (live_of old.histories id) (λ h. (h.id ≡ id) × (is_takeable (slot_of h) ≡ true) × (next_job (slot_of h) ≡ Some job.step) × (h.here ≡ Some job.made)) × (new ≡ with_change old id (with_here None))
Happens old (Take id None) new = IfSome (live_of old.histories id) (λ h. is_takeable (slot_of h) ≡ false) × (new ≡ old)
Happens old (Put done foreign (Ok (Recorded reply))) new = IsSomeAnd (live_of old.histories done.id) (λ h. IsStepOf h done foreign reply) × (new ≡ with_change old done.id (with_entry (step_entry done foreign reply)))
Happens old (Put done foreign (Ok Full)) new = IsSomeAnd (live_of old.histories done.id) (λ h. length h.entries ≡ MAX_ENTRIES) × (new ≡ old)
Happens old (Put done foreign (Ok Gone)) new = (live_of old.histories done.id ≡ None) × (new ≡ old)
Happens old (Put done foreign (Err back)) new = IsSomeAnd (live_of old.histories done.id) (λ h. length h.entries < MAX_ENTRIES) × (back.0 ≡ done) × (new ≡ old)
Happens old (GiveBack job) new = MatchOption (live_of old.histories job.step.id) (new ≡ old) (λ h. (here : Option Bool) × GivesBack (slot_of h) job (slot_of (with_here here h)) × (new ≡ with_change old job.step.id (with_here here)))
Happens old (Owners list) new = ListsOwnersOf old list × (new ≡ old)

-- the calls one after another
abbrev pub Run : ServiceState → List Call → ServiceState → Type 0
Run old [] new = new ≡ old
Run old (call ∷ calls) new = (mid : ServiceState) × Happens old call mid × Run mid calls new

-- private: a job that is given back, by the history of its tenancy, if that is live
abbrev pub IsGivenBackTo : Option History → ServiceState → JobState → ServiceState → Type 0
IsGivenBackTo live old job new = MatchOption live (new ≡ old) (λ h. (here : Option Bool) × GivesBack (slot_of h) job (slot_of (with_here here h)) × (new ≡ with_change old job.step.id (with_here here)))
