-- Private: a tenancy's invariant, and what its calls do.
use Rattle.std.specs.Prelude.{ℕ, ◌≡◌, ◌<◌, ◌≤◌, ◌⊎◌, List, [], length, map, Bool, true, false, Result, Ok, Err, Option, Some, None, IfSome, option_and_then, if◌then◌else◌}
use Rattle.std.specs.declared.alloc.AllocError.{AllocError}
use Rattle.service_core.specs.Prelude.{MAX_ENTRIES, Arch, Strip, Resource, is_there, moved_resource, Extent, Owners, Releases, in_book, JobStep, JobState, Command, StepReply, Reply, Accepted, NotAnswered, NoMemory, JournalFull, start, step, state_after, routed_set, GivesBack, SlotState, is_takeable, next_job}
use Rattle.tenant_slot.specs.declared.event.Event.TheVariants.{Command as Asked}
use Rattle.service_core.specs.declared.entry.Entry.{Entry}
use Rattle.service_core.specs.History.{History, IsReplayed, events_of, slot_of, state_of, with_entry, with_here}
use Rattle.service_core.specs.Run.{IsStepOf, step_entry}
use Rattle.service_core.specs.Texts.{CountAs}

-- whether its next step is here
abbrev pub slot_here : Option SlotState → Option Bool
slot_here None = Some false
slot_here (Some slot) = slot.here

-- a tenancy that has ended
abbrev pub closed_history : History → History
closed_history h = record h { live = false; here = Some false }

abbrev pub if_live : Option History → Option History
if_live o = option_and_then (λ h. if h.live then Some h else None) o

-- the journal is that of the tenancy alone, a live tenancy's slot is in the state that it results
-- in, and the journal's texts count as some bytes, which are within a limit
pub record IsHistory (id : ℕ) (arch : Arch) (strip : Strip) (slot : Option SlotState) (entries : List Entry) (held limit : ℕ) : Type 0 where
  pub replayed : IsReplayed arch strip entries
  pub same_id : IfSome slot (λ s. s.id ≡ id)
  pub state : IfSome slot (λ s. s.state ≡ state_after (start arch strip) (events_of entries))
  pub counted : CountAs held entries
  pub within : held ≤ limit

-- the possible results of a live tenancy's command: the command with its reply, which is one more
-- entry
abbrev pub ServesHistory : History → Command → Result (Command × Reply) NotAnswered → History → Type 0
ServesHistory old command (Ok told) new = (told.0 ≡ command) × ((step (state_of old) (Asked command)).1 ≡ Some told.1) × (new ≡ with_entry (record { event = Asked command; reply = told.1 }) old)
ServesHistory old command (Err JournalFull) new = (length old.entries ≡ MAX_ENTRIES) × (new ≡ old)
ServesHistory old command (Err NoMemory) new = (length old.entries < MAX_ENTRIES) × (new ≡ old)

-- the possible results of a take of a live tenancy's next step
abbrev pub TakesHistory : History → Option JobState → History → Type 0
TakesHistory old (Some job) new = (is_takeable (slot_of old) ≡ true) × (next_job (slot_of old) ≡ Some job.step) × (old.here ≡ Some job.made) × (new ≡ with_here None old)
TakesHistory old None new = (is_takeable (slot_of old) ≡ false) × (new ≡ old)

-- the possible results of a put of a step of a live tenancy whose journal has space for an entry
abbrev pub PutsHistory : History → JobStep → Result StepReply (JobStep × AllocError) → History → Type 0
PutsHistory old done (Ok reply) new = (foreign : Bool) × IsStepOf old done foreign reply × (new ≡ with_entry (step_entry done foreign reply) old)
PutsHistory old done (Err back) new = (back.0 ≡ done) × (new ≡ old)

-- the history after a job is given back
abbrev pub GivesHistoryBack : History → JobState → History → Type 0
GivesHistoryBack old job new = (here : Option Bool) × GivesBack (slot_of old) job (slot_of (with_here here old)) × (new ≡ with_here here old)

-- the book has a place for each resource of a strip, moved a number of columns to the right
abbrev pub StandsIn : Extent → ℕ → Arch → Strip → Type 0
StandsIn extent offset arch strip = (resource : Resource) → is_there arch strip resource ≡ true → in_book extent (moved_resource offset resource) ≡ true

-- a tenancy whose reply says that its state changes gives up what it occupied; others don't
abbrev pub GivesUp : Owners → List Resource → Reply → Owners → Type 0
GivesUp old held (Accepted name) new = Releases old held new
GivesUp old held reply new = new ≡ old

-- a tenancy gives up what it occupied, or keeps it
abbrev pub GivesUpOrKeeps : Owners → ℕ → History → Owners → History → Type 0
GivesUpOrKeeps book offset old left new =
    (Releases book (map (moved_resource offset) (routed_set (state_of old))) left × (routed_set (state_of new) ≡ []))
    ⊎ ((left ≡ book) × (routed_set (state_of new) ≡ routed_set (state_of old)))
