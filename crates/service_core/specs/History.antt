-- One tenancy's history: its journal, and the replies that it must contain.
use Rattle.std.specs.Prelude.{ℕ, ◌≡◌, ◌≤◌, List, [], ◌∷◌, ◌++◌, length, map, Bool, Option, Some}
use Rattle.service_core.specs.Prelude.{MAX_ENTRIES, Arch, Strip, Event, State, start, state_after, replies_to, SlotState, after_event}
use Rattle.service_core.specs.declared.entry.Entry.{Entry}

-- a tenancy, live or closed: its id, the device's architecture, its strip's size, whether the next
-- step of its running job is here (`None` if it is out, otherwise whether it was made already), and
-- its journal, whose texts may have at most `text_limit` bytes
pub record History : Type 0 where
  pub id : ℕ
  pub arch : Arch
  pub strip : Strip
  pub text_limit : ℕ
  pub live : Bool
  pub here : Option Bool
  pub entries : List Entry

abbrev pub events_of : List Entry → List Event
events_of entries = map (λ entry. entry.event) entries

-- the state that the stored events result in, alone
abbrev pub state_of : History → State
state_of h = state_after (start h.arch h.strip) (events_of h.entries)

-- the slot in that state
abbrev pub slot_of : History → SlotState
slot_of h = record { id = h.id; state = state_of h; here = h.here }

-- the stored replies are those that the service for a single user gives to the stored events
pub record IsReplayed (arch : Arch) (strip : Strip) (entries : List Entry) : Type 0 where
  pub told : replies_to (start arch strip) (events_of entries) ≡ map (λ entry. Some entry.reply) entries
  pub count : (state_after (start arch strip) (events_of entries)).entries ≡ length entries
  pub few : length entries ≤ MAX_ENTRIES

-- with one more entry
abbrev pub with_entry : Entry → History → History
with_entry entry h = record h { entries = h.entries ++ entry ∷ []; here = (after_event (slot_of h) entry.event).here }

-- with that state of its next step
abbrev pub with_here : Option Bool → History → History
with_here here h = record h { here = here }
