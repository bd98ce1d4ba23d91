-- The main theorem's statements about a list of calls and the state after it.
use Rattle.std.specs.Prelude.{ℕ, ◌≡◌, List, map, Option, Some, is_some, option_map, true, IfSome, IsSomeAnd, ◌↔◌}
use Rattle.std.specs.List.{filter}
use Rattle.service_core.specs.Prelude.{Resource, has, moved_resource, IsParted, offset_of, strip_of, StepReply, Advanced, Finished, Stale, routed_set, run}
use Rattle.service_core.specs.declared.device.Device.{Device}
use Rattle.service_core.specs.History.{History, state_of}
use Rattle.service_core.specs.Owners.{IsOwner}
use Rattle.service_core.specs.Service.{ServiceState, history_of, live_of, strip_on}
use Rattle.service_core.specs.Run.{Call}
use Rattle.service_core.specs.OwnEvents.{own_events, own_exchanges, own_replies}

-- each tenancy's state and replies are those that its own events result in alone, on a device of
-- its strip's size
abbrev pub EachIsAlone : Device → List Call → ServiceState → Type 0
EachIsAlone device calls state = (id : ℕ) → IfSome (history_of state.histories id) (λ h. (state_of h, own_replies id calls) ≡ run device.arch (strip_on device h.strip.width) (own_events id calls))

-- a live tenancy owns exactly what is routed in the state that its own events result in alone, at
-- its strip's offset on the device
abbrev pub IsBook : Device → List Call → ServiceState → Type 0
IsBook device calls state = (resource : Resource) (id : ℕ) → IsOwner state resource id
    ↔ IsSomeAnd (live_of state.histories id) (λ h. IsSomeAnd (offset_of state.plan.strips id) (λ offset. has (map (moved_resource offset) (routed_set (run device.arch (strip_on device h.strip.width) (own_events id calls)).0)) resource ≡ true))

-- each journal is its tenancy's own events with their replies, without those that weren't recorded
abbrev pub AreOwnJournals : List Call → ServiceState → Type 0
AreOwnJournals calls state = (id : ℕ) → IfSome (history_of state.histories id) (λ h. map (λ entry. (entry.event, Some entry.reply)) h.entries ≡ filter (λ exchange. is_some exchange.1) (own_exchanges id calls))

-- the strips of the live tenancies, each of its width, are on the device, and at least one column
-- between any two is unused
pub record AreParted (device : Device) (state : ServiceState) : Type 0 where
  pub columns : state.plan.columns ≡ device.columns
  pub parted : IsParted state.plan
  pub of_live : (id : ℕ) → option_map (λ s. s.width) (strip_of state.plan.strips id) ≡ option_map (λ h. h.strip.width) (live_of state.histories id)

-- the reply says that the step counts, exactly if it is to count
abbrev pub Counts : StepReply → Type 0 → Type 0
Counts Stale is_next = is_next → ⊥
Counts Advanced is_next = is_next
Counts Finished is_next = is_next

-- two tenancies of devices of one architecture and one number of rows, with strips of one width
pub record AreAlike (device other : Device) (h g : History) : Type 0 where
  pub arch : device.arch ≡ other.arch
  pub rows : device.rows ≡ other.rows
  pub width : h.strip.width ≡ g.strip.width

-- both were admitted, and the relation holds between them
abbrev pub BothHave : (History → History → Type 0) → Option History → Option History → Type 0
BothHave P (Some h) (Some g) = P h g
BothHave P h g = ⊥

abbrev pub HaveSameStrip : Device → ServiceState → ℕ → Device → ServiceState → ℕ → Type 0
HaveSameStrip device state id other other_state other_id = BothHave (AreAlike device other) (history_of state.histories id) (history_of other_state.histories other_id)

-- they have equal replies, and are in equal states
abbrev pub AreToldTheSame : ServiceState → ℕ → List Call → ServiceState → ℕ → List Call → Type 0
AreToldTheSame state id calls other_state other_id other_calls =
    (own_replies id calls ≡ own_replies other_id other_calls) × BothHave (λ h g. state_of h ≡ state_of g) (history_of state.histories id) (history_of other_state.histories other_id)
