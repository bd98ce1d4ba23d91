-- All tenancies on one device.
use Rattle.std.specs.Prelude.{ℕ, ◌≡◌, ◌+◌, ◌-◌, List, [], ◌∷◌, ◌++◌, length, true, false, Option, Some, None, option_and_then, option_map, All, ◌==◌, if◌then◌else◌}
use Rattle.std.specs.Option.{option_map_or}
use Rattle.service_core.specs.Prelude.{Strip, PlacedStrip, Plan, strip_of, strips_without}
use Rattle.service_core.specs.declared.device.Device.{Device}
use Rattle.service_core.specs.declared.entry.Entry.{Entry}
use Rattle.service_core.specs.History.{History, IsReplayed}

-- the device, the strips of the live tenancies with their offsets, and the history of each id from
-- 1
pub record ServiceState : Type 0 where
  pub device : Device
  pub plan : Plan
  pub histories : List History

-- a device without tenancies
abbrev pub empty_service : Device → ServiceState
empty_service device = record { device = device; plan = record { columns = device.columns; strips = [] }; histories = [] }

-- the history of that id, the first being 1
abbrev pub history_of : List History → ℕ → Option History
history_of [] id = None
history_of (h ∷ hs) id = if id == 1 then Some h else history_of hs (id - 1)

-- the histories, with that one changed
abbrev pub with_changed : List History → ℕ → (History → History) → List History
with_changed [] id change = []
with_changed (h ∷ hs) id change = if id == 1 then change h ∷ hs else h ∷ with_changed hs (id - 1) change

-- the history of that id, if the tenancy is live
abbrev pub live_of : List History → ℕ → Option History
live_of histories id = option_and_then (λ h. if h.live then Some h else None) (history_of histories id)

abbrev pub entries_in : Option History → List Entry
entries_in o = option_map_or (λ h. h.entries) o []

-- the journal of that id, live or closed
abbrev pub journal_of : ServiceState → ℕ → List Entry
journal_of state id = entries_in (history_of state.histories id)

-- the size of a strip of that width on the device
abbrev pub strip_on : Device → ℕ → Strip
strip_on device width = record { width = width; rows = device.rows; io_rat = device.arch.io_rat }

-- a tenancy of that id and width at its admission
abbrev pub admitted_history : Device → ℕ → ℕ → History
admitted_history device id width = record { id = id; arch = device.arch; strip = strip_on device width; text_limit = device.text_limit; live = true; here = Some false; entries = [] }

-- one more tenancy, with the next id
abbrev pub with_tenancy : ServiceState → ℕ → ℕ → ServiceState
with_tenancy state width offset = record state {
  plan = record state.plan { strips = state.plan.strips ++ record { id = length state.histories + 1; offset = offset; width = width } ∷ [] };
  histories = state.histories ++ admitted_history state.device (length state.histories + 1) width ∷ [];
}

-- that tenancy ended: its strip is free, its history is closed
abbrev pub without_tenancy : ServiceState → ℕ → ServiceState
without_tenancy state id = record state {
  plan = record state.plan { strips = strips_without state.plan.strips id };
  histories = with_changed state.histories id (λ h. record h { live = false; here = Some false });
}

-- that tenancy's history changed
abbrev pub with_change : ServiceState → ℕ → (History → History) → ServiceState
with_change state id change = record state { histories = with_changed state.histories id change }

-- the tenancy has that device and its text limit, and its journal is that of the tenancy alone
pub record IsAloneOn (device : Device) (h : History) : Type 0 where
  pub arch : h.arch ≡ device.arch
  pub strip : h.strip ≡ strip_on device h.strip.width
  pub limit : h.text_limit ≡ device.text_limit
  pub replayed : IsReplayed h.arch h.strip h.entries

-- this holds of all tenancies
abbrev pub AreAlone : ServiceState → Type 0
AreAlone state = All (IsAloneOn state.device) state.histories

-- the width of that id's strip: in the list of strips, and in the tenancy's history
abbrev pub placed_width : List PlacedStrip → ℕ → Option ℕ
placed_width strips id = option_map (λ s. s.width) (strip_of strips id)

abbrev pub live_width : List History → ℕ → Option ℕ
live_width histories id = option_map (λ h. h.strip.width) (live_of histories id)
