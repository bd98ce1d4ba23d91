-- What is read of a whole output is what the service printed last.
use Rattle.std.specs.Prelude.{◌≡◌, ◌⊎◌, ℕ, Bool, true, List, [], ◌∷◌, map, is_some, unwrap_or, IsSomeAnd, Option, Some, None, Result, Ok, Err, if◌then◌else◌}
use Rattle.std.specs.List.{list_any}
use Rattle.device_law.specs.Prelude.{Resource, Owned, Device, IsDevice, IsOwner, Call, ServiceState, PlacedStrip, strip_of, Act, Operator, Session, List as ListAll, Owners, Stage, Architecture, Options, IsReplies, Start, device_of, start_of, Telling, Tells, NoList, NoOwners, InputFault, DeviceSize, Listed, OwnedNode, change_in, Seen, device_in, is_in_strip, lines_of}
use Rattle.service_core.specs.Run.Call.{Owners as OwnersCall}
use Rattle.device_law.specs.OwnersBack.{is_on, node_of}
use Rattle.device_law.specs.ReadBack.{entries}

-- what the operator was shown by the last `op list` and the last `op owners`
pub record Shown : Type 0 where
  pub listed : Option (List Listed)
  pub owned : Option (List OwnedNode)

abbrev pub nothing_shown : Shown
nothing_shown = record { listed = None; owned = None }

-- a line of the reply reports a change of the device: `ok`, `ok OFFSET`, `ok ID OFFSET`, `finished`
abbrev pub reports : List ℕ → Bool
reports text = list_any (λ line. is_some (change_in line)) (lines_of text)

-- the owners that the core listed
abbrev pub owners_in : List Call → List Owned
owners_in (OwnersCall owners ∷ calls) = owners
owners_in calls = []

-- what an act shows the operator: `op list` the live tenancies, `op owners` what is owned. What was
-- shown before a change counts no more
abbrev pub shown_by : Stage → Act (List ℕ) → List Call → List ℕ → Shown → Shown
shown_by stage (Operator ListAll) calls text shown = record shown { listed = Some (entries stage.service stage.names) }
shown_by stage (Operator Owners) calls text shown = record shown { owned = Some (map node_of (owners_in calls)) }
shown_by stage (Operator line) calls text shown = if reports text then nothing_shown else shown
shown_by stage (Session name line) calls text shown = shown

abbrev pub shown_after : (old : Stage) (tellings : List Telling) (new : Stage) → Tells old tellings new → Shown → Shown
shown_after old [] new told shown = shown
shown_after old (t ∷ ts) new told shown = shown_after told.0 ts new told.2 (shown_by old t.act t.calls t.text shown)

-- by a whole run
abbrev pub shown_in : {options : Options} {start : Start (List (Act (List ℕ)))} {output : List ℕ} → IsReplies options start output → Shown
shown_in r = shown_after _ r.tellings r.last r.told nothing_shown

-- a tenancy with its strip, without the name of its state, which its session may have changed since
abbrev pub without_state : Listed → Listed
without_state one = record one { state = [] }

-- What is read is the last list and the last owners, and the tenancies are those that are live at
-- the end, each with its strip. It is refused only if there is no such list, or no such owners.
abbrev pub IsReadFrom : Shown → Stage → Result Seen InputFault → Type 0
IsReadFrom shown last (Ok seen) =
    (seen.listed ≡ unwrap_or shown.listed []) × (Some seen.owned ≡ shown.owned) × (map without_state seen.listed ≡ map without_state (entries last.service last.names))
IsReadFrom shown last (Err found) = ((found.fault ≡ NoList) × (shown.listed ≡ None)) ⊎ ((found.fault ≡ NoOwners) × (shown.owned ≡ None))

-- the sizes of a device within the limits, as the tools are given them
abbrev pub size_of : (device : Device) → IsDevice device → DeviceSize
size_of device known = record {
  columns = device.columns;
  rows = device.rows;
  tracks = device.arch.tracks;
  pads = device.arch.io_rat;
  columns_lawful = known.columns;
  rows_lawful = known.rows;
  tracks_lawful = known.arch.tracks;
  pads_lawful = known.arch.io_rat;
}

-- so is what a script's run writes read
abbrev pub IsOutputRead : Type 0
IsOutputRead = (options : Options) (tracks : ℕ) (architecture : Architecture) (input output : List ℕ) → (r : IsReplies options (start_of tracks architecture input) output) →
    (known : IsDevice (device_of options r.arch)) → IsReadFrom (shown_in r) r.last (device_in (size_of (device_of options r.arch) known) output)

-- a strip as a tenancy's line of `op list` shows it
abbrev pub strip_listed : PlacedStrip → Listed
strip_listed strip = record { id = strip.id; name = []; offset = strip.offset; width = strip.width; state = [] }

-- the device has what a tenancy owns, and it is in the tenancy's strip
abbrev pub AreOnDevice : (device : Device) → IsDevice device → ServiceState → Type 0
AreOnDevice device known state = (resource : Resource) (id : ℕ) → IsOwner state resource id →
    (is_on (size_of device known) resource ≡ true) × IsSomeAnd (strip_of state.plan.strips id) (λ strip. is_in_strip resource (strip_listed strip) ≡ true)
