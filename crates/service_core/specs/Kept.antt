-- Private: the core's invariant, and what its own read calls return.
use Rattle.std.specs.Prelude.{ℕ, ◌≡◌, ◌-◌, ◌<◌, ◌≤◌, ◌↔◌, List, [], length, map, Bool, true, Option, Some, None, Result, Ok, Err, All, slice_index_or}
use Rattle.service_core.specs.declared.service.TheConstants.{MAX_ADMISSIONS}
use Rattle.service_core.specs.Prelude.{MAX_COLUMNS, MAX_ROWS, IsArch, IsWithin, PlacedStrip, Resource, has, moved_resource, IsFirstFit, IsParted, offset_of, Claims, IsFree, Owners, extent_of, owner_of, StepReply, Finished, routed_set}
use Rattle.service_core.specs.declared.device.Device.{Device}
use Rattle.service_core.specs.declared.op_refusal.OpRefusal.{OpRefusal}
use Rattle.service_core.specs.declared.entry.Entry.{Entry}
use Rattle.service_core.specs.History.{History, state_of, with_entry, with_here}
use Rattle.service_core.specs.Run.{CanAdmit, RefusesAdmission}
use Rattle.service_core.specs.Service.{IsAloneOn, ServiceState, history_of, live_of, live_width, placed_width, with_change}
use Rattle.service_core.specs.Tenancy.{StandsIn}

-- the device is within the limits
pub record IsDevice (device : Device) : Type 0 where
  pub arch : IsArch device.arch
  pub columns : IsWithin 1 device.columns MAX_COLUMNS
  pub rows : IsWithin 1 device.rows MAX_ROWS

-- exactly the live tenancies have strips, each of its width; each tenancy's index is its id less
-- one; and each is served as if alone on that device
pub record IsService (device : Device) (strips : List PlacedStrip) (histories : List History) : Type 0 where
  pub linked : (id : ℕ) → placed_width strips id ≡ live_width histories id
  pub few : length histories ≤ MAX_ADMISSIONS
  pub ids : (id : ℕ) (h : History) → history_of histories id ≡ Some h → h.id ≡ id
  pub alone : All (IsAloneOn device) histories

-- what a live tenancy has routed, in its strip's own columns
abbrev pub routed_in : Option History → List Resource
routed_in None = []
routed_in (Some h) = routed_set (state_of h)

-- those resources at the strip's offset on the device
abbrev pub placed_at : Option ℕ → List Resource → List Resource
placed_at None resources = []
placed_at (Some offset) resources = map (moved_resource offset) resources

-- what the tenancy of that id owns
abbrev pub owned_by : ServiceState → ℕ → List Resource
owned_by state id = placed_at (offset_of state.plan.strips id) (routed_in (live_of state.histories id))

-- the device's book has exactly these owners
pub record KeepsBook (book : Owners) (state : ServiceState) : Type 0 where
  pub extent : book.extent ≡ extent_of state.device.arch state.device.columns state.device.rows
  pub exact : (resource : Resource) (id : ℕ) → (owner_of book resource ≡ Some id) ↔ (has (owned_by state id) resource ≡ true)

-- in addition the device is within the limits, and its book is exact
pub record IsSound (owners : Owners) (device : Device) (strips : List PlacedStrip) (histories : List History) : Type 0 where
  pub lawful : IsDevice device
  pub kept : IsService device strips histories
  pub book : KeepsBook owners (record { device = device; plan = record { columns = device.columns; strips = strips }; histories = histories })

-- a live tenancy is at its index in the list
pub record IsLiveIn (histories : List History) (id : ℕ) : Type 0 where
  pub positive : 0 < id
  pub within : id ≤ length histories
  pub flag : (d : History) → (slice_index_or histories (id - 1) d).live ≡ true
  pub history : (d : History) → history_of histories id ≡ Some (slice_index_or histories (id - 1) d)

-- a live tenancy's strip is at that offset, separated from the others, and the book has a place for
-- all that the tenancy has
pub record IsPlaceOf (state : ServiceState) (id offset : ℕ) : Type 0 where
  pub at : offset_of state.plan.strips id ≡ Some offset
  pub parted : IsParted state.plan
  pub stands : (h : History) → live_of state.histories id ≡ Some h → StandsIn (extent_of state.device.arch state.device.columns state.device.rows) offset h.arch h.strip

-- what a tenancy occupies on the device
abbrev pub held_at : ℕ → History → List Resource
held_at offset h = map (moved_resource offset) (routed_set (state_of h))

-- nobody owns what the tenancy occupies
abbrev pub AreFree : Owners → ℕ → History → Type 0
AreFree book offset h = All (IsFree book) (held_at offset h)

-- a live tenancy's strip has its places in the book, and if its job has finished, nobody owns what
-- it occupies
pub record CanTakeUp (book : Owners) (id offset : ℕ) (h : History) (reply : StepReply) : Type 0 where
  pub live : h.live ≡ true
  pub few : id ≤ MAX_ADMISSIONS
  pub there : StandsIn book.extent offset h.arch h.strip
  pub free : reply ≡ Finished → AreFree book offset h

-- a tenancy whose job has finished becomes the owner of what it occupies now
abbrev pub TakesUp : Owners → ℕ → ℕ → History → StepReply → Owners → Type 0
TakesUp old id offset h Finished new = Claims old id (held_at offset h) new
TakesUp old id offset h reply new = new ≡ old

-- the check of the refusals that need no memory returns the offset
abbrev pub ChecksAdmission : ServiceState → ℕ → Result ℕ OpRefusal → Type 0
ChecksAdmission state width (Ok offset) = CanAdmit state width × IsFirstFit state.plan width (Some offset)
ChecksAdmission state width (Err refusal) = RefusesAdmission state width refusal

-- one more entry in that tenancy's journal
abbrev pub with_entry_of : ServiceState → ℕ → Entry → ServiceState
with_entry_of state id entry = with_change state id (with_entry entry)

-- that tenancy with that state of its running job's next step
abbrev pub with_here_of : ServiceState → ℕ → Option Bool → ServiceState
with_here_of state id here = with_change state id (with_here here)
