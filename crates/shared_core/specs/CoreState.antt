-- All tenancies, and the account of what sessions and workers entered.
use Rattle.std.specs.Prelude.{ℕ, ◌≡◌, ◌+◌, ◌-◌, List, [], ◌∷◌, ◌++◌, Bool, true, false, not, ◌&&◌, ◌||◌, Option, Some, None, is_some, length, set, position, slice_get, slice_index_or, nat_lt, ◌==◌, if◌then◌else◌}
use Rattle.shared_core.specs.Prelude.{MAX_ENTRIES, MAX_STRIPS, Event, Command as Asked, Advance as Stepped, kind_that_runs, Entry, History, state_of, ServiceState, live_of, takeable_in}

-- the marks of a tenancy: whether its lease was given, and the places in the journal of the entries
-- that the lease made
pub record Marked : Type 0 where
  pub given : Bool
  pub places : List ℕ

-- whose each slot number is (0 for nobody), and whether it is marked as one that is in the queue
pub record SlotTable : Type 0 where
  pub holders : List ℕ
  pub queued : List Bool

-- the tenancies, the marks of the ids from 1 on, the slot numbers, how many shares were given, and
-- how many recorded puts belong to no share
pub record CoreState : Type 0 where
  pub service : ServiceState
  pub marks : List Marked
  pub slots : SlotTable
  pub shares : ℕ
  pub own_puts : ℕ

-- a lease: its tenancy, and how many entries it made
pub record LeaseState : Type 0 where
  pub id : ℕ
  pub made : ℕ

-- a share: how many of its worker's puts were recorded
pub record ShareState : Type 0 where
  pub puts : ℕ

-- the marks of a tenancy whose lease wasn't given
abbrev pub no_marks : Marked
no_marks = record { given = false; places = [] }

-- the marks after the lease is given
abbrev pub with_lease : Marked → Marked
with_lease m = record m { given = true }

-- the marks with one more place
abbrev pub with_place : ℕ → Marked → Marked
with_place place m = record m { places = m.places ++ place ∷ [] }

-- the marks of that id, the first being 1
abbrev pub marked_of : List Marked → ℕ → Option Marked
marked_of [] id = None
marked_of (m ∷ ms) id = if id == 1 then Some m else marked_of ms (id - 1)

-- the marks after a change of those of this id
abbrev pub with_changed_marks : List Marked → ℕ → (Marked → Marked) → List Marked
with_changed_marks [] id change = []
with_changed_marks (m ∷ ms) id change = if id == 1 then change m ∷ ms else m ∷ with_changed_marks ms (id - 1) change

abbrev pub given_in : Option Marked → Bool
given_in None = false
given_in (Some m) = m.given

abbrev pub places_in : Option Marked → List ℕ
places_in None = []
places_in (Some m) = m.places

-- the lease of that id was given
abbrev pub is_leased : List Marked → ℕ → Bool
is_leased marks id = given_in (marked_of marks id)

-- the places of the marked entries of that id's journal
abbrev pub places_of : List Marked → ℕ → List ℕ
places_of marks id = places_in (marked_of marks id)

abbrev pub has_place : List ℕ → ℕ → Bool
has_place [] place = false
has_place (p ∷ ps) place = p == place || has_place ps place

-- the entry at that place of that id's journal is marked: its lease made it
abbrev pub is_marked : List Marked → ℕ → ℕ → Bool
is_marked marks id place = has_place (places_of marks id) place

-- the event is a step that was put
abbrev pub is_put : Event → Bool
is_put (Asked command) = false
is_put (Stepped made) = true

-- the number of put entries of a journal
abbrev pub puts_among : List Entry → ℕ
puts_among [] = 0
puts_among (e ∷ es) = (if is_put e.event then 1 else 0) + puts_among es

-- the number of put entries of all journals
abbrev pub puts_in : List History → ℕ
puts_in [] = 0
puts_in (h ∷ hs) = puts_among h.entries + puts_in hs

-- that tenancy is live
abbrev pub is_live : List History → ℕ → Bool
is_live histories id = is_some (live_of histories id)

-- a live tenancy whose journal has room
abbrev pub has_room_in : Option History → Bool
has_room_in None = false
has_room_in (Some h) = nat_lt (length h.entries) MAX_ENTRIES

-- no step of the tenancy will follow: it isn't live, no job of it runs, or its journal is full
abbrev pub is_idle_in : Option History → Bool
is_idle_in None = true
is_idle_in (Some h) = not (is_some (kind_that_runs (state_of h).name) && nat_lt (length h.entries) MAX_ENTRIES)

-- the tenancy is live, and its lease wasn't given
abbrev pub can_lease : CoreState → ℕ → Bool
can_lease core id = is_live core.service.histories id && not (is_leased core.marks id)

-- the slot number of that tenancy; for 0, the first number that is nobody's
abbrev pub number_of : List ℕ → ℕ → Option ℕ
number_of holders id = position (λ holder. holder == id) holders

-- the numbers after this one is handed over
abbrev pub numbers_after : List ℕ → Option ℕ → ℕ → List ℕ
numbers_after holders None to = holders
numbers_after holders (Some number) to = set holders number to

-- the numbers after the first tenancy's number became the second's
abbrev pub with_holder : SlotTable → ℕ → ℕ → SlotTable
with_holder slots from to = record slots { holders = numbers_after slots.holders (number_of slots.holders from) to }

abbrev pub if_somebody : Option ℕ → Option ℕ
if_somebody None = None
if_somebody (Some holder) = if holder == 0 then None else Some holder

-- whose number that is
abbrev pub holder_of : List ℕ → ℕ → Option ℕ
holder_of holders number = if_somebody (slice_get holders number)

-- that number, if it isn't marked
abbrev pub unmarked_number : SlotTable → Option ℕ → Option ℕ
unmarked_number slots None = None
unmarked_number slots (Some number) = if slice_index_or slots.queued number false then None else Some number

-- the numbers with this one marked, or not
abbrev pub with_mark : SlotTable → Option ℕ → Bool → SlotTable
with_mark slots None mark = slots
with_mark slots (Some number) mark = record slots { queued = set slots.queued number mark }

-- the slot number of a tenancy that has a step to take, if the number isn't marked
abbrev pub ready_number : CoreState → ℕ → Option ℕ
ready_number core id = if takeable_in (live_of core.service.histories id) then unmarked_number core.slots (number_of core.slots.holders id) else None

-- exactly those tenancies have slot numbers, each one of 64, and no two tenancies have the same
pub record AreSlotted (live : ℕ → Bool) (holders : List ℕ) : Type 0 where
  pub count : length holders ≡ MAX_STRIPS
  pub each : (id : ℕ) → live id ≡ true → is_some (number_of holders id) ≡ true
  pub only : (number id : ℕ) → holder_of holders number ≡ Some id → live id ≡ true
  pub once : (number other id : ℕ) → holder_of holders number ≡ Some id → holder_of holders other ≡ Some id → number ≡ other
