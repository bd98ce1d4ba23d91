-- private: the parts of the machine's code, and what they do.
use Rattle.std.specs.Prelude.{ℕ, ◌≡◌, List, [], ◌∷◌, ◌++◌, Bool, true, false, nat_lt, Option, Some, None, IsSomeAnd, ⊤}
use Rattle.std.specs.List.{AllByRecursion, flat_map, repeat}
use Rattle.live_machine.specs.Prelude.{Step, JobStep, MAX_ENTRIES, next_job, slot_of, state_of, live_of, no_memory_text, last_id, name_of, output_of, LiveState, for_name, Operates, ClosesTexts, is_ready, state_in}
use Rattle.live_machine.specs.declared.machine.Machine.{Machine}
use Rattle.live_machine.specs.declared.machine.steps.StepEnd.{StepEnd}
use Rattle.live_machine.specs.declared.machine.steps.StepEnd.TheVariants.{Again, Dropped, GivenUp, Made}
use Rattle.live_machine.specs.declared.server.LineServer.{LineServer}
use Rattle.live_machine.specs.Held.{Held, HeldItem, begins_with_wait, held_of}
use Rattle.live_machine.specs.Machine.{Call, Frees, FreesIf, Happens, HearsAfter, IsMade, MachineState, Run, ServesItem, ServesItems, Works, is_busy}
use Rattle.live_machine.specs.Machine.Call.{GiveUp, PutStep, ServeHeld}
use Rattle.live_machine.specs.Workers.{without_workers}

-- private: a machine's value, from what serves its lines and the names that are held
abbrev pub state_with : LineServer → List Held → MachineState
state_with server held = record { live = without_workers (state_in server.lines); next = server.next; held = held; log = server.log.items; told = server.told.items }

-- a machine's value
abbrev pub machine_of : Machine → MachineState
machine_of machine = state_with machine.server machine.held

-- it can take a call
abbrev pub IsReady : Machine → Type 0
IsReady machine = is_ready machine.server.lines

-- private: a step was made, or memory ran out for it
abbrev pub PutsIf : Bool → List ℕ → MachineState → MachineState → Type 0
PutsIf true name old new = (made : List ℕ) × IsMade (Operates (Step name 1)) made × Works old made new
PutsIf false name old new = new ≡ old

-- private: whether a name is held for a `wait`
abbrev pub has_wait : Option Held → Bool
has_wait None = false
has_wait (Some h) = begins_with_wait h.items

-- private: the items that are held of a name
abbrev pub items_in : Option Held → List HeldItem
items_in None = []
items_in (Some h) = h.items

-- private: that many items of a name are answered that memory ran out
abbrev pub TellsLostItems : ℕ → MachineState → List ℕ → MachineState → Type 0
TellsLostItems count old name new = new ≡ record old { told = old.told ++ repeat count (output_of (for_name name no_memory_text ∷ [])) }

-- private: these first items of a held name are served, and those are left
abbrev pub ServesSome : List HeldItem → List HeldItem → Held → MachineState → MachineState → Type 0
ServesSome [] left h old new = new ≡ old
ServesSome (item ∷ items) left h old new = (mid : MachineState) × ServesItem item (record h { items = items ++ left }) old mid × ServesSome items left h mid new

-- private: the first items of a held name are served, if it has any
abbrev pub ServesNext : Bool → Option Held → List ℕ → MachineState → MachineState → Type 0
ServesNext went None name old new = (went ≡ false) × (new ≡ old)
ServesNext true (Some h) name old new = (item : HeldItem) × (items : List HeldItem) × (left : List HeldItem) × (h.items ≡ item ∷ (items ++ left)) × ServesSome (item ∷ items) left h old new × (held_of new.held name ≡ Some (record h { items = left }))
ServesNext false (Some h) name old new = (h.items ≡ []) × (new ≡ old)

-- private: the first item of a held name is served, if it has one
abbrev pub ServesOne : Bool → Option Held → List ℕ → MachineState → MachineState → Type 0
ServesOne went None name old new = (went ≡ false) × (new ≡ old)
ServesOne true (Some h) name old new = (item : HeldItem) × (items : List HeldItem) × (h.items ≡ item ∷ items) × ServesItem item (record h { items = items }) old new × (held_of new.held name ≡ Some (record h { items = items }))
ServesOne false (Some h) name old new = (h.items ≡ []) × (new ≡ old)

-- private: all items of a name are served, if it is held
abbrev pub AreServed : Option Held → List ℕ → MachineState → MachineState → Type 0
AreServed None name old new = ⊤
AreServed (Some h) name old new = ServesItems h.items h old new × (held_of new.held name ≡ Some (record h { items = [] }))

-- private: a name without items is freed, if it is held
abbrev pub FreesHeld : Option Held → MachineState → MachineState → Type 0
FreesHeld None old new = ⊤
FreesHeld (Some h) old new = Frees h.text h.name old new

-- private: a name is freed, if it is held and has no items
abbrev pub FreesDone : Option Held → MachineState → MachineState → Type 0
FreesDone None old new = ⊤
FreesDone (Some h) old new = FreesIf h.items h old new

-- private: a line that calls off what a name waits for, or one that waits, if the name is held
abbrev pub HearsHolding : Bool → Option Held → List ℕ → List ℕ → MachineState → MachineState → Type 0
HearsHolding off None name line old new = ⊤
HearsHolding off (Some h) name line old new = HearsAfter off h name line old new

-- private: a name that is held has its turn, or nothing changes
abbrev pub HasTurn : Bool → List ℕ → MachineState → MachineState → Type 0
HasTurn true name old new = Happens old (ServeHeld name) new
HasTurn false name old new = new ≡ old

-- private: a `wait` of a name is given up, or nothing changes
abbrev pub IsGivenUp : Bool → List ℕ → MachineState → MachineState → Type 0
IsGivenUp true name old new = Happens old (GiveUp name) new
IsGivenUp false name old new = new ≡ old

-- private: a step is put so: with memory or without it, or it isn't the next one
abbrev pub EndsStep : Option Bool → List ℕ → MachineState → MachineState → Type 0
EndsStep (Some true) name old new = Happens old (PutStep name) new
EndsStep (Some false) name old new = new ≡ old
EndsStep None name old new = new ≡ old

-- private: each of some calls is a turn of that name
abbrev pub IsTurnOf : List ℕ → Call → Type 0
IsTurnOf name call = call ≡ ServeHeld name

-- turns of a name that is held, one after another
pub record HasTurns (name : List ℕ) (old new : MachineState) : Type 0 where
  pub calls : List Call
  pub turns : AllByRecursion (IsTurnOf name) calls
  pub run : Run old calls new

-- a step of that name's tenancy is put, and ends so: it is made, and then the name has turns; it is
-- dropped, and the name has turns; memory ran out for it; or memory ran out too often, and a `wait`
-- of the name is given up
abbrev pub EndsPut : StepEnd → List ℕ → MachineState → MachineState → Type 0
EndsPut Made name old new = (mid : MachineState) × Happens old (PutStep name) mid × HasTurns name mid new
EndsPut Dropped name old new = HasTurns name old new
EndsPut (Again tries) name old new = new ≡ old
EndsPut GivenUp name old new = (went : Bool) × (mid : MachineState) × IsGivenUp went name old mid × HasTurns name mid new

-- a step is put, of the tenancy with that name, or of one that has none
abbrev pub PutsStep : StepEnd → Option (List ℕ) → MachineState → MachineState → Type 0
PutsStep end (Some name) old new = EndsPut end name old new
PutsStep end None old new = (end ≡ Dropped) × (new ≡ old)

-- a name that is held has its turn, or none has
abbrev pub TakesTurn : Bool → MachineState → MachineState → Type 0
TakesTurn true old new = (name : List ℕ) × HasTurns name old new
TakesTurn false old new = new ≡ old

-- the step counts: it is the next one of the running job of the name's tenancy, it was out, and the
-- tenancy's journal has room
pub record Counts (live : LiveState) (done : JobStep) (name : List ℕ) : Type 0 where
  pub named : name_of live.stage.names done.id ≡ Some name
  pub last : last_id live.stage.names name ≡ done.id
  pub next : IsSomeAnd (live_of live.stage.service.histories done.id) (λ h. (next_job (slot_of h) ≡ Some done) × (nat_lt (state_of h).entries MAX_ENTRIES ≡ true))
  pub out : is_busy live name ≡ false

-- what held names are told for an item that was lost, each in its turn
abbrev pub lost_texts : List Held → List ℕ
lost_texts held = flat_map (λ h. output_of (for_name h.name no_memory_text ∷ [])) held

-- the machine ends: names that are held still are told that memory ran out, and each text that is
-- open is refused
pub record EndsMachine (live : LiveState) (held : List Held) (reply : List ℕ) : Type 0 where
  pub closes : List ℕ
  pub closed : ClosesTexts live closes
  pub reply_is : reply ≡ lost_texts held ++ closes
