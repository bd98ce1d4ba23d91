-- The machine: a live service whose jobs are stepped by workers. Each call of it is one event.
use Rattle.std.specs.Prelude.{ℕ, ◌≡◌, ◌⊎◌, ◌+◌, List, [], ◌∷◌, ◌++◌, codes, Bool, true, false, ◌&&◌, Option, Some, None, ⊤}
use Rattle.live_machine.specs.Prelude.{is_one_line, kept_of, Evict, Step, Take, Put, TextSoFar, no_memory_text, last_id, takeable_in, live_of, output_of, tag_of, with_feed, Asked, LiveState, asked_of, for_name, NoForm, Operates, Says, AnswersLine}
use Rattle.live_machine.specs.Held.{Held, HeldItem, HearsHeld, calls_off, form_of, held_of, is_wait, is_wait_item, with_held, without_name}
use Rattle.live_machine.specs.declared.held.OpenText.{OpenText}
use Rattle.live_machine.specs.declared.held.OpenText.TheVariants.{NoText, Begun, Lost}

-- the live service, in which a job that is out with a worker counts as here, and its step as not
-- made; the number of the next line; the names that are held; and the bytes that are to be kept
-- next, and those that are to be told
pub record MachineState : Type 0 where
  pub live : LiveState
  pub next : ℕ
  pub held : List Held
  pub log : List ℕ
  pub told : List ℕ

-- the line makes steps by hand. Workers make them, so it has no form
abbrev pub is_by_hand : Asked → Bool
is_by_hand (Operates (Step name count)) = true
is_by_hand (Operates (Take name)) = true
is_by_hand (Operates (Put number)) = true
is_by_hand asked = false

-- a line as it is read: without LF, and cut to the bytes that are kept of it
pub record IsLine (line : List ℕ) : Type 0 where
  pub kept : kept_of line ≡ line
  pub one : is_one_line line ≡ true

-- a line that the machine makes itself asks that
abbrev pub IsMade : Asked → List ℕ → Type 0
IsMade asked line = asked_of line ≡ asked

-- a line with which a name says `status`, with the tag of a line that it said
abbrev pub IsStatusFor : List ℕ → List ℕ → List ℕ → Type 0
IsStatusFor name heard line = IsMade (Says name (codes "status")) line × (tag_of line ≡ tag_of heard)

-- the next step of that name's job can be taken
abbrev pub is_busy : LiveState → List ℕ → Bool
is_busy live name = takeable_in (live_of live.stage.service.histories (last_id live.stage.names name))

abbrev pub is_outside : Option TextSoFar → Bool
is_outside None = true
is_outside (Some text) = false

-- the line of that name is a `wait` that can't be answered yet
abbrev pub must_wait : LiveState → List ℕ → List ℕ → Bool
must_wait live name line = is_outside (live.texts name) && (is_wait (form_of line) && is_busy live name)

-- the item of that name is a `wait` that can't be answered yet
abbrev pub holds : LiveState → List ℕ → List (List ℕ) → Bool
holds live name lines = is_wait_item lines && is_busy live name

-- the line is answered and kept, and the reply is told
pub record Serves (old : MachineState) (line : List ℕ) (new : MachineState) : Type 0 where
  pub is_line : IsLine line
  pub reply : List ℕ
  pub answers : AnswersLine old.live old.next line reply new.live
  pub rest : new ≡ record old { live = new.live; next = old.next + 1; log = old.log ++ with_feed line; told = old.told ++ reply }

-- a worker's line is answered and kept, and nobody is told
pub record Works (old : MachineState) (line : List ℕ) (new : MachineState) : Type 0 where
  pub is_line : IsLine line
  pub reply : List ℕ
  pub answers : AnswersLine old.live old.next line reply new.live
  pub rest : new ≡ record old { live = new.live; next = old.next + 1; log = old.log ++ with_feed line }

-- the name is told that memory ran out for an item
abbrev pub TellsLost : MachineState → List ℕ → MachineState → Type 0
TellsLost old name new = new ≡ record old { told = old.told ++ output_of (for_name name no_memory_text ∷ []) }

-- a line of nobody's session is served; with a line without a form in its place if it makes steps
-- by hand
abbrev pub ServesNobodys : Bool → List ℕ → MachineState → MachineState → Type 0
ServesNobodys false line old new = Serves old line new
ServesNobodys true line old new = (made : List ℕ) × IsMade NoForm made × Serves old made new

-- a line of a name is served; or, in the place of a `wait` that can't be answered yet, a line that
-- says `status`
abbrev pub ServesSaid : Bool → List ℕ → List ℕ → MachineState → MachineState → Type 0
ServesSaid false name line old new = Serves old line new
ServesSaid true name line old new = (made : List ℕ) × IsStatusFor name line made × Serves old made new

-- lines of a name are served, one after another
abbrev pub ServesAll : List ℕ → List (List ℕ) → MachineState → MachineState → Type 0
ServesAll name [] old new = new ≡ old
ServesAll name (line ∷ lines) old new = (mid : MachineState) × ServesSaid (must_wait old.live name line) name line old mid × ServesAll name lines mid new

-- an item of a held name is served, after which that is held of it
abbrev pub ServesItem : HeldItem → Held → MachineState → MachineState → Type 0
ServesItem None after old new = TellsLost (record old { held = with_held old.held after }) after.name new
ServesItem (Some lines) after old new = ServesAll after.name lines (record old { held = with_held old.held after }) new

-- these items are served, the last of what is held
abbrev pub ServesItems : List HeldItem → Held → MachineState → MachineState → Type 0
ServesItems [] h old new = new ≡ old
ServesItems (item ∷ items) h old new = (mid : MachineState) × ServesItem item (record h { items = items }) old mid × ServesItems items (record h { items = items }) mid new

-- a name without items is held no longer, and the lines of its text are served; but if that text
-- was lost, the name stays up to its end
abbrev pub Frees : OpenText → List ℕ → MachineState → MachineState → Type 0
Frees NoText name old new = new ≡ record old { held = without_name old.held name }
Frees (Begun lines) name old new = ServesAll name lines (record old { held = without_name old.held name }) new
Frees Lost name old new = new ≡ old

-- all that a held name has said is served
abbrev pub EndsHold : Option Held → MachineState → MachineState → Type 0
EndsHold None old new = new ≡ old
EndsHold (Some h) old new = (mid : MachineState) × ServesItems h.items h old mid × Frees h.text h.name mid new

-- a name of which these items are left is freed, if there are none
abbrev pub FreesIf : List HeldItem → Held → MachineState → MachineState → Type 0
FreesIf [] h old new = Frees h.text h.name old new
FreesIf (item ∷ items) h old new = new ≡ old

-- what a name says that had these items waits after them; without any it is served
abbrev pub WaitsAfter : List HeldItem → Held → MachineState → MachineState → Type 0
WaitsAfter [] after old new = EndsHold (Some after) old new
WaitsAfter (item ∷ items) after old new = new ≡ old

-- the name is held, as its job runs; or memory runs out for that
abbrev pub Holds : List ℕ → List ℕ → MachineState → MachineState → Type 0
Holds name line old new =
    (new ≡ record old { held = old.held ++ record { name = name; id = last_id old.live.stage.names name; items = Some (line ∷ []) ∷ []; text = NoText } ∷ [] })
    ⊎ TellsLost old name new

-- a line of a name that isn't held is answered, unless it is a `wait` that holds the name
abbrev pub HearsFree : Bool → List ℕ → List ℕ → MachineState → MachineState → Type 0
HearsFree true name line old new = Holds name line old new
HearsFree false name line old new = Serves old line new

-- a line of a held name waits too, unless it calls off the `wait`
abbrev pub HearsAfter : Bool → Held → List ℕ → List ℕ → MachineState → MachineState → Type 0
HearsAfter true h name line old new = (mid : MachineState) × EndsHold (Some h) old mid × ServesSaid (must_wait mid.live name line) name line mid new
HearsAfter false h name line old new = (after : Held) × HearsHeld h line after × WaitsAfter h.items after (record old { held = with_held old.held after }) new

-- a line of a name
abbrev pub HearsName : Option Held → List ℕ → List ℕ → MachineState → MachineState → Type 0
HearsName (Some h) name line old new = HearsAfter (calls_off h.text line) h name line old new
HearsName None name line old new = HearsFree (must_wait old.live name line) name line old new

-- a line of the input. An eviction ends what the name waits for
abbrev pub HearsAsked : Asked → List ℕ → MachineState → MachineState → Type 0
HearsAsked (Says name said) line old new = HearsName (held_of old.held name) name line old new
HearsAsked (Operates (Evict name)) line old new = (mid : MachineState) × Serves old line mid × EndsHold (held_of mid.held name) mid new
HearsAsked asked line old new = ServesNobodys (is_by_hand asked) line old new

-- the item need not wait
abbrev pub IsFree : LiveState → List ℕ → HeldItem → Type 0
IsFree live name None = ⊤
IsFree live name (Some lines) = holds live name lines ≡ false

-- the first item of a held name is served, unless it must wait. If it was the last one, the name
-- is freed
abbrev pub ServesFirst : List HeldItem → Held → MachineState → MachineState → Type 0
ServesFirst [] h old new = ⊥
ServesFirst (item ∷ items) h old new = (mid : MachineState) × IsFree old.live h.name item × ServesItem item (record h { items = items }) old mid × FreesIf items (record h { items = items }) mid new

-- a `wait` is given up, as memory ran out for its job
abbrev pub GivesUp : List HeldItem → Held → MachineState → MachineState → Type 0
GivesUp (Some lines ∷ items) h old new = (mid : MachineState) × (is_wait_item lines ≡ true)
    × TellsLost (record old { held = with_held old.held (record h { items = items }) }) h.name mid × FreesIf items (record h { items = items }) mid new
GivesUp items h old new = ⊥

-- a call, with its results. That a worker takes a step, or puts one that is no longer the next
-- one, is no call: nothing changes
pub data Call : Type 0 where
  Line : List ℕ → Call  -- a line of the input came
  ServeHeld : List ℕ → Call  -- a name that is held had its turn
  GiveUp : List ℕ → Call  -- memory ran out for the job for which that name waits
  PutStep : List ℕ → Call  -- a worker put the next step of that name's job
  Drain : List ℕ → List ℕ → Call  -- what is to be kept, and what is to be told, was taken

abbrev pub Happens : MachineState → Call → MachineState → Type 0
Happens old (Line line) new = HearsAsked (asked_of line) line old new
Happens old (ServeHeld name) new = (h : Held) × (held_of old.held name ≡ Some h) × ServesFirst h.items h old new
Happens old (GiveUp name) new = (h : Held) × (held_of old.held name ≡ Some h) × GivesUp h.items h old new
Happens old (PutStep name) new = (made : List ℕ) × IsMade (Operates (Step name 1)) made × Works old made new
Happens old (Drain log told) new = (log ≡ old.log) × (told ≡ old.told) × (new ≡ record old { log = []; told = [] })

-- calls, one after another
abbrev pub Run : MachineState → List Call → MachineState → Type 0
Run old [] new = new ≡ old
Run old (call ∷ calls) new = (mid : MachineState) × Happens old call mid × Run mid calls new

-- a machine over that live service, whose next line has that number
abbrev pub begins_with : LiveState → ℕ → MachineState
begins_with live next = record { live = live; next = next; held = []; log = []; told = [] }
