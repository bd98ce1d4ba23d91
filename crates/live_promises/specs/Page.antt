-- What the clauses of `serve` are made of, beside the definitions that they name.
use Rattle.std.specs.Prelude.{ℕ, ◌≡◌, ◌≢◌, List, [], ◌++◌, take, Some, is_some, true}
use Rattle.live_promises.specs.Prelude.{Event, AreAnswered, AnswersLine, begins, LiveState, IsAccount, Held, held_of, Call, MachineState, Run, begins_with, replies_of, served_lines, IsCut, events_of, last_id, Device, live_of}
use Rattle.live_promises.specs.Moments.{IsBackedByTurns}

-- it holds of all lines that are answered one after another, from an empty device on, of the text
-- of all replies, and of the service after them
abbrev pub OfEachDay : (Device → List (List ℕ) → List ℕ → LiveState → Type 0) → Type 0
OfEachDay Holds = (device : Device) (lines : List (List ℕ)) (text : List ℕ) (last : LiveState) → AreAnswered AnswersLine (begins device) 1 lines text last → Holds device lines text last

-- it holds of all calls that can be made of a machine, wherever it begins, and of the machine after
-- them
abbrev pub OfAllCalls : (LiveState → ℕ → List Call → MachineState → Type 0) → Type 0
OfAllCalls Holds = (begun : LiveState) (first : ℕ) (calls : List Call) (now : MachineState) → Run (begins_with begun first) calls now → Holds begun first calls now

-- all lines that were served, those of workers too, are answered one after another as those of a
-- service without workers
pub record IsOneDay (begun : LiveState) (first : ℕ) (calls : List Call) (now : MachineState) : Type 0 where
  pub account : IsAccount begun first calls now
  pub answered : AreAnswered AnswersLine begun first (served_lines (account.taken ++ account.rest)) (replies_of (account.taken ++ account.rest)) now.live

-- while something that a name said waits, the name has the tenancy in which it was said, and that
-- is live
abbrev pub KeepsTenancies : LiveState → ℕ → List Call → MachineState → Type 0
KeepsTenancies begun first calls now = (name : List ℕ) (h : Held) → held_of now.held name ≡ Some h → h.items ≢ []
    → (h.id ≡ last_id now.live.stage.names name) × (is_some (live_of now.live.stage.service.histories h.id) ≡ true)

-- whenever it is ended, what was written is a beginning of the replies of turns that were kept
-- before
abbrev pub IsBackedAtEachMoment : LiveState → ℕ → List Call → MachineState → Type 0
IsBackedAtEachMoment begun first calls now = (events : List Event) (n : ℕ) → IsCut (events_of calls) events → IsBackedByTurns begun first (take n events)
