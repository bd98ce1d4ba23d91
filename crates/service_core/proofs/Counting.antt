-- A step that is put counts exactly if it is the next one of the running job.
use Rattle.service_core.proofs.Prelude.{◌≡◌, ℕ, ◌+◌, Bool, true, false, not, List, Option, Some, Ok, arith, option_map, Sources, JobStep, Advance, Event, Reply, Step, StepReply, IsAdvanceOf, running_sources, State, advance, answer_to, is_next, kind_that_runs, step, Device, Recorded, ServiceState, empty_service, IsNextStep, IsPut, Call, Run, Counts}
use Rattle.std.specs.Prelude.{◌&&◌}
use Rattle.service_core.proofs.Effects.{run_keeps}

-- an event that has a reply gets the reply of `answer_to`
told_answer : (state : State) (event : Event) (reply : Reply) → (step state event).1 ≡ Some reply → (answer_to state event).1 ≡ reply
told_answer state event reply told = search arith

both_true : (a b : Bool) → (a && b) ≡ true → (a ≡ true) × (b ≡ true)
both_true a b is = grind arith

not_true : (a : Bool) → not a ≡ true → a ≡ false
not_true a is = grind arith

-- the properties of a step that is the next one
record IsNextOf (state : State) (made : Advance) : Type 0 where
  generation : made.generation ≡ state.generation
  number : made.number ≡ state.steps + 1
  own : made.foreign ≡ false

next_of : (state : State) (made : Advance) → is_next state made ≡ true → IsNextOf state made
next_of state made is = grind arith

-- the next step of the job of a slot in that state
abbrev next_in : ℕ → State → Option Sources → Option JobStep
next_in id state sources = option_map (λ s. record { id = id; generation = state.generation; number = state.steps + 1; sources = s }) sources

record SameStep (state : State) (sources : Option Sources) (done : JobStep) : Type 0 where
  made_from : sources ≡ Some done.sources
  generation : state.generation ≡ done.generation
  number : state.steps + 1 ≡ done.number

same_step : (id : ℕ) (state : State) (sources : Option Sources) (done : JobStep) → next_in id state sources ≡ Some done → SameStep state sources done
same_step id state sources done is = grind arith

-- the reply in the result of an event
abbrev reply_in : Option State × Reply → Reply
reply_in answer = answer.1

counts : (id : ℕ) (state : State) (done : JobStep) (made : Advance) (reply : StepReply) → IsAdvanceOf state done made → id ≡ done.id → (advance state made (kind_that_runs state.name)).1 ≡ Step reply → Counts reply (next_in id state (running_sources state) ≡ Some done)
counts id state done made reply said its_id told = search arith

-- a step of a live tenancy
pub are_believed : (device : Device) (calls : List Call) (old new : ServiceState) (done : JobStep) (foreign : Bool) (reply : StepReply) → Run (empty_service device) calls old → IsPut old done foreign (Ok (Recorded reply)) new → Counts reply (IsNextStep old done)
are_believed device calls old new done foreign reply run put = search (run_keeps, arith)
