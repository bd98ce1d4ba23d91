-- Steps that are out with workers.
use Rattle.std.specs.Prelude.{ℕ, ◌≡◌, List, length, map, Bool, false, ◌&&◌, nat_lt, Option, Some, None, is_some, ⊤}
use Rattle.live_machine.specs.Prelude.{MAX_ENTRIES, kind_that_runs, Step, NoMemory, outcome_text, History, state_of, with_here, ServiceState, journal_of, live_of, output_of, Asked, LiveState, operator_told, Says}
use Rattle.live_machine.specs.Machine.{is_busy, must_wait}

-- the service with each step here, and not made: what workers have is no part of it
abbrev pub all_here : ServiceState → ServiceState
all_here service = record service { histories = map (with_here (Some false)) service.histories }

abbrev pub without_workers : LiveState → LiveState
without_workers live = record live { stage = record live.stage { service = all_here live.stage.service } }

-- no worker has the next step of that name's job
abbrev pub IsHome : LiveState → List ℕ → Type 0
IsHome live name = is_busy (without_workers live) name ≡ is_busy live name

-- private: a job of that tenancy runs, wherever its next step is, and its journal has room
abbrev pub runs_in : Option History → Bool
runs_in None = false
runs_in (Some h) = is_some (kind_that_runs (state_of h).name) && nat_lt (length h.entries) MAX_ENTRIES

-- both services have the same device, the same plan and the same journals, and the same tenancies
-- are live
pub record IsLeftAlone (service other : ServiceState) : Type 0 where
  pub device : other.device ≡ service.device
  pub plan : other.plan ≡ service.plan
  pub count : length other.histories ≡ length service.histories
  pub journals : (id : ℕ) → journal_of other id ≡ journal_of service id
  pub live : (id : ℕ) → is_some (live_of other.histories id) ≡ is_some (live_of service.histories id)

-- if a name says the line, it is no `wait` that can't be answered yet
abbrev pub NeedNotWait : LiveState → Asked → List ℕ → Type 0
NeedNotWait live (Says name said) line = must_wait live name line ≡ false
NeedNotWait live asked line = ⊤

-- the reply that a step of that name's job ran out of memory
abbrev pub nomemory_reply : List ℕ → List ℕ
nomemory_reply name = output_of (operator_told (Step name 1) (outcome_text NoMemory))
