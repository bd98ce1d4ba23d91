-- The replies of a tenancy don't depend on the number of its entries, unless its journal is full.
use Rattle.workers_law.proofs.Prelude.{◌≡◌, ℕ, ◌+◌, Bool, false, Option, Some, None, refl, sym, ap, ◌∙◌, subst, arith, option_map, unwrap_or, if◌then◌else◌, option_map_or, JobKind, Command, Status, Advance, Reply, Step, Advanced, Finished, Stale, State, advance, after_reply, answer_to, state_at_end, kind_that_runs, serve, step, IsAtRest, after_command, begins_job, after_last_step}
use Rattle.tenant_slot.specs.declared.event.Event.TheVariants.{Command as Asked, Advance as Stepped}

-- a state with that number of entries, and an answer in it
abbrev pub counting : State → ℕ → State
counting t n = record t { entries = n }

abbrev Answer : Type 0
Answer = Option State × Reply

abbrev lifted : ℕ → Answer → Answer
lifted n a = (option_map (λ u. counting u n) a.0, a.1)

asked-counts : (t : State) (n : ℕ) (command : Command) → answer_to (counting t n) (Asked command) ≡ lifted n (answer_to t (Asked command))
asked-counts t n command = grind arith

finished-counts : (t : State) (n : ℕ) (kind : JobKind) → state_at_end (counting t n) kind ≡ counting (state_at_end t kind) n
finished-counts t n kind = grind arith

-- the state after the last step
abbrev ended_by : State → Option JobKind → State
ended_by t o = option_map_or (state_at_end t) o t

ended_by-counts : (t : State) (n : ℕ) (o : Option JobKind) → ended_by (counting t n) o ≡ counting (ended_by t o) n
ended_by-counts t n None = refl
ended_by-counts t n (Some kind) = finished-counts t n kind

pub ended-counts : (t : State) (n : ℕ) → after_last_step (counting t n) ≡ counting (after_last_step t) n
ended-counts t n = ended_by-counts t n (kind_that_runs t.name)

pub ended-rests : (t : State) → kind_that_runs t.name ≡ None → after_last_step t ≡ t
ended-rests t rests = ap (ended_by t) rests

-- two states are alike but for their entries
abbrev pub AreAlike : State → State → Type 0
AreAlike s t = s ≡ counting t s.entries

pub alike-by : (s t : State) (n : ℕ) → s ≡ counting t n → AreAlike s t
alike-by s t n is = is ∙ ap (counting t) (sym (ap (λ (x : State). x.entries) is))

pub alike-name : (s t : State) → AreAlike s t → s.name ≡ t.name
alike-name s t is = ap (λ (x : State). x.name) is

pub alike-ended : (s t : State) → AreAlike s t → AreAlike (after_last_step s) (after_last_step t)
alike-ended s t is = alike-by (after_last_step s) (after_last_step t) s.entries (ap after_last_step is ∙ ended-counts t s.entries)

-- a command
changed-counts : (s t : State) (n : ℕ) (o : Option State) → s ≡ counting t n → (after_reply s (option_map (λ u. counting u n) o)) ≡ counting (unwrap_or o t) (s.entries + 1)
changed-counts s t n o is = grind arith

-- the reply to a command, and the state after it
pub asked_alike : (s t : State) (command : Command) (reply : Reply) → AreAlike s t → (step s (Asked command)).1 ≡ Some reply →
    (reply ≡ (answer_to t (Asked command)).1) × AreAlike (step s (Asked command)).0 (after_command t command)
asked_alike s t command reply is told = grind (arith, asked-counts, changed-counts)

-- a step that was made
abbrev StepAnswer : State → JobKind → Bool → Bool → Answer
StepAnswer s kind next last = if next then (if last then (Some (state_at_end s kind), Step Finished) else (Some (record s { steps = s.steps + 1 }), Step Advanced)) else (None, Step Stale)

kind-stepped : (s : State) (kind : JobKind) (next last : Bool) → kind_that_runs s.name ≡ Some kind → AreAlike (after_last_step (after_reply s (StepAnswer s kind next last).0)) (after_last_step s)
kind-stepped s kind next last is = grind arith

advance-alike : (s : State) (made : Advance) (o : Option JobKind) → kind_that_runs s.name ≡ o → AreAlike (after_last_step (after_reply s (advance s made o).0)) (after_last_step s)
advance-alike s made o is = grind (arith, kind-stepped)

abbrev StepIf : State → Advance → Bool → State × Option Reply
StepIf s made full = if full then (s, None) else (after_reply s (answer_to s (Stepped made)).0, Some (answer_to s (Stepped made)).1)

pub stepped_alike : (s : State) (made : Advance) → AreAlike (after_last_step (step s (Stepped made)).0) (after_last_step s)
stepped_alike s made = grind (arith, advance-alike)

abbrev Rests : State → Option State → Type 0
Rests t o = kind_that_runs (unwrap_or o t).name ≡ None

pub command_rests : (t : State) (command : Command) → kind_that_runs t.name ≡ None → begins_job command ≡ false → kind_that_runs (after_command t command).name ≡ None
command_rests t command rests none = grind arith

status_reply : (s : State) (reply : Reply) → (step s (Asked Status)).1 ≡ Some reply → reply ≡ (serve s Status).1
status_reply s reply told = grind arith

pub status_rests : (s : State) (reply : Reply) → (step s (Asked Status)).1 ≡ Some reply → IsAtRest reply → kind_that_runs s.name ≡ None
status_rests s reply told rests = subst IsAtRest (status_reply s reply told) rests

pub rests_status : (s : State) (reply : Reply) → (step s (Asked Status)).1 ≡ Some reply → kind_that_runs s.name ≡ None → IsAtRest reply
rests_status s reply told rests = subst IsAtRest (sym (status_reply s reply told)) rests
