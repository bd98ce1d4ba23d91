-- The replies to the operator's lines.
use Rattle.std.specs.Prelude.{ℕ, ◌≡◌, ◌≢◌, ◌⊎◌, ◌≤◌, ◌+◌, All, option_map, List, [], ◌∷◌, length, codes, Result, Option, Some, None}
use Rattle.std.specs.List.{flat_map}
use Rattle.operator.specs.Prelude.{Basis, JobState, OpRefusal, History, Call, Happens, Run, Take as TakeCall, ServiceState, live_of, OperatorLine, Admit, Evict, Move, List as ListAll, Owners, Step, Put, StepOutcome, Unfit, own_graph, MakesStep, Owned, ListsOwnersOf}
use Rattle.service_core.specs.Run.Call.{Admit as AdmitCall, Evict as EvictCall, Move as MoveCall, Owners as OwnersCall}
use Rattle.script_text.specs.declared.operator_line.OperatorLine.TheVariants.{Take}
use Rattle.operator.specs.OwnersText.{owners_text}
use Rattle.operator.specs.HeldJobs.{HeldList, Holds, PutsHeld, job_at, with_job, without_job}
use Rattle.operator.specs.OperatorText.{admitted_text, evicted_text, last_id, list_text, moved_text, names_after, outcome_text, refused_text, taken_text}

-- the core's state, the names of all ids, newest first, the jobs that the operator took, and the
-- basis of the graph on which steps are made
pub record Stage : Type 0 where
  pub names : List (List ℕ)
  pub jobs : HeldList
  pub service : ServiceState
  pub graph : Basis

-- the graph is the device's own
abbrev pub HasOwnGraph : Stage → Type 0
HasOwnGraph stage = stage.graph ≡ own_graph stage.service.device

-- an admission under a name that is in use is refused without a call of the core
abbrev pub IsAdmission : Option History → Stage → List ℕ → ℕ → List Call → List ℕ → Stage → Type 0
IsAdmission (Some h) old name width calls text new = (calls ≡ []) × (text ≡ refused_text 7 (codes "NameInUse")) × (new ≡ old)
IsAdmission None old name width calls text new = (answer : Result (ℕ × ℕ) OpRefusal)
    × Happens old.service (AdmitCall width answer) new.service × (new.names ≡ names_after old.names name answer) × (new.jobs ≡ old.jobs)
    × (calls ≡ AdmitCall width answer ∷ []) × (text ≡ admitted_text answer) × (new.graph ≡ old.graph)

-- a line of the operator with the calls of the core that it makes, and its reply. Each step that
-- was tried has a line in the reply, by the result of its calls. The device's own graph fits each
-- job
abbrev pub IsServed : Stage → OperatorLine (List ℕ) → List Call → List ℕ → Stage → Type 0
IsServed old (Admit name width) calls text new = IsAdmission (live_of old.service.histories (last_id old.names name)) old name width calls text new
IsServed old (Evict name) calls text new = (answer : Result (Unit {0}) OpRefusal)
    × Happens old.service (EvictCall (last_id old.names name) answer) new.service × (new.names ≡ old.names) × (new.jobs ≡ old.jobs)
    × (calls ≡ EvictCall (last_id old.names name) answer ∷ []) × (text ≡ evicted_text answer) × (new.graph ≡ old.graph)
IsServed old (Move name offset) calls text new = (answer : Result (Unit {0}) OpRefusal)
    × Happens old.service (MoveCall (last_id old.names name) offset answer) new.service × (new.names ≡ old.names) × (new.jobs ≡ old.jobs)
    × (calls ≡ MoveCall (last_id old.names name) offset answer ∷ []) × (text ≡ moved_text offset answer) × (new.graph ≡ old.graph)
IsServed old (Step name count) calls text new = (tried : List (List Call × StepOutcome))
    × (length tried ≡ count) × All (λ t. MakesStep (last_id old.names name) t.0 t.1) tried × Run old.service calls new.service
    × (new.names ≡ old.names) × (new.jobs ≡ old.jobs) × (calls ≡ flat_map (λ t. t.0) tried) × (text ≡ flat_map (λ t. outcome_text t.1) tried)
    × (new.graph ≡ old.graph) × (HasOwnGraph old → All (λ t. t.1 ≢ Unfit) tried)
IsServed old (Take name) calls text new = (job : Option JobState)
    × Holds (last_id old.names name) job calls × Run old.service calls new.service
    × (new.names ≡ old.names) × (new.jobs ≡ with_job old.jobs job) × (text ≡ taken_text (option_map (λ j. length old.jobs + 1) job))
    × (new.graph ≡ old.graph) × (HasOwnGraph old → job ≡ None → calls ≡ TakeCall (last_id old.names name) None ∷ [])
IsServed old (Put number) calls text new = (outcome : StepOutcome)
    × PutsHeld (job_at old.jobs number) calls outcome × Run old.service calls new.service
    × (new.names ≡ old.names) × (new.jobs ≡ without_job old.jobs number) × (text ≡ outcome_text outcome)
    × (new.graph ≡ old.graph) × (outcome ≢ Unfit)
IsServed old ListAll calls text new = (calls ≡ []) × (text ≡ list_text old.service old.names) × (new ≡ old)
IsServed old Owners calls text new = (owners : List Owned)
    × ListsOwnersOf old.service owners × (calls ≡ OwnersCall owners ∷ []) × (text ≡ owners_text old.service.device.rows owners) × (new ≡ old)

-- what is left if memory runs out: the line had no effect, or it took effect but its reply is
-- missing or cut short; of several steps, only some may have been made
abbrev pub Leaves : Stage → OperatorLine (List ℕ) → Stage → Type 0
Leaves old (Step name count) new = (made : ℕ) × (made ≤ count) × (calls : List Call) × (text : List ℕ) × IsServed old (Step name made) calls text new
Leaves old line new = (new ≡ old) ⊎ ((calls : List Call) × (text : List ℕ) × IsServed old line calls text new)

-- private: steps that were tried, each with its calls of the core and its outcome; all their calls,
-- and all their lines of the reply
abbrev pub Tried : Type 0
Tried = List (List Call × StepOutcome)

abbrev pub tried_calls : Tried → List Call
tried_calls tried = flat_map (λ t. t.0) tried

abbrev pub tried_text : Tried → List ℕ
tried_text tried = flat_map (λ t. outcome_text t.1) tried
