-- What a session's line asks of the core, and its answer.
use Rattle.std.specs.Prelude.{ℕ, ◌≡◌, ◌⊎◌, ⊤, List, [], ◌∷◌, ◌++◌, false, Result, Err}
use Rattle.sessions.specs.Prelude.{Basis, Command as TenantCommand, Status, NotServed, NoMemory, takeable_in, Receipted, Call, Run, GiveBack, Tenant, ServiceState, live_of}
use Rattle.sessions.specs.declared.line.SessionLine.{SessionLine}
use Rattle.sessions.specs.declared.line.SessionLine.TheVariants.{Blank, Command, Wait, Refused}
use Rattle.sessions.specs.declared.steps.StepOutcome.{StepOutcome}
use Rattle.sessions.specs.declared.steps.StepOutcome.TheVariants.{NoMemory as StepNoMemory}
use Rattle.sessions.specs.Fitting.{own_graph}
use Rattle.sessions.specs.Steps.{Waits}
use Rattle.sessions.specs.declared.told.Answer.{Answer}
use Rattle.sessions.specs.declared.told.Answer.TheVariants.{Nothing, Served, Refused as RefusedAnswer}

-- the core is asked the command for the tenancy of that id, and answers so
abbrev pub AsksCommand : ℕ → TenantCommand → List Call → Answer → Type 0
AsksCommand id command calls answer = (served : Result Receipted NotServed) × (calls ≡ Tenant id command served ∷ []) × (answer ≡ Served served)

-- the answer to a wait after steps that ended so: if the last one ran out of memory so does the
-- wait, else it goes on as `status`
abbrev pub EndsWait : ℕ → StepOutcome → List Call → Answer → Type 0
EndsWait id StepNoMemory calls answer = (calls ≡ []) × (answer ≡ Served (Err NoMemory))
EndsWait id last calls answer = AsksCommand id Status calls answer

-- the line makes those calls of the core for the tenancy of that id, and has that answer
abbrev pub Asks : ℕ → SessionLine → List Call → Answer → Type 0
Asks id Blank calls answer = (calls ≡ []) × (answer ≡ Nothing)
Asks id (Refused refusal) calls answer = (calls ≡ []) × (answer ≡ RefusedAnswer refusal)
Asks id (Command command) calls answer = AsksCommand id command calls answer
Asks id Wait calls answer = (last : StepOutcome) × (steps : List Call) × (more : List Call) × Waits id steps last × EndsWait id last more answer × (calls ≡ steps ++ more)

-- no job is given back
abbrev pub GivesNoneBack : List Call → Type 0
GivesNoneBack [] = ⊤
GivesNoneBack (GiveBack job ∷ calls) = ⊥
GivesNoneBack (call ∷ calls) = GivesNoneBack calls

-- a wait leaves no step undone, unless memory ran out: it gives no job back, and after it the
-- tenancy of that id has no step to take
abbrev pub LeavesNone : ℕ → SessionLine → List Call → Answer → ServiceState → Type 0
LeavesNone id Wait calls answer new = (answer ≡ Served (Err NoMemory)) ⊎ (GivesNoneBack calls × (takeable_in (live_of new.histories id) ≡ false))
LeavesNone id line calls answer new = ⊤

-- the line makes calls that lead from one state of the core to the other; on the device's own graph
-- a wait leaves no step undone
abbrev pub IsAnswer : Basis → ServiceState → ℕ → SessionLine → Answer → ServiceState → Type 0
IsAnswer graph old id line answer new = (calls : List Call) × Asks id line calls answer × Run old calls new × (graph ≡ own_graph old.device → LeavesNone id line calls answer new)
