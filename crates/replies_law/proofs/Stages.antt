-- From one stage of a run to the next: a name's seat is changed by its own acts alone.
use Rattle.replies_law.proofs.Prelude.{◌≡◌, ℕ, ◌-◌, ◌≤◌, Bool, true, false, List, [], ◌∷◌, ◌++◌, length, Option, Some, None, Result, refl, sym, ap, ◌∙◌, subst, arith, ⊤, IfSome, bytes_eq, false≢true, bytes_eq-Decides, JobState, Device, OpRefusal, IsAdmitted, History, Call, Run, Admit as AdmitCall, Tenant, GiveBack, live_of, Kept, run_device, run_keeps, SessionLine, StepOutcome, Act, Operator, Session, OperatorLine, Evict, Move, Owners, Step, Take, Put, HeldList, Holds, PutsHeld, job_at, with_job, without_job, last_id, names_after, IsAdmission, IsServed, Stage, lengths-admitted, lengths-evicted, lengths-moved, AreSteady, lengths-run, IsAnswered, answered_runs, IsLeft, is_about, is_own}
use Rattle.service_core.specs.Run.Call.{Evict as EvictCall, Move as MoveCall, Take as TakeCall, Put as PutCall, Owners as OwnersCall}
use Rattle.script_text.specs.declared.operator_line.OperatorLine.TheVariants.{Admit, List as ListAll}
use Rattle.replies_law.proofs.Found.{HadMemory}
use Rattle.replies_law.proofs.Lines.{admission_sits, eviction_sits, line_sits}
use Rattle.replies_law.proofs.Others.{Apart, AreFor, Same, admission_local, eviction_local, for_holds, for_line, for_puts, for_tried, id_within, local_calls, move_local, names_apart, older_id}
use Rattle.replies_law.proofs.Seats.{given_to, Says, Serves, Sits, Uses, UsesBy, seat, seat_in}
use Rattle.replies_law.proofs.Steps.{tries_sit}

-- jobs that are held do not belong to the name's last tenancy
abbrev pub IsElsewhere : List (List ℕ) → List ℕ → JobState → Type 0
IsElsewhere names name job = (job.step.id ≤ length names) × Apart job.step.id (last_id names name)

abbrev pub AreElsewhere : List (List ℕ) → List ℕ → HeldList → Type 0
AreElsewhere names name [] = ⊤
AreElsewhere names name (job ∷ jobs) = IfSome job (IsElsewhere names name) × AreElsewhere names name jobs

elsewhere-at : (names : List (List ℕ)) (name : List ℕ) (jobs : HeldList) (number : ℕ) → AreElsewhere names name jobs → IfSome (job_at jobs number) (IsElsewhere names name)
elsewhere-at names name [] number are = tt
elsewhere-at names name (job ∷ jobs) number are = grind (arith, elsewhere-at names name jobs (number - 1) are.1)

elsewhere-without : (names : List (List ℕ)) (name : List ℕ) (jobs : HeldList) (number : ℕ) → AreElsewhere names name jobs → AreElsewhere names name (without_job jobs number)
elsewhere-without names name [] number are = tt
elsewhere-without names name (job ∷ jobs) number are = grind (arith, elsewhere-without names name jobs (number - 1) are.1)

elsewhere-push : (names : List (List ℕ)) (name : List ℕ) (jobs : HeldList) (job : JobState) → AreElsewhere names name jobs → IsElsewhere names name job → AreElsewhere names name (jobs ++ Some job ∷ [])
elsewhere-push names name [] job are is = (is, tt)
elsewhere-push names name (j ∷ jobs) job are is = (are.0, elsewhere-push names name jobs job are.1 is)

newer_elsewhere : (names : List (List ℕ)) (newest name : List ℕ) (job : JobState) → IsElsewhere names name job → IsElsewhere (newest ∷ names) name job
newer_elsewhere names newest name job is = grind arith

elsewhere-newer : (names : List (List ℕ)) (newest name : List ℕ) (jobs : HeldList) → AreElsewhere names name jobs → AreElsewhere (newest ∷ names) name jobs
elsewhere-newer names newest name [] are = tt
elsewhere-newer names newest name (None ∷ jobs) are = (tt, elsewhere-newer names newest name jobs are.1)
elsewhere-newer names newest name (Some job ∷ jobs) are = (newer_elsewhere names newest name job are.0, elsewhere-newer names newest name jobs are.1)

-- what holds of each stage of a run
pub record Sound (device : Device) (name : List ℕ) (stage : Stage) : Type 0 where
  pub kept : Kept stage.service
  pub on : stage.service.device ≡ device
  pub even : length stage.names ≡ length stage.service.histories
  pub elsewhere : AreElsewhere stage.names name stage.jobs

-- calls that are made for one tenancy admit no one
pub steady_for : (t : ℕ) (calls : List Call) → AreFor t calls → AreSteady calls
steady_for t [] are = tt
steady_for t (AdmitCall width answer ∷ calls) are = absurd are.0
steady_for t (EvictCall id answer ∷ calls) are = absurd are.0
steady_for t (MoveCall id offset answer ∷ calls) are = absurd are.0
steady_for t (Tenant id command served ∷ calls) are = (tt, steady_for t calls are.1)
steady_for t (TakeCall id job ∷ calls) are = (tt, steady_for t calls are.1)
steady_for t (PutCall done foreign answer ∷ calls) are = (tt, steady_for t calls are.1)
steady_for t (GiveBack job ∷ calls) are = (tt, steady_for t calls are.1)
steady_for t (OwnersCall list ∷ calls) are = absurd are.0

-- an act leads on: each id has its name, held jobs are elsewhere, and the seat stays if the act
-- isn't the name's
record Next (name : List ℕ) (stays : Bool) (old new : Stage) : Type 0 where
  even : length new.names ≡ length new.service.histories
  elsewhere : AreElsewhere new.names name new.jobs
  same : stays ≡ true → seat new.service.histories (last_id new.names name) ≡ seat old.service.histories (last_id old.names name)

-- nothing changed
next_same : (device : Device) (name : List ℕ) (stays : Bool) (old new : Stage) → Sound device name old → new ≡ old → Next name stays old new
next_same device name stays old new sound is = grind arith

same_seat : (name : List ℕ) (old new : Stage) → new.names ≡ old.names → Same (last_id old.names name) old.service new.service → seat new.service.histories (last_id new.names name) ≡ seat old.service.histories (last_id old.names name)
same_seat name old new names same = ap (λ ns. seat new.service.histories (last_id ns name)) names ∙ ap seat_in same

-- calls for one tenancy
next_for : (device : Device) (name : List ℕ) (stays : Bool) (old new : Stage) (t : ℕ) (calls : List Call) → Sound device name old → AreFor t calls → Run old.service calls new.service → new.names ≡ old.names → AreElsewhere old.names name new.jobs →
    (stays ≡ true → Apart t (last_id old.names name)) → Next name stays old new
next_for device name stays old new t calls sound are runs names elsewhere apart = grind (arith, lengths-run, steady_for, local_calls)

same_jobs : (names : List (List ℕ)) (name : List ℕ) (old new : HeldList) → new ≡ old → AreElsewhere names name old → AreElsewhere names name new
same_jobs names name old new is are = subst (AreElsewhere names name) (sym is) are

-- an admission
admitted_next : (device : Device) (name other : List ℕ) (stays : Bool) (old new : Stage) (width : ℕ) (answer : Result (ℕ × ℕ) OpRefusal) → Sound device name old → IsAdmitted old.service width answer new.service → new.names ≡ names_after old.names other answer → new.jobs ≡ old.jobs →
    (stays ≡ true → other ≡ name → ⊥) → Next name stays old new
admitted_next device name other stays old new width answer sound admits names jobs differ = grind (arith, lengths-admitted, admission_local, id_within, elsewhere-newer, older_id)

admission_next : (o : Option History) (device : Device) (name other : List ℕ) (stays : Bool) (old new : Stage) (width : ℕ) (calls : List Call) (text : List ℕ) → Sound device name old → IsAdmission o old other width calls text new →
    (stays ≡ true → other ≡ name → ⊥) → Next name stays old new
admission_next (Some h) device name other stays old new width calls text sound is differ = next_same device name stays old new sound is.2
admission_next None device name other stays old new width calls text sound is differ = admitted_next device name other stays old new width is.0 sound is.1 is.2 is.3 differ

-- a job that is taken
holds_next : (device : Device) (name other : List ℕ) (old new : Stage) (job : Option JobState) (calls : List Call) → Sound device name old → (other ≡ name → ⊥) → Holds (last_id old.names other) job calls → Run old.service calls new.service → new.jobs ≡ with_job old.jobs job → AreElsewhere old.names name new.jobs
holds_next device name other old new job calls sound differ holds runs jobs = grind (arith, id_within, elsewhere-push, names_apart)

held_next : (device : Device) (name : List ℕ) (stays : Bool) (old new : Stage) (job : Option JobState) (calls : List Call) (outcome : StepOutcome) → Sound device name old → IfSome job (IsElsewhere old.names name) → PutsHeld job calls outcome → Run old.service calls new.service → new.names ≡ old.names →
    AreElsewhere old.names name new.jobs → Next name stays old new
held_next device name stays old new None calls outcome sound is puts runs names elsewhere = grind (arith, next_for)
held_next device name stays old new (Some job) calls outcome sound is puts runs names elsewhere =
    next_for device name stays old new job.step.id calls sound (for_puts job.step.id job calls outcome refl puts) runs names elsewhere (λ _. is.1)

-- another name
not_same : (name other : List ℕ) → bytes_eq name other ≡ false → other ≡ name → ⊥
not_same name other e same = false≢true (sym e ∙ (bytes_eq-Decides name other).1 (sym same))

-- a line of the operator
operator_next : (device : Device) (name : List ℕ) (stays : Bool) (old new : Stage) (line : OperatorLine (List ℕ)) (calls : List Call) (text : List ℕ) → Sound device name old → IsServed old line calls text new → IsLeft name (Operator line) →
    (stays ≡ true → is_about name line ≡ false) → Next name stays old new
operator_next device name stays old new (Admit other width) calls text sound is left about =
    admission_next (live_of old.service.histories (last_id old.names other)) device name other stays old new width calls text sound is (λ e. not_same name other (about e))
operator_next device name stays old new (Evict other) calls text sound is left about = grind (arith, lengths-evicted, same_jobs, same_seat, eviction_local, names_apart, not_same)
operator_next device name stays old new (Move other offset) calls text sound is left about = grind (arith, lengths-moved, same_jobs, same_seat, move_local)
operator_next device name stays old new (Step other count) calls text sound is left about =
    let t : ℕ = last_id old.names other in
    let P : List Call → Type 0 = λ cs. Run old.service cs new.service in
    let are : AreFor t calls = subst (AreFor t) (sym is.6) (for_tried t is.0 old.service new.service is.2 (subst P is.6 is.3)) in
    next_for device name stays old new t calls sound are is.3 is.4 (same_jobs old.names name old.jobs new.jobs is.5 sound.elsewhere) (λ e. names_apart old.names other name (not_same name other (about e)))
operator_next device name stays old new (Take other) calls text sound is left about =
    let t : ℕ = last_id old.names other in
    let differ = not_same name other left in
    next_for device name stays old new t calls sound (for_holds t old.service is.0 calls new.service is.1 is.2) is.2 is.3 (holds_next device name other old new is.0 calls sound differ is.1 is.2 is.4) (λ e. names_apart old.names other name differ)
operator_next device name stays old new (Put number) calls text sound is left about =
    held_next device name stays old new (job_at old.jobs number) calls is.0 sound (elsewhere-at old.names name old.jobs number sound.elsewhere) is.1 is.2 is.3
    (same_jobs old.names name (without_job old.jobs number) new.jobs is.4 (elsewhere-without old.names name old.jobs number sound.elsewhere))
operator_next device name stays old new ListAll calls text sound is left about = next_same device name stays old new sound is.2
operator_next device name stays old new Owners calls text sound is left about = next_same device name stays old new sound is.4

act_next : (device : Device) (name : List ℕ) (stays : Bool) (old new : Stage) (act : Act (List ℕ)) (calls : List Call) (text : List ℕ) → Sound device name old → IsAnswered old act calls text new → IsLeft name act →
    (stays ≡ true → is_own name act ≡ false) → Next name stays old new
act_next device name stays old new (Operator line) calls text sound is left own = operator_next device name stays old new line calls text sound is left own
act_next device name stays old new (Session other line) calls text sound is left own =
    let t : ℕ = last_id old.names other in
    next_for device name stays old new t calls sound (for_line t old.service line calls new.service is.0 is.1 is.2) is.2 is.3 (same_jobs old.names name old.jobs new.jobs is.4 sound.elsewhere) (λ e. names_apart old.names other name (not_same name other (own e)))

pub sound_after : (device : Device) (name : List ℕ) (old new : Stage) (act : Act (List ℕ)) (calls : List Call) (text : List ℕ) → Sound device name old → IsAnswered old act calls text new → IsLeft name act → Sound device name new
sound_after device name old new act calls text sound is left =
    let next = act_next device name false old new act calls text sound is left (λ e. absurd (false≢true e)) in
    let runs = answered_runs old act calls text new is in
    record {
      kept = run_keeps old.service calls new.service runs sound.kept;
      on = run_device old.service calls new.service runs ∙ sound.on;
      even = next.even;
      elsewhere = next.elsewhere;
    }

-- an act that isn't the name's keeps its seat
pub seat_stays : (device : Device) (name : List ℕ) (old new : Stage) (act : Act (List ℕ)) (calls : List Call) (text : List ℕ) → Sound device name old → IsAnswered old act calls text new → IsLeft name act → is_own name act ≡ false →
    seat new.service.histories (last_id new.names name) ≡ seat old.service.histories (last_id old.names name)
seat_stays device name old new act calls text sound is left own = (act_next device name true old new act calls text sound is left (λ _. own)).same refl

-- and an act of the name does what it does alone
own_line_sits : (device : Device) (name other : List ℕ) (old new : Stage) (line : SessionLine) (calls : List Call) (text : List ℕ) → Sound device name old → IsAnswered old (Session other line) calls text new → HadMemory calls → other ≡ name →
    Says (seat old.service.histories (last_id old.names name)) line text (seat new.service.histories (last_id new.names name))
own_line_sits device name other old new line calls text sound is had same = grind (arith, line_sits)

own_operator_sits : (device : Device) (name : List ℕ) (old new : Stage) (line : OperatorLine (List ℕ)) (calls : List Call) (text : List ℕ) → Sound device name old → IsServed old line calls text new → HadMemory calls → is_about name line ≡ true →
    Serves device (seat old.service.histories (last_id old.names name)) line (given_to (Operator line) calls) text (seat new.service.histories (last_id new.names name))
own_operator_sits device name old new line calls text sound is had about = grind (arith, bytes_eq-Decides, admission_sits, eviction_sits, tries_sit)

pub own_sits : (device : Device) (name : List ℕ) (old new : Stage) (act : Act (List ℕ)) (calls : List Call) (text : List ℕ) → Sound device name old → IsAnswered old act calls text new → HadMemory calls → is_own name act ≡ true →
    Sits device (seat old.service.histories (last_id old.names name)) act (given_to act calls) text (seat new.service.histories (last_id new.names name))
own_sits device name old new (Operator line) calls text sound is had own = own_operator_sits device name old new line calls text sound is had own
own_sits device name old new (Session other line) calls text sound is had own = own_line_sits device name other old new line calls text sound is had (sym ((bytes_eq-Decides name other).0 own))

own_operator_uses : (name : List ℕ) (old new : Stage) (line : OperatorLine (List ℕ)) (calls : List Call) (text : List ℕ) → IsServed old line calls text new → is_about name line ≡ true → UsesBy (seat old.service.histories (last_id old.names name)) line calls
own_operator_uses name old new line calls text is about = grind (arith, bytes_eq-Decides)

pub own_uses : (name : List ℕ) (old new : Stage) (act : Act (List ℕ)) (calls : List Call) (text : List ℕ) → IsAnswered old act calls text new → is_own name act ≡ true → Uses (seat old.service.histories (last_id old.names name)) act calls
own_uses name old new act calls text is own = grind (arith, own_operator_uses)
