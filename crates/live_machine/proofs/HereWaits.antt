-- A `wait` of a name whose job is at home, whatever workers have.
use Rattle.live_machine.proofs.Prelude.{◌≡◌, ℕ, List, [], ◌∷◌, ◌++◌, Err, inl, inr, refl, sym, subst, append_assoc, arith, ◌⊎◌, Status, StepReply, Call, Happens, Run, Tenant, GiveBack, ServiceState, Session, SessionLine, Blank, Command, Wait, Refused, StepOutcome, Recorded, NoMemory, Unfit, Answer, Served, AsksCommand, EndsWait, GivesNoneBack, LeavesNone, Waits, split, Run-append, wait_leaves, last_id, Stage, IsAnswered, all_here}
use Rattle.service_core.specs.declared.not_served.NotServed.TheVariants.{NoMemory as NotServedNoMemory}
use Rattle.live_machine.proofs.HereCalls.{runs_here}
use Rattle.live_machine.proofs.HereHome.{IsAtHome}
use Rattle.live_machine.proofs.HereMade.{remade}
use Rattle.live_machine.proofs.HereServed.{stage_here}
use Rattle.live_machine.proofs.HereTried.{Retried, calls_in, retried}

-- the steps of a wait, of the service without workers
record Rewaits (old : ServiceState) (id : ℕ) (last : StepOutcome) (new : ServiceState) : Type 0 where
  steps : List Call
  waits : Waits id steps last
  runs : Run (all_here old) steps (all_here new)

rewaits : (old : ServiceState) (id : ℕ) (steps : List Call) (last : StepOutcome) (new : ServiceState) → IsAtHome old id → Waits id steps last → Run old steps new → Rewaits old id last new
rewaits old id steps last new home (made, end, all, makes, ends, is) runs =
    let P : List Call → Type 0 = λ cs. Run old cs new in
    let (mid, first, final) = split old (calls_in StepReply made) end new (subst P is runs) in
    let r : Retried StepReply Recorded old id made mid = retried StepReply Recorded old id made mid home all first in
    let (calls, makes_again, run) = remade mid id end last new r.home makes final in
    record {
      steps = calls_in StepReply r.again ++ calls;
      waits = (r.again, calls, r.made, makes_again, ends, refl);
      runs = Run-append (all_here old) (calls_in StepReply r.again) (all_here mid) calls (all_here new) r.runs run;
    }

-- after them memory has run out, or `status` is asked
abbrev EndsEither : ℕ → StepOutcome → List Call → Answer → Type 0
EndsEither id last more answer = ((more ≡ []) × (answer ≡ Served (Err NotServedNoMemory))) ⊎ ((last ≡ NoMemory → ⊥) × AsksCommand id Status more answer)

ends_either : (id : ℕ) (last : StepOutcome) (more : List Call) (answer : Answer) → EndsWait id last more answer → EndsEither id last more answer
ends_either id NoMemory more answer ends = inl ends
ends_either id last more answer ends = inr (λ same. absurd (cc), ends)

ends_here : (old : ServiceState) (id : ℕ) (last : StepOutcome) (more : List Call) (answer : Answer) (new : ServiceState) → EndsEither id last more answer → Run old more new → Run (all_here old) more (all_here new)
ends_here old id last more answer new (inl (none, answers)) runs = runs_here old more [] new none tt runs
ends_here old id last more answer new (inr (memory, (served, asks, answers))) runs = runs_here old more (Tenant id Status served ∷ []) new asks (tt, tt) runs

-- of calls that give no job back none of the last ones does
last_none_back : (xs ys : List Call) → GivesNoneBack (xs ++ ys) → GivesNoneBack ys
last_none_back [] ys none = none
last_none_back (GiveBack job ∷ xs) ys none = absurd none
last_none_back (call ∷ xs) ys none = last_none_back xs ys none

-- so the job of a wait's last step fits the graph
never_unfit : (id : ℕ) (steps more calls : List Call) (last : StepOutcome) → Waits id steps last → calls ≡ steps ++ more → GivesNoneBack calls → last ≡ Unfit → ⊥
never_unfit id steps more calls last h1 all_is none unfit = grind (arith, append_assoc, last_none_back)

leaves_again : (old mid new : ServiceState) (id : ℕ) (steps more : List Call) (last : StepOutcome) (answer : Answer) → Waits id steps last → Run old steps mid → Run mid more new → EndsEither id last more answer → (last ≡ Unfit → ⊥) → LeavesNone id Wait (steps ++ more) answer new
leaves_again old mid new id steps more last answer waits run runs (inl (none, answers)) fits = inl answers
leaves_again old mid new id steps more last answer waits run runs (inr (memory, (served, asks, answers))) fits =
    let R : List Call → Type 0 = λ cs. Run mid cs new in
    let (there, serves, same) = subst R asks runs in
    let S : ServiceState → Type 0 = λ s. Happens mid (Tenant id Status served) s in
    let left : LeavesNone id Wait (steps ++ Tenant id Status served ∷ []) (Served served) new = wait_leaves old mid new id steps last served waits run memory fits (subst S (sym same) serves) in
    let L : List Call → Type 0 = λ cs. LeavesNone id Wait (steps ++ cs) answer new in
    let M : Answer → Type 0 = λ a. LeavesNone id Wait (steps ++ Tenant id Status served ∷ []) a new in
    subst L (sym asks) (subst M (sym answers) left)

-- it leaves no step undone either
leaves_here : (was : ServiceState) (id : ℕ) (calls : List Call) (answer : Answer) (again : List Call) (new : ServiceState) → (GivesNoneBack calls → LeavesNone id Wait again answer new) → LeavesNone id Wait calls answer was → LeavesNone id Wait again answer new
leaves_here was id calls answer again new leaves h2 = grind arith

-- a line of a session makes these calls in the place of others
abbrev pub Reanswered : Stage → List ℕ → SessionLine → List ℕ → Stage → Type 0
Reanswered old name line text new = (calls : List Call) × IsAnswered (stage_here old) (Session name line) calls text (stage_here new)

wait_here : (old : Stage) (name : List ℕ) (calls : List Call) (text : List ℕ) (new : Stage) → IsAtHome old.service (last_id old.names name) → IsAnswered old (Session name Wait) calls text new → Reanswered old name Wait text new
wait_here old name calls text new home (answer, (last, steps, more, waits, ends, is), runs, names, jobs, told, graph, leaves) =
    let id : ℕ = last_id old.names name in
    let P : List Call → Type 0 = λ cs. Run old.service cs new.service in
    let (mid, first, final) = split old.service steps more new.service (subst P is runs) in
    let w : Rewaits old.service id last mid = rewaits old.service id steps last mid home waits first in
    let either : EndsEither id last more answer = ends_either id last more answer ends in
    let run : Run (all_here mid) more (all_here new.service) = ends_here mid id last more answer new.service either final in (
      w.steps ++ more,
      (
        answer,
        (last, w.steps, more, w.waits, ends, refl),
        Run-append (all_here old.service) w.steps (all_here mid) more (all_here new.service) w.runs run,
        names,
        jobs,
        told,
        graph,
        λ own. leaves_here new.service id calls answer (w.steps ++ more) (all_here new.service) (λ back. leaves_again (all_here old.service) (all_here mid) (all_here new.service) id w.steps more last answer w.waits w.runs run either (never_unfit id steps more calls last waits is back)) (leaves own),
      ),
    )

pub session_here : (old : Stage) (name : List ℕ) (line : SessionLine) (calls : List Call) (text : List ℕ) (new : Stage) → (line ≡ Wait → IsAtHome old.service (last_id old.names name)) → IsAnswered old (Session name line) calls text new → Reanswered old name line text new
session_here old name Blank calls text new home (answer, asks, runs, names, jobs, told, graph, leaves) = (calls, (answer, asks, runs_here old.service calls [] new.service asks.0 tt runs, names, jobs, told, graph, λ own. tt))
session_here old name (Refused refusal) calls text new home (answer, asks, runs, names, jobs, told, graph, leaves) = (calls, (answer, asks, runs_here old.service calls [] new.service asks.0 tt runs, names, jobs, told, graph, λ own. tt))
session_here old name (Command command) calls text new home (answer, asks, runs, names, jobs, told, graph, leaves) = (calls, (answer, asks, runs_here old.service calls (Tenant (last_id old.names name) command asks.0 ∷ []) new.service asks.1 (tt, tt) runs, names, jobs, told, graph, λ own. tt))
session_here old name Wait calls text new home answered = wait_here old name calls text new (home refl) answered
