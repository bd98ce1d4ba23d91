-- The tenancy of a name, from one line to the next.
use Rattle.live_machine.proofs.Prelude.{◌≡◌, ℕ, ◌+◌, List, [], ◌∷◌, ◌++◌, Bool, true, false, cond, Option, Some, None, Result, Ok, Err, is_some, length, refl, sym, ap, subst, ◌∙◌, arith, ⊤, AllByRecursion, flat_map, bytes_eq, false≢true, recursion_from_All, JobState, Act, Session, OperatorLine, Admit, Evict, Move, Owners, Step, Take, Put, History, Call, Run, live_of, OpRefusal, SessionLine, Blank, Command, Wait, Refused, StepOutcome, Recorded, Full, Gone, NoMemory, Unfit, Answer, EndsWait, StepReply, MakesStep, PutsHeld, job_at, last_id, names_after, IsAdmission, IsServed, Stage, Tagged, tag_of, IsAnswered, Telling, Asked, LiveState, TakesAsked, TellsItem, asked_of, Echoes, Figures, NoForm, Nothing, Operates, Says, AnswersLine}
use Rattle.script_text.specs.declared.operator_line.OperatorLine.TheVariants.{List as ListAll}
use Rattle.sessions.specs.declared.steps.StepOutcome.TheVariants.{Nothing as NothingMade}
use Rattle.sessions.specs.SessionAnswer.{Asks}
use Rattle.operator.specs.HeldJobs.{Holds}
use Rattle.live_machine.proofs.AliveLemmas.{IsQuiet, admitted_alive, alive, evicted_alive, ids_apart, moved_alive, not_alive, run_alive}
use Rattle.live_machine.proofs.HeldLemmas.{one_name}

abbrev pub AreQuiet : List Call → Type 0
AreQuiet calls = AllByRecursion IsQuiet calls

quiet_both : (first more : List Call) → AreQuiet first → AreQuiet more → AreQuiet (first ++ more)
quiet_both [] more one other = other
quiet_both (call ∷ first) more one other = (one.0, quiet_both first more one.1 other)

-- steps make quiet calls
quiet_as : (calls these : List Call) → calls ≡ these → AreQuiet these → AreQuiet calls
quiet_as calls these is quiet = subst AreQuiet (sym is) quiet

pub step_quiet : (id : ℕ) (calls : List Call) (outcome : StepOutcome) → MakesStep id calls outcome → AreQuiet calls
step_quiet id calls outcome is = grind arith

-- several steps
all_quiet : {T : Type 0} (calls_of : T → List Call) (Makes : T → Type 0) → ((t : T) → Makes t → AreQuiet (calls_of t)) → (all : List T) → AllByRecursion Makes all → AreQuiet (flat_map calls_of all)
all_quiet calls_of Makes quiet [] makes = tt
all_quiet calls_of Makes quiet (t ∷ all) makes = quiet_both (calls_of t) (flat_map calls_of all) (quiet t makes.0) (all_quiet calls_of Makes quiet all makes.1)

-- the end of a wait
ending_quiet : (id : ℕ) (last : StepOutcome) (calls : List Call) (answer : Answer) → EndsWait id last calls answer → AreQuiet calls
ending_quiet id NoMemory calls answer (none, told) = quiet_as calls [] none tt
ending_quiet id NothingMade calls answer (served, is, told) = quiet_as calls _ is (tt, tt)
ending_quiet id (Recorded reply) calls answer (served, is, told) = quiet_as calls _ is (tt, tt)
ending_quiet id Full calls answer (served, is, told) = quiet_as calls _ is (tt, tt)
ending_quiet id Gone calls answer (served, is, told) = quiet_as calls _ is (tt, tt)
ending_quiet id Unfit calls answer (served, is, told) = quiet_as calls _ is (tt, tt)

-- what a session's item asks
command_quiet : (id : ℕ) (item : SessionLine) (calls : List Call) (answer : Answer) → Asks id item calls answer → AreQuiet calls
command_quiet id Blank calls answer (none, nothing) = quiet_as calls [] none tt
command_quiet id (Refused refusal) calls answer (none, refused) = quiet_as calls [] none tt
command_quiet id (Command command) calls answer (served, is, told) = quiet_as calls _ is (tt, tt)
command_quiet id Wait calls answer (last, steps, more, (made, end, each, ending, ends, is), asks, all) =
    let Makes : List Call × StepReply → Type 0 = λ m. MakesStep id m.0 (Recorded m.1) in
    let before = all_quiet (λ (m : List Call × StepReply). m.0) Makes (λ m makes. step_quiet id m.0 (Recorded m.1) makes) made (recursion_from_All Makes made each) in
    quiet_as calls (steps ++ more) all (quiet_both steps more (quiet_as steps _ is (quiet_both (flat_map (λ (m : List Call × StepReply). m.0) made) end before (step_quiet id end last ending))) (ending_quiet id last more answer asks))

-- a job that the operator takes or puts
held_quiet : (id : ℕ) (job : Option JobState) (calls : List Call) → Holds id job calls → AreQuiet calls
held_quiet id job calls is = grind arith

put_quiet : (job : Option JobState) (calls : List Call) (outcome : StepOutcome) → PutsHeld job calls outcome → AreQuiet calls
put_quiet job calls outcome puts = grind arith

-- the name has the tenancy that it had, and that is live
pub record Keeps (name : List ℕ) (old new : Stage) : Type 0 where
  pub id : last_id new.names name ≡ last_id old.names name
  pub live : alive new.service.histories (last_id old.names name) ≡ true

abbrev pub is_live : Stage → List ℕ → Bool
is_live stage name = alive stage.service.histories (last_id stage.names name)

pub keeps_same : (name : List ℕ) (old new : Stage) → is_live old name ≡ true → new ≡ old → Keeps name old new
keeps_same name old new live same = record { id = ap (λ (s : Stage). last_id s.names name) same; live = ap (λ (s : Stage). alive s.service.histories (last_id old.names name)) same ∙ live }

keeps_run : (name : List ℕ) (old new : Stage) (calls : List Call) → is_live old name ≡ true → new.names ≡ old.names → AreQuiet calls → Run old.service calls new.service → Keeps name old new
keeps_run name old new calls live names quiet run = record { id = ap (λ all. last_id all name) names; live = run_alive old.service new.service calls (last_id old.names name) quiet live run }

-- an admission under another name, or one that is refused
named_after : (name admitted : List ℕ) (old : Stage) (answer : Result (ℕ × ℕ) OpRefusal) → live_of old.service.histories (last_id old.names admitted) ≡ None → is_live old name ≡ true → last_id (names_after old.names admitted answer) name ≡ last_id old.names name
named_after name admitted old (Err refusal) free live = refl
named_after name admitted old (Ok given) free live =
    elim (bytes_eq admitted name) as (λ b. bytes_eq admitted name ≡ b → cond b (length old.names + 1) (last_id old.names name) ≡ last_id old.names name) [
      | true ↦ λ e. absurd (false≢true (sym (ap is_some free) ∙ (ap (λ n. alive old.service.histories (last_id old.names n)) (one_name admitted name e) ∙ live)))
      | false ↦ λ e. refl
    ] refl

admission_keeps : (name : List ℕ) (in_use : Option History) (old : Stage) (admitted : List ℕ) (width : ℕ) (calls : List Call) (text : List ℕ) (new : Stage) → live_of old.service.histories (last_id old.names admitted) ≡ in_use → is_live old name ≡ true → IsAdmission in_use old admitted width calls text new → Keeps name old new
admission_keeps name in_use old admitted width calls text new is live h3 = grind (arith, named_after, admitted_alive)

-- a line of the operator that evicts no such name
abbrev pub EvictsNot : List ℕ → OperatorLine (List ℕ) → Type 0
EvictsNot name (Evict other) = bytes_eq other name ≡ false
EvictsNot name line = ⊤

served_keeps : (name : List ℕ) (old : Stage) (line : OperatorLine (List ℕ)) (calls : List Call) (text : List ℕ) (new : Stage) → EvictsNot name line → is_live old name ≡ true → IsServed old line calls text new → Keeps name old new
served_keeps name old (Admit admitted width) calls text new other live served = admission_keeps name (live_of old.service.histories (last_id old.names admitted)) old admitted width calls text new refl live served
served_keeps name old (Evict evicted) calls text new other live (answer, happens, names, jobs, is, told, graph) = grind (arith, evicted_alive, ids_apart, not_alive)
served_keeps name old (Move moved offset) calls text new other live (answer, happens, names, jobs, is, told, graph) = grind (arith, moved_alive)
served_keeps name old (Step stepped count) calls text new other live (tried, counted, each, run, names, jobs, is, told, graph, fits) =
    let Makes : List Call × StepOutcome → Type 0 = λ t. MakesStep (last_id old.names stepped) t.0 t.1 in
    let quiet = all_quiet (λ (t : List Call × StepOutcome). t.0) Makes (λ t makes. step_quiet (last_id old.names stepped) t.0 t.1 makes) tried (recursion_from_All Makes tried each) in
    keeps_run name old new calls live names (quiet_as calls _ is quiet) run
served_keeps name old (Take taken) calls text new other live (job, holds, run, names, jobs, told, graph, fits) = keeps_run name old new calls live names (held_quiet (last_id old.names taken) job calls holds) run
served_keeps name old (Put number) calls text new other live (outcome, puts, run, names, jobs, told, graph, fits) = keeps_run name old new calls live names (put_quiet (job_at old.jobs number) calls outcome puts) run
served_keeps name old ListAll calls text new other live (none, told, same) = keeps_same name old new live same
served_keeps name old Owners calls text new other live (owners, lists, is, told, same) = keeps_same name old new live same

-- a line of anybody
abbrev pub IsNoEviction : List ℕ → Asked → Type 0
IsNoEviction name (Operates line) = EvictsNot name line
IsNoEviction name asked = ⊤

session_keeps : (name said_name : List ℕ) (old : Stage) (item : SessionLine) (calls : List Call) (text : List ℕ) (new : Stage) → is_live old name ≡ true → IsAnswered old (Session said_name item) calls text new → Keeps name old new
session_keeps name said_name old item calls text new live (answer, asks, run, names, jobs, told, graph, leaves) = keeps_run name old new calls live names (command_quiet (last_id old.names said_name) item calls answer asks) run

item_keeps : (tag name said_name : List ℕ) (old : Stage) (item : Option SessionLine) (tellings : List Telling) (told : List Tagged) (new : Stage) → is_live old name ≡ true → TellsItem old tag said_name item tellings told new → Keeps name old new
item_keeps tag name said_name old None tellings told new live (none, nothing, same) = keeps_same name old new live same
item_keeps tag name said_name old (Some item) tellings told new live (t, act, answered, one, is) =
    let P : Act (List ℕ) → Type 0 = λ a. IsAnswered old a t.calls t.text new in
    session_keeps name said_name old item t.calls t.text new live (subst P act answered)

asked_keeps : (tag name : List ℕ) (old : LiveState) (number : ℕ) (asked : Asked) (tellings : List Telling) (told : List Tagged) (new : LiveState) → IsNoEviction name asked → is_live old.stage name ≡ true → TakesAsked old number tag asked tellings told new → Keeps name old.stage new.stage
asked_keeps tag name old number Nothing tellings told new stays live (none, nothing, same) = keeps_same name old.stage new.stage live (ap (λ (s : LiveState). s.stage) same)
asked_keeps tag name old number NoForm tellings told new stays live (none, nothing, same) = keeps_same name old.stage new.stage live (ap (λ (s : LiveState). s.stage) same)
asked_keeps tag name old number (Echoes words) tellings told new stays live (none, nothing, same) = keeps_same name old.stage new.stage live (ap (λ (s : LiveState). s.stage) same)
asked_keeps tag name old number Figures tellings told new stays live (text, are, none, nothing, same) = keeps_same name old.stage new.stage live (ap (λ (s : LiveState). s.stage) same)
asked_keeps tag name old number (Operates line) tellings told new stays live (t, act, answered, one, is, texts) =
    let P : Act (List ℕ) → Type 0 = λ a. IsAnswered old.stage a t.calls t.text new.stage in
    served_keeps name old.stage line t.calls t.text new.stage stays live (subst P act answered)
asked_keeps tag name old number (Says said_name said) tellings told new stays live (item, hears, tells) = item_keeps tag name said_name old.stage item tellings told new.stage live tells

pub line_keeps : (name : List ℕ) (old : LiveState) (number : ℕ) (line reply : List ℕ) (new : LiveState) → IsNoEviction name (asked_of line) → is_live old.stage name ≡ true → AnswersLine old number line reply new → Keeps name old.stage new.stage
line_keeps name old number line reply new stays live answers = asked_keeps (tag_of line) name old number (asked_of line) answers.tellings answers.told new stays live answers.takes
