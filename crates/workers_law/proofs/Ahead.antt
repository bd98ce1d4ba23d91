-- The operator's lines ask no command in a tenancy's name.
use Rattle.workers_law.proofs.Prelude.{◌≡◌, ℕ, List, [], ◌∷◌, Option, Some, None, arith, All, ⊤, option_map, reverse, filter_map, flat_map, All-append, All-cons, All-head, All-nil, All-same, All-tail, JobState, History, Call, Tenant, Take as TakeCall, GiveBack, live_of, StepOutcome, MakesStep, StepsAndPuts, OperatorLine, HeldList, Holds, PutsHeld, give_backs, job_at, last_id, IsAdmission, IsServed, Stage, AreServed, with_give_backs}
use Rattle.script_text.specs.declared.operator_line.OperatorLine.TheVariants.{Admit, Evict, Move, List as ListAll, Owners, Step, Take, Put}

-- a call that asks no command
abbrev pub NotAsked : Call → Type 0
NotAsked (Tenant id command served) = ⊥
NotAsked call = ⊤

abbrev pub NoneAsked : List Call → Type 0
NoneAsked calls = All NotAsked calls

one : (call : Call) → NotAsked call → NoneAsked (call ∷ [])
one call is = All-cons NotAsked call [] is (All-nil NotAsked)

two : (a b : Call) → NotAsked a → NotAsked b → NoneAsked (a ∷ b ∷ [])
two a b is other = All-cons NotAsked a (b ∷ []) is (one b other)

puts_none : (job : JobState) (calls : List Call) (outcome : StepOutcome) → StepsAndPuts job calls outcome → NoneAsked calls
puts_none job calls outcome is = grind arith

takes_none : (id : ℕ) (job : JobState) (calls more : List Call) (outcome : StepOutcome) → StepsAndPuts job more outcome → calls ≡ TakeCall id (Some job) ∷ more → NoneAsked calls
takes_none id job calls more outcome puts is = All-same NotAsked calls _ is (All-cons NotAsked (TakeCall id (Some job)) more tt (puts_none job more outcome puts))

pub step_none : (id : ℕ) (calls : List Call) (outcome : StepOutcome) → MakesStep id calls outcome → NoneAsked calls
step_none id calls outcome is = grind arith

abbrev Tried : Type 0
Tried = List Call × StepOutcome

tried_none : (id : ℕ) (ts : List Tried) → All (λ (t : Tried). MakesStep id t.0 t.1) ts → NoneAsked (flat_map (λ (t : Tried). t.0) ts)
tried_none id [] all = All-nil NotAsked
tried_none id (t ∷ ts) all =
    All-append NotAsked t.0 (flat_map (λ (t : Tried). t.0) ts) (step_none id t.0 t.1 (All-head (λ (t : Tried). MakesStep id t.0 t.1) t ts all)) (tried_none id ts (All-tail (λ (t : Tried). MakesStep id t.0 t.1) t ts all))

holds_none : (id : ℕ) (job : Option JobState) (calls : List Call) → Holds id job calls → NoneAsked calls
holds_none id job calls is = grind arith

held_none : (job : Option JobState) (calls : List Call) (outcome : StepOutcome) → PutsHeld job calls outcome → NoneAsked calls
held_none job calls outcome is = grind arith

admission_none : (o : Option History) (old new : Stage) (name : List ℕ) (width : ℕ) (calls : List Call) (text : List ℕ) → IsAdmission o old name width calls text new → NoneAsked calls
admission_none o old new name width calls text is = grind arith

pub line_none : (old : Stage) (line : OperatorLine (List ℕ)) (calls : List Call) (text : List ℕ) (new : Stage) → IsServed old line calls text new → NoneAsked calls
line_none old (Admit name width) calls text new is = admission_none (live_of old.service.histories (last_id old.names name)) old new name width calls text is
line_none old (Evict name) calls text new is = All-same NotAsked calls _ is.4 (one _ tt)
line_none old (Move name offset) calls text new is = All-same NotAsked calls _ is.4 (one _ tt)
line_none old (Step name count) calls text new is = All-same NotAsked calls _ is.6 (tried_none (last_id old.names name) is.0 is.2)
line_none old (Take name) calls text new is = holds_none (last_id old.names name) is.0 calls is.1
line_none old (Put number) calls text new is = held_none (job_at old.jobs number) calls is.0 is.1
line_none old ListAll calls text new is = All-same NotAsked calls [] is.0 (All-nil NotAsked)
line_none old Owners calls text new is = All-same NotAsked calls _ is.2 (one _ tt)

lines_none : (old : Stage) (lines : List (OperatorLine (List ℕ))) (calls : List Call) (text : List ℕ) (new : Stage) → AreServed old lines calls text new → NoneAsked calls
lines_none old [] calls text new is = All-same NotAsked calls [] is.0 (All-nil NotAsked)
lines_none old (line ∷ lines) calls text new is = grind (arith, All-append NotAsked is.0 is.3 (line_none old line is.0 is.1 is.2 is.5) (lines_none is.2 lines is.3 is.4 new is.6), lines_none is.2 lines is.3 is.4 new is.6)

gives_none : (jobs : HeldList) → NoneAsked (filter_map (option_map GiveBack) jobs)
gives_none [] = All-nil NotAsked
gives_none (None ∷ jobs) = gives_none jobs
gives_none (Some job ∷ jobs) = All-cons NotAsked (GiveBack job) _ tt (gives_none jobs)

-- neither do those that a script has before its sessions
pub ahead_none : (old : Stage) (lines : List (OperatorLine (List ℕ))) (calls : List Call) (text : List ℕ) (last : Stage) → AreServed old lines calls text last → NoneAsked (with_give_backs calls last)
ahead_none old lines calls text last is = All-append NotAsked calls (give_backs last.jobs) (lines_none old lines calls text last is) (gives_none (reverse last.jobs))
