-- The jobs that are left, tenancy by tenancy.
use Rattle.script_threads.proofs.Prelude.{◌≡◌, ◌≢◌, ◌⊎◌, inl, inr, ℕ, ◌+◌, ◌≤◌, ◌<◌, List, [], ◌∷◌, ◌++◌, length, Bool, true, false, eqb, Option, Some, refl, sym, ap, ◌∙◌, subst, arith, All, nat_le, option_map, Contains, flat_map, nat_tests, Decides-eqb, flat_map-append, All-append, All-cons, All-contains, All-head, All-nil, All-same, All-tail, All-weaker, Contains-append_left, Contains-append_right, Basis, JobStep, Sources, JobState, SlotState, is_takeable, next_job, IsTaken, takeable_in, History, slot_of, Call, Happens, Run, IsGivenBackTo, Take, GiveBack, ServiceState, live_of, with_changed, if_live, history_of-modified, history_of-past, history_of-zero, StepOutcome, Recorded, Unfit, own_graph, MadeStep, MakesStep, StepsAndPuts, Waits, split, Run-append, is_of_threads, own_receipt, own_receipts, IsOfThreads, run_goes_on, HaveMadeSteps, IsEnded, IsJobOf, MakesSteps, MakesStepsOf}
use Rattle.sessions.specs.declared.steps.StepOutcome.TheVariants.{NoMemory}
use Rattle.script_threads.proofs.TurnLemmas.{none_asked}

-- a job that is taken is its tenancy's
next_own : (slot : SlotState) (o : Option Sources) (s : JobStep) → option_map (λ sources. record { id = slot.id; generation = slot.state.generation; number = slot.state.steps + 1; sources = sources }) o ≡ Some s → s.id ≡ slot.id
next_own slot o s is = grind arith

abbrev IsTakenOf : ℕ → JobState → History → Type 0
IsTakenOf id job h = (h.id ≡ id) × (is_takeable (slot_of h) ≡ true) × (next_job (slot_of h) ≡ Some job.step) × (h.here ≡ Some job.made)

taken_own : (old mid : ServiceState) (id : ℕ) (job : JobState) → IsTaken old id (Some job) mid → job.step.id ≡ id
taken_own old mid id job takes = grind arith

-- all calls of its steps are about that job
abbrev AreJobsOf : ℕ → List Call → Type 0
AreJobsOf id calls = All (IsJobOf id) calls

two : (id : ℕ) (a b : Call) → IsJobOf id a → IsJobOf id b → AreJobsOf id (a ∷ b ∷ [])
two id a b one other = All-cons (IsJobOf id) a (b ∷ []) one (All-cons (IsJobOf id) b [] other (All-nil (IsJobOf id)))

one : (id : ℕ) (a : Call) → IsJobOf id a → AreJobsOf id (a ∷ [])
one id a is = All-cons (IsJobOf id) a [] is (All-nil (IsJobOf id))

step_own : (id : ℕ) (old : ServiceState) (calls : List Call) (new : ServiceState) (outcome : StepOutcome) → MakesStep id calls outcome → Run old calls new → AreJobsOf id calls
step_own id old calls new outcome is runs = grind arith

abbrev made_calls : List MadeStep → List Call
made_calls made = flat_map (λ (m : MadeStep). m.0) made

abbrev IsMade : ℕ → MadeStep → Type 0
IsMade id m = MakesStep id m.0 (Recorded m.1)

made_own : (id : ℕ) (made : List MadeStep) (old new : ServiceState) → All (IsMade id) made → Run old (made_calls made) new → AreJobsOf id (made_calls made)
made_own id [] old new all runs = All-nil (IsJobOf id)
made_own id (m ∷ made) old new all runs =
    let parts = split old m.0 (made_calls made) new runs in
    All-append (IsJobOf id) m.0 (made_calls made) (step_own id old m.0 parts.0 (Recorded m.1) (All-head (IsMade id) m made all) parts.1) (made_own id made parts.0 new (All-tail (IsMade id) m made all) parts.2)

steps_own : (id : ℕ) (old : ServiceState) (calls : List Call) (new : ServiceState) (last : StepOutcome) → Waits id calls last → Run old calls new → AreJobsOf id calls
steps_own id old calls new last waits runs =
    let whole : Run old (made_calls waits.0 ++ waits.1) new = (let P : List Call → Type 0 = λ cs. Run old cs new in subst P waits.5 runs) in
    let parts = split old (made_calls waits.0) waits.1 new whole in
    All-same (IsJobOf id) calls _ waits.5 (All-append (IsJobOf id) (made_calls waits.0) waits.1 (made_own id waits.0 old parts.0 waits.2 parts.1) (step_own id parts.0 waits.1 new last waits.3 parts.2))

-- if memory runs out, the job is given back
abbrev GivesBack : List Call → Type 0
GivesBack calls = (job : JobState) × Contains calls (GiveBack job)

backs_one : (job : JobState) (calls : List Call) → StepsAndPuts job calls NoMemory → GivesBack calls
backs_one job calls (inl is) = (job, let P : List Call → Type 0 = λ cs. Contains cs (GiveBack job) in subst P (sym is) (0, omega arith, refl))
backs_one job calls (inr is) =
    let back : JobState = record { step = job.step; made = true } in
    (back, let P : List Call → Type 0 = λ cs. Contains cs (GiveBack back) in subst P (sym is.2) (1, omega arith, refl))

backs : (id : ℕ) (calls : List Call) → Waits id calls NoMemory → GivesBack calls
backs id calls waits =
    let job : JobState = waits.3.0 in
    let more : List Call = waits.3.1 in
    let back = backs_one job more waits.3.2 in
    let G : Call = GiveBack back.0 in
    let P : List Call → Type 0 = λ cs. Contains cs G in
    let last : Contains waits.1 G = subst P (sym waits.3.3) (Contains-append_right (Take id (Some job) ∷ []) more G back.1) in
    (back.0, subst P (sym waits.5) (Contains-append_right (made_calls waits.0) waits.1 G last))

-- the job of one tenancy
pub job_ends : (graph : Basis) (old : ServiceState) (id : ℕ) (new : ServiceState) (calls : List Call) (last : StepOutcome) → Waits id calls last → Run old calls new → (graph ≡ own_graph old.device → last ≢ Unfit) →
    (last ≡ NoMemory) ⊎ ((last ≡ Unfit) ⊎ (takeable_in (live_of new.histories id) ≡ false)) → MakesStepsOf graph old id new
job_ends graph old id new calls last waits runs fits how = record { calls = calls; run = runs; kinds = own; ended = λ is. by_case (fits is) how }
  where
    own : AreJobsOf id calls
    own = steps_own id old calls new last waits runs

    by_case : last ≢ Unfit → (last ≡ NoMemory) ⊎ ((last ≡ Unfit) ⊎ (takeable_in (live_of new.histories id) ≡ false)) → IsEnded new calls id
    by_case fit (inl lacked) =
        let back = backs id calls (let P : StepOutcome → Type 0 = λ outcome. Waits id calls outcome in subst P lacked waits) in
        inr (back.0, All-contains (IsJobOf id) calls (GiveBack back.0) own back.1, back.1)
    by_case fit (inr (inl unfit)) = absurd (fit unfit)
    by_case fit (inr (inr none)) = inl none

-- such calls are calls of threads, serve no command, and change no other tenancy
kind_of : (id : ℕ) (call : Call) → IsJobOf id call → is_of_threads call ≡ true
kind_of id call never = grind arith

no_receipt : (id other : ℕ) (call : Call) → IsJobOf id call → own_receipt other call ≡ []
no_receipt id other call never = grind arith

no_receipts : (id other : ℕ) (calls : List Call) → AreJobsOf id calls → own_receipts other calls ≡ []
no_receipts id other [] are = refl
no_receipts id other (call ∷ calls) are = grind (arith, All-head, no_receipts id other calls (All-tail (IsJobOf id) call calls are))

abbrev Same : ℕ → ServiceState → ServiceState → Type 0
Same id old new = live_of new.histories id ≡ live_of old.histories id

nothing : (id : ℕ) (old new : ServiceState) → new ≡ old → Same id old new
nothing id old new same = ap (λ (s : ServiceState). live_of s.histories id) same

changed : (id t : ℕ) (old new : ServiceState) (change : History → History) → id ≢ t → new ≡ record old { histories = with_changed old.histories t change } → Same id old new
changed id t old new change apart is = grind (arith, history_of-modified)

given : (o : Option History) (id : ℕ) (old new : ServiceState) (job : JobState) → id ≢ job.step.id → IsGivenBackTo o old job new → Same id old new
given o id old new job apart is = grind (arith, changed)

to : (t u id : ℕ) → u ≡ t → id ≢ t → id ≢ u
to t u id is apart = λ same. apart (same ∙ is)

other_call : (id t : ℕ) (old new : ServiceState) (call : Call) → IsJobOf t call → id ≢ t → Happens old call new → Same id old new
other_call id t old new call never apart is = grind (arith, changed)

other_calls : (id t : ℕ) (old : ServiceState) (calls : List Call) (new : ServiceState) → AreJobsOf t calls → id ≢ t → Run old calls new → Same id old new
other_calls id t old [] new on apart run = nothing id old new run
other_calls id t old (call ∷ calls) new on apart run = search (other_call, All-head, other_calls id t run.0 calls new (All-tail (IsJobOf t) call calls on) apart run.2, arith)

-- one tenancy after another
pub none_made : (graph : Basis) (old : ServiceState) → HaveMadeSteps graph old 0 old
none_made graph old = grind (arith, history_of-zero old.histories)

pub one_more : (graph : Basis) (old mid new : ServiceState) (n : ℕ) → HaveMadeSteps graph old n mid → MakesStepsOf graph mid (n + 1) new → HaveMadeSteps graph old (n + 1) new
one_more graph old mid new n done next = record {
  calls = done.calls ++ next.calls;
  run = Run-append old done.calls mid next.calls new done.run next.run;
  kinds = All-append IsOfThreads done.calls next.calls done.kinds (All-weaker (IsJobOf (n + 1)) IsOfThreads (kind_of (n + 1)) next.calls next.kinds);
  none_served = λ id. flat_map-append (own_receipt id) done.calls next.calls ∙ (ap (λ rs. rs ++ own_receipts id next.calls) (done.none_served id) ∙ no_receipts (n + 1) id next.calls next.kinds);
  ended = λ own id within. by_id own id within (eqb id (n + 1)) refl;
}
  where
    device : mid.device ≡ old.device
    device = (run_goes_on old done.calls mid done.kinds done.run).0.device

    before : (id : ℕ) → id ≢ n + 1 → IsEnded mid done.calls id → IsEnded new (done.calls ++ next.calls) id
    before id other (inl none) = inl (ap takeable_in (other_calls id (n + 1) mid next.calls new next.kinds other next.run) ∙ none)
    before id other (inr back) = inr (back.0, back.1, Contains-append_left done.calls next.calls (GiveBack back.0) back.2)

    now : IsEnded new next.calls (n + 1) → IsEnded new (done.calls ++ next.calls) (n + 1)
    now (inl none) = inl none
    now (inr back) = inr (back.0, back.1, Contains-append_right done.calls next.calls (GiveBack back.0) back.2)

    by_id : graph ≡ own_graph old.device → (id : ℕ) → id ≤ n + 1 → (b : Bool) → eqb id (n + 1) ≡ b → IsEnded new (done.calls ++ next.calls) id
    by_id own id within true e =
        let same : id ≡ n + 1 = (Decides-eqb id (n + 1)).0 e in
        rw same (now (next.ended (own ∙ ap own_graph (sym device))))
    by_id own id within false e =
        let other : id ≢ n + 1 = λ same. (let yes : eqb id (n + 1) ≡ true = (Decides-eqb id (n + 1)).1 same in cc) in
        let below : id ≤ n = omega (arith, other) in
        before id other (done.ended own id below)

pub all_made : (graph : Basis) (old new : ServiceState) (n : ℕ) → n ≡ length old.histories → HaveMadeSteps graph old n new → MakesSteps graph old new
all_made graph old new n all done = record {
  calls = done.calls;
  run = done.run;
  kinds = done.kinds;
  none_asked = λ id. none_asked id done.calls done.kinds (done.none_served id);
  ended = λ own id. by_id own id (nat_le id n) refl;
}
  where
    count : length new.histories ≡ length old.histories
    count = (run_goes_on old done.calls new done.kinds done.run).1.count

    by_id : graph ≡ own_graph old.device → (id : ℕ) (b : Bool) → nat_le id n ≡ b → IsEnded new done.calls id
    by_id own id true e = done.ended own id (grind (arith, nat_tests, e))
    by_id own id false e =
        let past : length new.histories < id = grind (arith, nat_tests, count, all) in
        inl (ap (λ o. takeable_in (if_live o)) (history_of-past new.histories id past))

pub keeps_count : (old new : ServiceState) (graph : Basis) (n : ℕ) → HaveMadeSteps graph old n new → length new.histories ≡ length old.histories
keeps_count old new graph n done = (run_goes_on old done.calls new done.kinds done.run).1.count
