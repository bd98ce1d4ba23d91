-- The calls of the core that make a step.
use Rattle.sessions.proofs.Prelude.{◌≡◌, ◌∙◌, ℕ, List, [], ◌∷◌, ◌++◌, Bool, true, Option, Some, Result, Err, refl, sym, ap, subst, append-nil, arith, All, AllocError, flat_map, flat_map-append, All-push, StepReply, JobStep, JobState, Basis, PutReply, IsGivenBack, IsPut, IsTaken, Puts, Call, Run, Take, Put, GiveBack, ServiceState, StepOutcome, Recorded, Status, SessionLine, Wait, Answer, Served, NoMemory as NotServedNoMemory, own_graph, AsksCommand, EndsWait, IsAnswer, LeavesNone, EndsSteps, MadeStep, MakesStep, StepsAndPuts, Waits}
use Rattle.sessions.specs.declared.steps.StepOutcome.TheVariants.{NoMemory}

pub Run-append : (a : ServiceState) (xs : List Call) (b : ServiceState) (ys : List Call) (c : ServiceState) → Run a xs b → Run b ys c → Run a (xs ++ ys) c
Run-append a [] b ys c first next = let P : ServiceState → Type 0 = λ s. Run s ys c in subst P first next
Run-append a (x ∷ xs) b ys c first next = (first.0, first.1, Run-append first.0 xs b ys c first.2 next)

abbrev pub PutAnswer : Type 0
PutAnswer = Result PutReply (JobStep × AllocError)

answered : (old new : ServiceState) (done : JobStep) (result answer : PutAnswer) → result ≡ answer → Puts old done result new → (foreign : Bool) × IsPut old done foreign answer new
answered old new done result answer same puts = (puts.0, (let P : PutAnswer → Type 0 = λ r. IsPut old done puts.0 r new in subst P same puts.1))

-- the calls of a put are a run
pub put_runs : (old new : ServiceState) (job : JobState) (done : JobStep) (result answer : PutAnswer) → done ≡ job.step → result ≡ answer → Puts old done result new →
    (foreign : Bool) × Run old (Put job.step foreign answer ∷ []) new
put_runs old new job done result answer made same puts = grind arith

-- a put that ran out of memory
pub back_runs : (old mid new : ServiceState) (job returned : JobState) (done : JobStep) (result : PutAnswer) (back : JobStep × AllocError) → done ≡ job.step → result ≡ Err back → Puts old done result mid →
    returned ≡ record { step = back.0; made = true } → IsGivenBack mid returned new →
    (foreign : Bool) × Run old (Put job.step foreign (Err back) ∷ GiveBack (record { step = job.step; made = true }) ∷ []) new
back_runs old mid new job returned done result back made same puts is gives = grind arith

-- a step that ran out of memory
pub given_runs : (old new : ServiceState) (job back : JobState) → back ≡ job → IsGivenBack old back new → Run old (GiveBack job ∷ []) new
given_runs old new job back same gives = (new, (let P : JobState → Type 0 = λ b. IsGivenBack old b new in subst P same gives), refl)

-- the take before it
pub taken : (id : ℕ) (job : JobState) (more : List Call) (outcome : StepOutcome) → StepsAndPuts job more outcome → MakesStep id (Take id (Some job) ∷ more) outcome
taken id job more outcome s = grind arith

pub take_happens : (old new : ServiceState) (id : ℕ) (result : Option JobState) (job : JobState) → result ≡ Some job → IsTaken old id result new → IsTaken old id (Some job) new
take_happens old new id result job same is = let P : Option JobState → Type 0 = λ j. IsTaken old id j new in subst P same is

-- the steps that were recorded so far
abbrev pub Made : ℕ → ServiceState → ServiceState → Type 0
Made id old new = (made : List MadeStep) × All (λ (m : MadeStep). MakesStep id m.0 (Recorded m.1)) made × Run old (flat_map (λ (m : MadeStep). m.0) made) new

pub made_more : (id : ℕ) (old mid new : ServiceState) (calls : List Call) (outcome : StepOutcome) (reply : StepReply) → Made id old mid → outcome ≡ Recorded reply → MakesStep id calls outcome → Run mid calls new →
    Made id old new
made_more id old mid new calls outcome reply so_far is makes runs =
    let step : MakesStep id calls (Recorded reply) = (let P : StepOutcome → Type 0 = λ o. MakesStep id calls o in subst P is makes) in
    let m : MadeStep = (calls, reply) in
    let flat : flat_map (λ (m : MadeStep). m.0) (so_far.0 ++ m ∷ []) ≡ flat_map (λ (m : MadeStep). m.0) so_far.0 ++ calls =
    flat_map-append (λ (m : MadeStep). m.0) so_far.0 (m ∷ []) ∙ ap (λ cs. flat_map (λ (m : MadeStep). m.0) so_far.0 ++ cs) (append-nil calls) in (
      so_far.0 ++ m ∷ [],
      All-push (λ (m : MadeStep). MakesStep id m.0 (Recorded m.1)) so_far.0 m so_far.1 step,
      (let P : List Call → Type 0 = λ cs. Run old cs new in subst P (sym flat) (Run-append old (flat_map (λ (m : MadeStep). m.0) so_far.0) mid calls new so_far.2 runs)),
    )

-- and a last one that wasn't recorded
pub made_ends : (id : ℕ) (old mid new : ServiceState) (calls : List Call) (outcome : StepOutcome) → Made id old mid → MakesStep id calls outcome → EndsSteps outcome → Run mid calls new →
    (all : List Call) × Waits id all outcome × Run old all new
made_ends id old mid new calls outcome so_far makes ends runs =
    let flat = flat_map (λ (m : MadeStep). m.0) so_far.0 in
    (flat ++ calls, (so_far.0, calls, so_far.1, makes, ends, refl), Run-append old flat mid calls new so_far.2 runs)

-- a step that wasn't recorded
pub ends_unrecorded : (outcome : StepOutcome) → ((reply : StepReply) → outcome ≡ Recorded reply → ⊥) → EndsSteps outcome
ends_unrecorded outcome not = grind arith

pub wait_asks : (graph : Basis) (old mid new : ServiceState) (id : ℕ) (line : SessionLine) (last : StepOutcome) (steps more : List Call) (answer : Answer) → line ≡ Wait → Waits id steps last → Run old steps mid →
    EndsWait id last more answer → Run mid more new → (graph ≡ own_graph old.device → LeavesNone id Wait (steps ++ more) answer new) → IsAnswer graph old id line answer new
wait_asks graph old mid new id line last steps more answer is waits first ends next leaves = rw is (steps ++ more, (last, steps, more, waits, ends, refl), Run-append old steps mid more new first next, leaves)

pub ends_as_status : (id : ℕ) (last : StepOutcome) (calls : List Call) (answer : Answer) → (last ≡ NoMemory → ⊥) → AsksCommand id Status calls answer → EndsWait id last calls answer
ends_as_status id last calls answer not asks = grind arith

pub ends_without_memory : (id : ℕ) (last : StepOutcome) → last ≡ NoMemory → EndsWait id last [] (Served (Err NotServedNoMemory))
ends_without_memory id last is = rw is (refl, refl)
