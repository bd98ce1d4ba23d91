-- What a step by hand leaves, whatever workers have.
use Rattle.live_machine.proofs.Prelude.{◌≡◌, ℕ, ◌+◌, ◌<◌, List, [], ◌∷◌, length, Bool, true, ◌&&◌, Some, None, Result, Ok, Err, inl, inr, refl, sym, ap, subst, ◌∙◌, arith, ⊤, nat_lt, AllocError, length-map, JobStep, JobState, Event, StepReply, State, state_after, step, is_takeable, PutReply, History, slot_of, with_here, Call, Happens, Run, GiveBack, ServiceState, live_of, StepOutcome, Recorded, Full, Gone, NoMemory, Unfit, MakesStep, all_here}
use Rattle.service_core.specs.declared.put_reply.PutReply.TheVariants.{Recorded as PutRecorded, Full as PutFull, Gone as PutGone}
use Rattle.service_core.specs.Run.Call.{Put, Take}
use Rattle.sessions.specs.declared.steps.StepOutcome.TheVariants.{Nothing}
use Rattle.live_machine.proofs.Here.{given, none_taken, taken}
use Rattle.live_machine.proofs.HereHome.{IsAtHome, none_home}
use Rattle.live_machine.proofs.HereSteps.{Taken, gives_here, mid_here, put_here, takes_here, unmade, what_taken}

counted : (state : State) (events : List Event) → (state_after state events).entries < 65536 → (state_after state events).entries ≡ state.entries + length events
counted state [] few = omega arith
counted state (event ∷ events) few = grind (arith, counted (step state event).0 events few)

takeable_room : (runs here : Bool) (entries : ℕ) → (runs && (here && nat_lt entries 65536)) ≡ true → entries < 65536
takeable_room runs here entries is = grind arith

not_full : (h : History) → is_takeable (slot_of h) ≡ true → length h.entries ≡ 65536 → ⊥
not_full h takeable full = grind (arith, counted, length-map)

-- a step whose calls are known
pub runs_as : (old : ServiceState) (calls same : List Call) (new : ServiceState) → calls ≡ same → Run old calls new → Run old same new
runs_as old calls same new is runs = let P : List Call → Type 0 = λ cs. Run old cs new in subst P is runs

-- a step that was put, but not recorded, changes nothing but where it is
put_nothing : (old : ServiceState) (id : ℕ) (job : JobState) (new : ServiceState) (foreign : Bool) (answer : Result PutReply (JobStep × AllocError)) → ((mid last : ServiceState) → Happens mid (Put job.step foreign answer) last → last ≡ mid) → Run old (Take id (Some job) ∷ Put job.step foreign answer ∷ []) new → all_here new ≡ all_here old
put_nothing old id job new foreign answer stays (mid, takes, (last, puts, same)) = ap all_here (same ∙ stays mid last puts) ∙ taken old mid id (Some job) takes

back_nothing : (old : ServiceState) (id : ℕ) (job : JobState) (new : ServiceState) → Run old (Take id (Some job) ∷ GiveBack job ∷ []) new → all_here new ≡ all_here old
back_nothing old id job new (mid, takes, (last, gives, same)) = ap all_here same ∙ (given mid last job gives ∙ taken old mid id (Some job) takes)

put_back_nothing : (old : ServiceState) (id : ℕ) (job made : JobState) (new : ServiceState) (foreign : Bool) (back : JobStep × AllocError) → Run old (Take id (Some job) ∷ Put job.step foreign (Err back) ∷ GiveBack made ∷ []) new → all_here new ≡ all_here old
put_back_nothing old id job made new foreign back (mid, takes, (next, puts, (last, gives, same))) = grind (arith, given next last made gives, taken old mid id (Some job) takes)

abbrev pub IsUnrecorded : StepOutcome → Type 0
IsUnrecorded (Recorded reply) = ⊥
IsUnrecorded outcome = ⊤

pub unrecorded : (old : ServiceState) (id : ℕ) (calls : List Call) (outcome : StepOutcome) (new : ServiceState) → IsUnrecorded outcome → MakesStep id calls outcome → Run old calls new → all_here new ≡ all_here old
unrecorded old id calls (Recorded reply) new un makes runs = absurd un
unrecorded old id calls Full new un (job, more, (foreign, puts), is) runs =
    put_nothing old id job new foreign (Ok PutFull) (λ mid last put. put.1) (runs_as old calls (Take id (Some job) ∷ Put job.step foreign (Ok PutFull) ∷ []) new (is ∙ ap (λ cs. Take id (Some job) ∷ cs) puts) runs)
unrecorded old id calls Gone new un (job, more, (foreign, puts), is) runs =
    put_nothing old id job new foreign (Ok PutGone) (λ mid last put. put.1) (runs_as old calls (Take id (Some job) ∷ Put job.step foreign (Ok PutGone) ∷ []) new (is ∙ ap (λ cs. Take id (Some job) ∷ cs) puts) runs)
unrecorded old id calls NoMemory new un (job, more, inl gives, is) runs =
    back_nothing old id job new (runs_as old calls (Take id (Some job) ∷ GiveBack job ∷ []) new (is ∙ ap (λ cs. Take id (Some job) ∷ cs) gives) runs)
unrecorded old id calls NoMemory new un (job, more, inr (foreign, back, puts), is) runs =
    put_back_nothing old id job (record { step = job.step; made = true }) new foreign back
    (runs_as old calls (Take id (Some job) ∷ Put job.step foreign (Err back) ∷ GiveBack (record { step = job.step; made = true }) ∷ []) new (is ∙ ap (λ cs. Take id (Some job) ∷ cs) puts) runs)
unrecorded old id calls Unfit new un (job, more, gives, is) runs =
    back_nothing old id job new (runs_as old calls (Take id (Some job) ∷ GiveBack job ∷ []) new (is ∙ ap (λ cs. Take id (Some job) ∷ cs) gives) runs)
unrecorded old id calls Nothing new un makes runs = grind (arith, runs_as)

-- the same step, of the service without workers
abbrev pub Remade : ServiceState → ℕ → StepOutcome → ServiceState → Type 0
Remade old id outcome new = (calls : List Call) × MakesStep id calls outcome × Run (all_here old) calls (all_here new)

pub first_taken : (old : ServiceState) (id : ℕ) (job : JobState) (calls more : List Call) (new : ServiceState) → calls ≡ Take id (Some job) ∷ more → Run old calls new → (mid : ServiceState) × Taken old id job mid × Run mid more new
first_taken old id job calls more new is runs = grind (arith, what_taken)

-- a job that came back
remade_back : (old : ServiceState) (id : ℕ) (job : JobState) (mid new : ServiceState) → Taken old id job mid → all_here new ≡ all_here old → Run (all_here old) (Take id (Some (unmade job)) ∷ GiveBack (unmade job) ∷ []) (all_here new)
remade_back old id job mid new t same = (mid_here old id, takes_here old id job mid t, (all_here old, gives_here old id job mid t, same))

remade_put : (old : ServiceState) (id : ℕ) (job : JobState) (mid new : ServiceState) (more : List Call) (foreign : Bool) (reply : StepReply) → Taken old id job mid → more ≡ Put job.step foreign (Ok (PutRecorded reply)) ∷ [] → Run mid more new → Run (all_here old) (Take id (Some (unmade job)) ∷ Put job.step foreign (Ok (PutRecorded reply)) ∷ []) (all_here new)
remade_put old id job mid new more foreign reply t is runs =
    let run : Run mid (Put job.step foreign (Ok (PutRecorded reply)) ∷ []) new = runs_as mid more (Put job.step foreign (Ok (PutRecorded reply)) ∷ []) new is runs in
    let P : ServiceState → Type 0 = λ s. Happens mid (Put job.step foreign (Ok (PutRecorded reply))) s in
    (mid_here old id, takes_here old id job mid t, (all_here new, put_here old id job mid new foreign reply t (subst P (sym run.2) run.1), refl))

pub own_live : (old : ServiceState) (id : ℕ) (job : JobState) (mid : ServiceState) → (t : Taken old id job mid) → live_of mid.histories job.step.id ≡ Some (with_here None t.history)
own_live old id job mid t = ap (live_of mid.histories) t.own ∙ t.after

-- a job that was taken is put: its journal has space, and its tenancy is live
pub never_full : (old : ServiceState) (id : ℕ) (calls : List Call) (new : ServiceState) → MakesStep id calls Full → Run old calls new → ⊥
never_full old id calls new (job, more, (foreign, puts), is) runs = grind (arith, not_full, first_taken old id job calls more new is runs)

pub never_gone : (old : ServiceState) (id : ℕ) (calls : List Call) (new : ServiceState) → MakesStep id calls Gone → Run old calls new → ⊥
never_gone old id calls new (job, more, (foreign, puts), is) runs = grind (arith, first_taken old id job calls more new is runs)

pub remade : (old : ServiceState) (id : ℕ) (calls : List Call) (outcome : StepOutcome) (new : ServiceState) → IsAtHome old id → MakesStep id calls outcome → Run old calls new → Remade old id outcome new
remade old id calls (Recorded reply) new home (job, more, (foreign, puts), is) runs =
    let (mid, t, rest) = first_taken old id job calls more new is runs in
    (Take id (Some (unmade job)) ∷ Put job.step foreign (Ok (PutRecorded reply)) ∷ [], (unmade job, Put job.step foreign (Ok (PutRecorded reply)) ∷ [], (foreign, refl), refl), remade_put old id job mid new more foreign reply t puts rest)
remade old id calls Full new home makes runs = absurd (never_full old id calls new makes runs)
remade old id calls Gone new home makes runs = absurd (never_gone old id calls new makes runs)
remade old id calls NoMemory new home makes runs =
    let (mid, t, rest) = first_taken old id makes.0 calls makes.1 new makes.3 runs in
    (Take id (Some (unmade makes.0)) ∷ GiveBack (unmade makes.0) ∷ [], (unmade makes.0, GiveBack (unmade makes.0) ∷ [], inl refl, refl), remade_back old id makes.0 mid new t (unrecorded old id calls NoMemory new tt makes runs))
remade old id calls Unfit new home makes runs =
    let (mid, t, rest) = first_taken old id makes.0 calls makes.1 new makes.3 runs in
    (Take id (Some (unmade makes.0)) ∷ GiveBack (unmade makes.0) ∷ [], (unmade makes.0, GiveBack (unmade makes.0) ∷ [], refl, refl), remade_back old id makes.0 mid new t (unrecorded old id calls Unfit new tt makes runs))
remade old id calls Nothing new home makes runs = grind (arith, runs_as, none_home, none_taken, unrecorded)
