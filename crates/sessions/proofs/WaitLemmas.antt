-- When the steps of a wait end.
use Rattle.sessions.proofs.Prelude.{◌≡◌, ◌∙◌, ℕ, ◌+◌, List, [], ◌∷◌, ◌++◌, Bool, false, Option, Some, None, Ok, Err, Result, inl, inr, refl, sym, ap, subst, arith, ◌⊎◌, ◌&&◌, IfSome, nat_lt, AllocError, JobStep, JobState, Status, Reply, step, is_takeable, NotServed, NoMemory as NotServedNoMemory, PutReply, IsServed, IsTaken, takeable_in, History, slot_of, state_of, with_entry, Receipted, Call, Run, Tenant, Take, Put, ServiceState, live_of, state_after-push, Served, StepOutcome, Recorded, Full, Gone, Nothing, Unfit, Wait, LeavesNone, EndsSteps, IsOnePut, MakesStep, Waits}
use Rattle.tenant_slot.specs.declared.event.Event.TheVariants.{Command as Asked}
use Rattle.service_core.specs.declared.put_reply.PutReply.TheVariants.{Full as PutFull, Gone as PutGone}
use Rattle.sessions.specs.declared.steps.StepOutcome.TheVariants.{NoMemory}
use Rattle.sessions.proofs.Counted.{live_of-changed}
use Rattle.sessions.proofs.EndToEndLemmas.{split}
use Rattle.sessions.proofs.GivenBack.{none_back-append, wait_none_back}

abbrev pub NothingLeft : ServiceState → ℕ → Type 0
NothingLeft state id = takeable_in (live_of state.histories id) ≡ false

and_false : (b : Bool) → (b && false) ≡ false
and_false b = grind arith

same_left : (old new : ServiceState) (id : ℕ) → new ≡ old → NothingLeft old id → NothingLeft new id
same_left old new id same left = let P : ServiceState → Type 0 = λ s. NothingLeft s id in subst P (sym same) left

-- while the step is out there is no step to take
taken_left : (old new : ServiceState) (id : ℕ) (job : JobState) → IsTaken old id (Some job) new → NothingLeft new id
taken_left old new id job takes = grind (arith, live_of-changed)

put_left : (old new : ServiceState) (id : ℕ) (job : JobState) (calls more : List Call) (answer : Result PutReply (JobStep × AllocError)) → ((foreign : Bool) (a b : ServiceState) → Run a (Put job.step foreign answer ∷ []) b → b ≡ a) → IsOnePut job more answer → calls ≡ Take id (Some job) ∷ more → Run old calls new → NothingLeft new id
put_left old new id job calls more answer stays put is runs =
    let all : calls ≡ Take id (Some job) ∷ Put job.step put.0 answer ∷ [] = is ∙ ap (λ cs. Take id (Some job) ∷ cs) put.1 in
    let run : Run old (Take id (Some job) ∷ Put job.step put.0 answer ∷ []) new = (let P : List Call → Type 0 = λ cs. Run old cs new in subst P all runs) in
    same_left run.0 new id (stays put.0 run.0 new run.2) (taken_left old run.0 id job run.1)

-- without a step to take nothing is takeable
none_left : (o : Option History) → IfSome o (λ h. is_takeable (slot_of h) ≡ false) → takeable_in o ≡ false
none_left o none = grind arith

nothing_left : (old new : ServiceState) (id : ℕ) (calls : List Call) → calls ≡ Take id None ∷ [] → Run old calls new → NothingLeft new id
nothing_left old new id calls is runs = grind arith

step_left : (old new : ServiceState) (id : ℕ) (calls : List Call) (last : StepOutcome) → MakesStep id calls last → EndsSteps last → Run old calls new → (last ≡ NoMemory) ⊎ ((last ≡ Unfit) ⊎ NothingLeft new id)
step_left old new id calls (Recorded reply) makes ends runs = absurd ends
step_left old new id calls Full makes ends runs = inr (inr (put_left old new id makes.0 calls makes.1 (Ok PutFull) (λ foreign a b run. run.2 ∙ run.1.1) makes.2 makes.3 runs))
step_left old new id calls Gone makes ends runs = inr (inr (put_left old new id makes.0 calls makes.1 (Ok PutGone) (λ foreign a b run. run.2 ∙ run.1.1) makes.2 makes.3 runs))
step_left old new id calls NoMemory makes ends runs = inl refl
step_left old new id calls Nothing makes ends runs = inr (inr (nothing_left old new id calls makes runs))
step_left old new id calls Unfit makes ends runs = inr (inl refl)

pub wait_left : (old new : ServiceState) (id : ℕ) (steps : List Call) (last : StepOutcome) → Waits id steps last → Run old steps new → (last ≡ NoMemory) ⊎ ((last ≡ Unfit) ⊎ (takeable_in (live_of new.histories id) ≡ false))
wait_left old new id steps last waits runs = grind (arith, split, step_left)

fewer : (runs here : Bool) (entries : ℕ) → (runs && (here && nat_lt entries 65536)) ≡ false → (runs && (here && nat_lt (entries + 1) 65536)) ≡ false
fewer runs here entries is = grind arith

-- so it makes no step takeable
status_left_of : (h : History) (reply : Reply) → (step (state_of h) (Asked Status)).1 ≡ Some reply → is_takeable (slot_of h) ≡ false → is_takeable (slot_of (with_entry (record { event = Asked Status; reply = reply }) h)) ≡ false
status_left_of h reply told left = grind (arith, state_after-push)

pub status_left : (old new : ServiceState) (id : ℕ) (served : Result Receipted NotServed) → IsServed old id Status served new → NothingLeft old id → (Served served ≡ Served (Err NotServedNoMemory)) ⊎ NothingLeft new id
status_left old new id served is left = grind (arith, live_of-changed, status_left_of)

-- a wait whose last step neither ran out of memory nor had a job that doesn't fit the graph, and
-- the status after it
pub wait_leaves : (old mid new : ServiceState) (id : ℕ) (steps : List Call) (last : StepOutcome) (served : Result Receipted NotServed) → Waits id steps last → Run old steps mid →
    (last ≡ NoMemory → ⊥) → (last ≡ Unfit → ⊥) → IsServed mid id Status served new → LeavesNone id Wait (steps ++ Tenant id Status served ∷ []) (Served served) new
wait_leaves old mid new id steps last served waits runs memory fits is = with_steps (status_left mid new id served is (ended (wait_left old mid id steps last waits runs)))
  where
    with_steps : (Served served ≡ Served (Err NotServedNoMemory)) ⊎ NothingLeft new id → LeavesNone id Wait (steps ++ Tenant id Status served ∷ []) (Served served) new
    with_steps (inl none) = inl none
    with_steps (inr left) = inr (none_back-append steps (Tenant id Status served ∷ []) (wait_none_back id steps last memory fits waits) tt, left)

    ended : (last ≡ NoMemory) ⊎ ((last ≡ Unfit) ⊎ NothingLeft mid id) → NothingLeft mid id
    ended (inl none) = absurd (memory none)
    ended (inr (inl unfit)) = absurd (fits unfit)
    ended (inr (inr left)) = left
