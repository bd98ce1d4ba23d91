-- A step leaves its job where no worker has it.
use Rattle.live_machine.proofs.Prelude.{◌≡◌, ℕ, List, [], ◌∷◌, Bool, true, Option, Some, None, Ok, Err, inl, inr, refl, ap, subst, ◌∙◌, arith, IsSomeAnd, JobState, StepReply, Entry, History, with_entry, with_here, Call, IsStepOf, Run, step_entry, GiveBack, ServiceState, live_of, with_change, StepOutcome, Recorded, Full, Gone, NoMemory, Unfit, MakesStep, live_of-changed}
use Rattle.service_core.specs.declared.put_reply.PutReply.TheVariants.{Recorded as PutRecorded}
use Rattle.service_core.specs.Run.Call.{Put}
use Rattle.sessions.specs.declared.steps.StepOutcome.TheVariants.{Nothing}
use Rattle.live_machine.proofs.HereHome.{IsAtHome, busy_home, rested_home, same_home}
use Rattle.live_machine.proofs.HereMade.{first_taken, never_full, never_gone, own_live, runs_as}
use Rattle.live_machine.proofs.HereSteps.{Taken, entry_here}

-- after a recorded step the next one is here, and not made
recorded_home : (old : ServiceState) (id : ℕ) (calls : List Call) (reply : StepReply) (new : ServiceState) → MakesStep id calls (Recorded reply) → Run old calls new → IsAtHome new id
recorded_home old id calls reply new (job, more, (foreign, puts), is) runs =
    let (mid, t, rest) = first_taken old id job calls more new is runs in
    let (last, put, same) = runs_as mid more (Put job.step foreign (Ok (PutRecorded reply)) ∷ []) new puts rest in
    let h : History = with_here None t.history in
    let entry : Entry = step_entry job.step foreign reply in
    let S : Option History → Type 0 = λ o. IsSomeAnd o (λ g. IsStepOf g job.step foreign reply) in
    let its : IsStepOf h job.step foreign reply = subst S (own_live old id job mid t) put.0 in
    let after : live_of new.histories id ≡ Some (with_entry entry h) =
    ap (λ (s : ServiceState). live_of s.histories id) (same ∙ (put.1 ∙ ap (λ k. with_change mid k (with_entry entry)) t.own))
    ∙ live_of-changed mid.histories id (with_entry entry) h (λ g. refl) t.after in
    rested_home new id (with_entry entry h) after (entry_here t.history job.step foreign reply t.next.2 (record { flag = its.flag; told = its.told }))

-- a job that is given back can be taken again
given_home : (old : ServiceState) (id : ℕ) (job : JobState) (mid : ServiceState) (made : Bool) (new : ServiceState) → Taken old id job mid → Run mid (GiveBack (record { step = job.step; made = made }) ∷ []) new → IsAtHome new id
given_home old id job mid made new t h2 = search (live_of-changed, busy_home, arith)

pub stays_home : (old : ServiceState) (id : ℕ) (calls : List Call) (outcome : StepOutcome) (new : ServiceState) → IsAtHome old id → MakesStep id calls outcome → Run old calls new → IsAtHome new id
stays_home old id calls (Recorded reply) new home makes runs = recorded_home old id calls reply new makes runs
stays_home old id calls Full new home makes runs = absurd (never_full old id calls new makes runs)
stays_home old id calls Gone new home makes runs = absurd (never_gone old id calls new makes runs)
stays_home old id calls NoMemory new home (job, more, inl gives, is) runs =
    let (mid, t, rest) = first_taken old id job calls more new is runs in
    given_home old id job mid job.made new t (runs_as mid more (GiveBack job ∷ []) new gives rest)
stays_home old id calls NoMemory new home (job, more, inr (foreign, back, puts), is) runs =
    let (mid, t, rest) = first_taken old id job calls more new is runs in
    let again : List Call = GiveBack (record { step = job.step; made = true }) ∷ [] in
    let (next, put, run) = runs_as mid more (Put job.step foreign (Err back) ∷ again) new puts rest in
    let P : ServiceState → Type 0 = λ s. Run s again new in
    given_home old id job mid true new t (subst P put.2 run)
stays_home old id calls Unfit new home (job, more, gives, is) runs =
    let (mid, t, rest) = first_taken old id job calls more new is runs in
    given_home old id job mid job.made new t (runs_as mid more (GiveBack job ∷ []) new gives rest)
stays_home old id calls Nothing new home makes runs = grind (arith, runs_as, same_home)
