-- A step by hand, whatever workers have.
use Rattle.live_machine.proofs.Prelude.{◌≡◌, ℕ, ◌+◌, [], Bool, true, false, Option, Some, None, Ok, refl, sym, ap, subst, ◌∙◌, arith, IsSomeAnd, option_map, option_map_or, JobKind, JobStep, JobState, Advance, StepReply, State, go_on, sources_of, SlotState, is_takeable, next_job, Entry, History, slot_of, with_entry, with_here, Happens, IsStepOf, step_entry, GiveBack, ServiceState, history_of, live_of, with_change, with_changed, if_live_some, live_of-changed, all_here}
use Rattle.service_core.specs.declared.put_reply.PutReply.TheVariants.{Recorded as PutRecorded}
use Rattle.service_core.specs.Run.Call.{Put, Take}
use Rattle.live_machine.proofs.Here.{changed_at, changed_back, changed_twice, live_some, rested, rested_all, with_histories}

-- the job is that tenancy's next step, and can be taken
abbrev pub IsNextOf : ℕ → JobState → History → Type 0
IsNextOf id job h = (h.id ≡ id) × (is_takeable (slot_of h) ≡ true) × (next_job (slot_of h) ≡ Some job.step) × (h.here ≡ Some job.made)

-- the job, as it is taken where its step isn't made
abbrev pub unmade : JobState → JobState
unmade job = record job { made = false }

-- the tenancy from which a job was taken
pub record Taken (old : ServiceState) (id : ℕ) (job : JobState) (mid : ServiceState) : Type 0 where
  pub history : History
  pub live : live_of old.histories id ≡ Some history
  pub next : IsNextOf id job history
  pub own : job.step.id ≡ id
  pub after : live_of mid.histories id ≡ Some (with_here None history)
  pub mid_is : mid ≡ with_change old id (with_here None)

next_own : (slot : SlotState) (kind : Option JobKind) (s : JobStep) → option_map (λ sources. record { id = slot.id; generation = slot.state.generation; number = slot.state.steps + 1; sources = sources }) (option_map (sources_of slot.state) kind) ≡ Some s → s.id ≡ slot.id
next_own slot kind s is = grind arith

pub what_taken : (old : ServiceState) (id : ℕ) (job : JobState) (mid : ServiceState) → Happens old (Take id (Some job)) mid → Taken old id job mid
what_taken old id job mid h1 = grind (arith, live_of-changed)

-- it can be taken from the service without workers
abbrev pub mid_here : ServiceState → ℕ → ServiceState
mid_here old id = with_change (all_here old) id (with_here None)

after_here : (old : ServiceState) (id : ℕ) (h : History) → live_of old.histories id ≡ Some h → live_of (mid_here old id).histories id ≡ Some (with_here None h)
after_here old id h live = live_of-changed (rested_all old.histories) id (with_here None) (rested h) (λ g. refl) (live_some old.histories id h live)

pub takes_here : (old : ServiceState) (id : ℕ) (job : JobState) (mid : ServiceState) → Taken old id job mid → Happens (all_here old) (Take id (Some (unmade job))) (mid_here old id)
takes_here old id job mid t = search (live_some, arith)

-- and be given back
pub gives_here : (old : ServiceState) (id : ℕ) (job : JobState) (mid : ServiceState) → Taken old id job mid → Happens (mid_here old id) (GiveBack (unmade job)) (all_here old)
gives_here old id job mid t = grind (arith, changed_twice (rested_all old.histories) id (with_here None) (with_here (Some false)), changed_back old.histories id, after_here old id t.history t.live)

-- a recorded step that is the next one changes the state
went_on : (state : State) (kind : JobKind) (here : Option Bool) → option_map_or (λ new. Some false) (go_on state kind).0 here ≡ Some false
went_on state kind here = grind arith

abbrev made_of : JobStep → Bool → Advance
made_of done foreign = record { generation = done.generation; number = done.number; foreign = foreign }

pub entry_here : (h : History) (done : JobStep) (foreign : Bool) (reply : StepReply) → next_job (slot_of h) ≡ Some done → IsStepOf h done foreign reply →
    rested (with_entry (step_entry done foreign reply) (with_here None h)) ≡ with_entry (step_entry done foreign reply) (with_here None h)
entry_here h done foreign reply next is = search arith

-- the step of a job that was taken is put
pub put_here : (old : ServiceState) (id : ℕ) (job : JobState) (mid new : ServiceState) (foreign : Bool) (reply : StepReply) → Taken old id job mid → Happens mid (Put job.step foreign (Ok (PutRecorded reply))) new → Happens (mid_here old id) (Put job.step foreign (Ok (PutRecorded reply))) (all_here new)
put_here old id job mid new foreign reply t (is, same) =
    let h : History = t.history in
    let entry : Entry = step_entry job.step foreign reply in
    let at_own : live_of mid.histories job.step.id ≡ Some (with_here None h) = ap (live_of mid.histories) t.own ∙ t.after in
    let S : Option History → Type 0 = λ o. IsSomeAnd o (λ g. IsStepOf g job.step foreign reply) in
    let step_of : IsStepOf (with_here None h) job.step foreign reply = subst S at_own is in
    let same_step : IsStepOf h job.step foreign reply = record { flag = step_of.flag; told = step_of.told } in
    let there : live_of (mid_here old id).histories job.step.id ≡ Some (with_here None h) = ap (live_of (mid_here old id).histories) t.own ∙ after_here old id h t.live in
    let in_old : history_of old.histories id ≡ Some h = if_live_some (history_of old.histories id) h t.live in
    let first : History → History = with_here None in
    let more : History → History = with_entry entry in
    let both : History → History = λ g. more (first g) in
    let at : (g : History) → history_of old.histories id ≡ Some g → rested (both g) ≡ both (rested g) =
    λ g e. let its : h ≡ g = (let s : Some h ≡ Some g = sym in_old ∙ e in cc) in
    let P : History → Type 0 = λ x. rested (both x) ≡ both (rested x) in
    subst P its (entry_here h job.step foreign reply t.next.2 same_step) in
    let lists : rested_all (with_changed (with_changed old.histories id first) id more) ≡ with_changed (with_changed (rested_all old.histories) id first) id more =
    ap rested_all (changed_twice old.histories id first more)
    ∙ (changed_at old.histories id both both at
    ∙ sym (changed_twice (rested_all old.histories) id first more)) in
    let whole : all_here new ≡ with_change (mid_here old id) id (with_entry entry) =
    ap all_here (same ∙ (ap (λ (s : ServiceState). with_change s job.step.id more) t.mid_is ∙ ap (λ k. with_change (with_change old id first) k more) t.own))
    ∙ ap (with_histories old) lists in
    (subst S (sym there) step_of, whole ∙ ap (λ k. with_change (mid_here old id) k more) (sym t.own))
