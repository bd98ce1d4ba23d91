-- A recorded step uses one of the entries that the tenancy's journal has left.
use Rattle.sessions.proofs.Prelude.{◌≡◌, ◌∙◌, ℕ, ◌+◌, ◌-◌, ◌<◌, List, [], Bool, true, Option, Some, None, Ok, refl, sym, ap, arith, IsSomeAnd, option_map, nat_tests, JobStep, JobState, StepReply, SlotState, is_takeable, next_job, Sources, Entry, IsNextStep, IsPut, IsTaken, History, slot_of, state_of, with_entry, with_here, Call, Run, IsStepOf, step_entry, ServiceState, live_of, with_changed, state_after-push, history_of-modified, StepOutcome, Recorded, MakesStep}
use Rattle.service_core.specs.declared.put_reply.PutReply.TheVariants.{Recorded as PutRecorded}

-- the number of entries that a live tenancy's journal has left
abbrev pub left_in : Option History → ℕ
left_in None = 0
left_in (Some h) = 65536 - (state_of h).entries

abbrev pub left : ServiceState → ℕ → ℕ
left state id = left_in (live_of state.histories id)

-- a live tenancy after a change
pub live_of-changed : (hs : List History) (id : ℕ) (change : History → History) (h : History) → ((h : History) → (change h).live ≡ h.live) → live_of hs id ≡ Some h → live_of (with_changed hs id change) id ≡ Some (change h)
live_of-changed hs id change h same is = grind (arith, history_of-modified)

pub some_and : (P : History → Type 0) (o : Option History) → IsSomeAnd o P → (h : History) × (o ≡ Some h) × P h
some_and P o never = grind arith

-- a running job's next step belongs to its tenancy
next_own : (slot : SlotState) (o : Option Sources) (s : JobStep) → option_map (λ sources. record { id = slot.id; generation = slot.state.generation; number = slot.state.steps + 1; sources = sources }) o ≡ Some s → s.id ≡ slot.id
next_own slot o s is = grind arith

takeable_room : (slot : SlotState) → is_takeable slot ≡ true → slot.state.entries < 65536
takeable_room slot is = grind (arith, nat_tests)

-- a job that was taken makes its tenancy's next step
abbrev pub IsTakenOf : ℕ → JobState → History → Type 0
IsTakenOf id job h = (h.id ≡ id) × (is_takeable (slot_of h) ≡ true) × (next_job (slot_of h) ≡ Some job.step) × (h.here ≡ Some job.made)

pub taken_next : (old mid : ServiceState) (id : ℕ) (job : JobState) → IsTaken old id (Some job) mid → IsNextStep mid job.step
taken_next old mid id job takes = grind (arith, live_of-changed)

entry_more : (h : History) (done : JobStep) (foreign : Bool) (reply : StepReply) → IsStepOf h done foreign reply →
    ((state_of (with_entry (step_entry done foreign reply) h)).entries ≡ (state_of h).entries + 1)
entry_more h done foreign reply is = grind (arith, state_after-push)

recorded : (old mid new : ServiceState) (id : ℕ) (job : JobState) (foreign : Bool) (reply : StepReply) → IsTaken old id (Some job) mid → IsPut mid job.step foreign (Ok (PutRecorded reply)) new → left new id < left old id
recorded old mid new id job foreign reply takes puts =
    let was = some_and (IsTakenOf id job) (live_of old.histories id) takes.0 in
    let h : History = was.0 in
    let own : job.step.id ≡ id = next_own (slot_of h) _ job.step was.2.2 ∙ was.2.0 in
    let room : (state_of h).entries < 65536 = takeable_room (slot_of h) was.2.1 in
    let out : live_of mid.histories id ≡ Some (with_here None h) = ap (λ (s : ServiceState). live_of s.histories id) takes.1 ∙ (live_of-changed old.histories id (with_here None) h (λ g. refl) was.1) in
    let put = some_and (λ g. IsStepOf g job.step foreign reply) (live_of mid.histories job.step.id) puts.0 in
    let g : History = put.0 in
    let here : live_of mid.histories id ≡ Some g = ap (λ x. live_of mid.histories x) (sym own) ∙ put.1 in
    let same : g ≡ with_here None h = cc in
    let e : Entry = step_entry job.step foreign reply in
    let after : live_of new.histories id ≡ Some (with_entry e g) =
    ap (λ (s : ServiceState). live_of s.histories id) puts.1
    ∙ (ap (λ x. live_of (with_changed mid.histories x (with_entry e)) id) own ∙ live_of-changed mid.histories id (with_entry e) g (λ x. refl) here) in
    let more : (state_of (with_entry e g)).entries ≡ (state_of g).entries + 1 = entry_more g job.step foreign reply put.2 in
    let entries : (state_of g).entries ≡ (state_of h).entries = ap (λ (x : History). (state_of x).entries) same in
    let l : left new id ≡ 65536 - (state_of (with_entry e g)).entries = ap left_in after in
    let k : left old id ≡ 65536 - (state_of h).entries = ap left_in was.1 in
    omega (arith, l, k, more, entries, room)

-- after a recorded step fewer entries are left
pub step_counts : (old new : ServiceState) (id : ℕ) (calls : List Call) (outcome : StepOutcome) (reply : StepReply) → outcome ≡ Recorded reply → MakesStep id calls outcome → Run old calls new → left new id < left old id
step_counts old new id calls outcome reply is makes runs = grind (arith, recorded)
