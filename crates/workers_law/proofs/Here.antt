-- The next step of a tenancy's job is here, unless somebody has taken it.
use Rattle.workers_law.proofs.Prelude.{◌≡◌, ◌≢◌, ◌<◌, ℕ, ◌+◌, ◌-◌, List, [], ◌∷◌, ◌++◌, length, Bool, true, false, not, Option, Some, None, Ok, Err, refl, sym, ap, ◌∙◌, subst, arith, ◌⊎◌, ◌&&◌, All, IsSomeAnd, is_some, nat_lt, option_map, if◌then◌else◌, flat_map, All-head, All-tail, JobKind, JobStep, JobState, Command, Event, Reply, StepReply, State, after_reply, answer_to, kind_that_runs, sources_of, step, is_takeable, next_job, Entry, NoRoom, TooManyStrips, BadWidth, IdsSpent, NoMemory, JournalFull, NoSuchTenancy, Recorded, Full, Gone, IsPut, IsTaken, History, slot_of, state_of, with_entry, with_here, Call, Happens, IsGivenBackTo, IsStepOf, Run, step_entry, Admit, Evict, Move, Tenant, Take, Put, GiveBack, Owners, Receipted, IsAloneOn, ServiceState, history_of, live_of, with_changed, closed_history, state_after-push, if_live_some, Kept, All-history_of, history_of-modified, history_of-past, history_of-push, MadeStep, MakesStep, IsOthers, live_of-changed, some_and, split, TakesNone}
use Rattle.tenant_slot.specs.declared.event.Event.TheVariants.{Command as Asked}
use Rattle.service_core.specs.declared.op_refusal.OpRefusal.TheVariants.{NoMemory as OpNoMemory, NoSuchTenancy as NotThere}
use Rattle.sessions.specs.declared.steps.StepOutcome.TheVariants.{Recorded as StepRecorded}

-- if a job of a live tenancy runs, its next step is here
abbrev pub is_out : Bool → Option Bool → Bool
is_out runs here = runs && not (is_some here)

abbrev pub HasHere : History → Type 0
HasHere h = is_out (is_some (kind_that_runs (state_of h).name)) h.here ≡ false

abbrev pub IsHere : ServiceState → ℕ → Type 0
IsHere s id = IsSomeAnd (live_of s.histories id) HasHere

pub same_here : (old new : ServiceState) (id : ℕ) → new ≡ old → IsHere old id → IsHere new id
same_here old new id same is = let P : ServiceState → Type 0 = λ s. IsHere s id in subst P (sym same) is

-- a change of another tenancy
other_changed : (old new : ServiceState) (t id : ℕ) (change : History → History) → t ≢ id → new.histories ≡ with_changed old.histories t change → IsHere old id → IsHere new id
other_changed old new t id change apart made is = grind (arith, history_of-modified)

-- a change after which it is here
own_changed : (old new : ServiceState) (id : ℕ) (change : History → History) → ((h : History) → (change h).live ≡ h.live) → ((h : History) → live_of old.histories id ≡ Some h → HasHere h → HasHere (change h)) → new.histories ≡ with_changed old.histories id change → IsHere old id → IsHere new id
own_changed old new id change lives keeps made is = grind (arith, some_and, live_of-changed)

any_changed : (old new : ServiceState) (t id : ℕ) (change : History → History) → ((h : History) → (change h).live ≡ h.live) → ((h : History) → live_of old.histories t ≡ Some h → HasHere h → HasHere (change h)) → new.histories ≡ with_changed old.histories t change → IsHere old id → IsHere new id
any_changed old new t id change lives keeps made is = grind (arith, own_changed, other_changed)

-- an entry leaves it here
never_out : (runs : Bool) (here : Option Bool) → is_some here ≡ true → is_out runs here ≡ false
never_out runs here is = grind arith

abbrev StepIf : State → Event → Bool → State × Option Reply
StepIf s event full = if full then (s, None) else (after_reply s (answer_to s event).0, Some (answer_to s event).1)

same_name : (s : State) (event : Event) → (answer_to s event).0 ≡ None → (step s event).0.name ≡ s.name
same_name s event none = grind arith

entry_here : (e : Entry) (h : History) → HasHere h → HasHere (with_entry e h)
entry_here e h is = search (state_after-push, never_out, arith)

given_here : (o : Option History) (old new : ServiceState) (job : JobState) (id : ℕ) → live_of old.histories job.step.id ≡ o → IsGivenBackTo o old job new → IsHere old id → IsHere new id
given_here o old new job id live is was = grind (arith, any_changed)

-- one more tenancy
push_here : (old new : ServiceState) (x : History) (id : ℕ) → new.histories ≡ old.histories ++ x ∷ [] → IsHere old id → IsHere new id
push_here old new x id made is = grind (arith, history_of-push, history_of-past)

-- the entry of a command
abbrev asked_with : Command → Reply → Entry
asked_with command reply = record { event = Asked command; reply = reply }

-- a call that others make
pub others_here : (old : ServiceState) (call : Call) (new : ServiceState) (id : ℕ) → IsOthers id call → TakesNone id call → Happens old call new → IsHere old id → IsHere new id
others_here old (Admit width (Ok given)) new id others takes is was = push_here old new _ id (ap (λ (s : ServiceState). s.histories) is.3) was
others_here old (Admit width (Err refusal)) new id others takes is was = same_here old new id is.1 was
others_here old (Evict t (Ok nothing)) new id others takes is was = other_changed old new t id closed_history others (ap (λ (s : ServiceState). s.histories) is.1) was
others_here old (Evict t (Err refusal)) new id others takes is was = same_here old new id is.2 was
others_here old (Move t offset (Ok nothing)) new id others takes is was = subst (λ hs. IsSomeAnd (live_of hs id) HasHere) (sym (ap (λ (s : ServiceState). s.histories) is.2)) was
others_here old (Move t offset (Err NotThere)) new id others takes is was = same_here old new id is.1 was
others_here old (Move t offset (Err NoRoom)) new id others takes is was = same_here old new id is.2 was
others_here old (Move t offset (Err OpNoMemory)) new id others takes is was = absurd is
others_here old (Move t offset (Err TooManyStrips)) new id others takes is was = absurd is
others_here old (Move t offset (Err BadWidth)) new id others takes is was = absurd is
others_here old (Move t offset (Err IdsSpent)) new id others takes is was = absurd is
others_here old (Tenant t command (Ok r)) new id others takes is was =
    let e : Entry = asked_with command r.reply in
    any_changed old new t id (with_entry e) (λ h. refl) (λ h live here. entry_here e h here) (ap (λ (s : ServiceState). s.histories) is.1) was
others_here old (Tenant t command (Err (JournalFull n))) new id others takes is was = same_here old new id is.2 was
others_here old (Tenant t command (Err (NoSuchTenancy n))) new id others takes is was = same_here old new id is.2 was
others_here old (Tenant t command (Err NoMemory)) new id others takes is was = same_here old new id is.1 was
others_here old (Take t (Some job)) new id others takes is was = other_changed old new t id (with_here None) takes (ap (λ (s : ServiceState). s.histories) is.1) was
others_here old (Take t None) new id others takes is was = same_here old new id is.1 was
others_here old (Put done foreign (Ok (Recorded reply))) new id others takes is was =
    let e : Entry = step_entry done foreign reply in
    any_changed old new done.id id (with_entry e) (λ h. refl) (λ h live here. entry_here e h here) (ap (λ (s : ServiceState). s.histories) is.1) was
others_here old (Put done foreign (Ok Full)) new id others takes is was = same_here old new id is.1 was
others_here old (Put done foreign (Ok Gone)) new id others takes is was = same_here old new id is.1 was
others_here old (Put done foreign (Err back)) new id others takes is was = same_here old new id is.2 was
others_here old (GiveBack job) new id others takes is was = given_here (live_of old.histories job.step.id) old new job id refl is was
others_here old (Owners list) new id others takes is was = same_here old new id is.1 was

next_sources : (s : State) (id : ℕ) (step : JobStep) (o : Option JobKind) → option_map (λ sources. record { id = id; generation = s.generation; number = s.steps + 1; sources = sources }) (option_map (sources_of s) o) ≡ Some step → (option_map (sources_of s) o ≡ Some step.sources) × (step.id ≡ id)
next_sources s id step o next = grind arith

step_here : (h : History) (done : JobStep) (foreign : Bool) (reply : StepReply) → next_job (slot_of h) ≡ Some done → IsStepOf (with_here None h) done foreign reply → HasHere (with_entry (step_entry done foreign reply) (with_here None h))
step_here h done foreign reply next is = search arith

abbrev IsTakenOf : ℕ → JobState → History → Type 0
IsTakenOf id job h = (h.id ≡ id) × (is_takeable (slot_of h) ≡ true) × (next_job (slot_of h) ≡ Some job.step) × (h.here ≡ Some job.made)

recorded_here : (old mid new : ServiceState) (id : ℕ) (job : JobState) (foreign : Bool) (reply : StepReply) → IsTaken old id (Some job) mid → IsPut mid job.step foreign (Ok (Recorded reply)) new → IsHere new id
recorded_here old mid new id job foreign reply takes puts =
    let was = some_and (IsTakenOf id job) (live_of old.histories id) takes.0 in
    let h : History = was.0 in
    let s : State = state_of h in
    let own : job.step.id ≡ id = (next_sources s h.id job.step (kind_that_runs s.name) was.2.2).1 ∙ was.2.0 in
    let out : live_of mid.histories id ≡ Some (with_here None h) = ap (λ (s : ServiceState). live_of s.histories id) takes.1 ∙ live_of-changed old.histories id (with_here None) h (λ g. refl) was.1 in
    let put = some_and (λ g. IsStepOf g job.step foreign reply) (live_of mid.histories job.step.id) puts.0 in
    let same : put.0 ≡ with_here None h = (let one : live_of mid.histories id ≡ Some put.0 = ap (λ x. live_of mid.histories x) (sym own) ∙ put.1 in cc) in
    let is : IsStepOf (with_here None h) job.step foreign reply = subst (λ g. IsStepOf g job.step foreign reply) same put.2 in
    let e : Entry = step_entry job.step foreign reply in
    let after_reply : live_of new.histories id ≡ Some (with_entry e (with_here None h)) =
    ap (λ (s : ServiceState). live_of s.histories id) puts.1 ∙ (ap (λ x. live_of (with_changed mid.histories x (with_entry e)) id) own ∙ live_of-changed mid.histories id (with_entry e) (with_here None h) (λ x. refl) out) in
    subst (λ o. IsSomeAnd o HasHere) (sym after_reply) (step_here h job.step foreign reply was.2.2 is)

-- a put right after the take finds its tenancy, with room in its journal
taken_live : (old mid : ServiceState) (id : ℕ) (job : JobState) → IsTaken old id (Some job) mid → (h : History) × (live_of old.histories id ≡ Some h) × (is_takeable (slot_of h) ≡ true) × (live_of mid.histories job.step.id ≡ Some (with_here None h))
taken_live old mid id job takes = grind (arith, live_of-changed)

pub never_away : (old mid new : ServiceState) (id : ℕ) (job : JobState) (foreign : Bool) → IsTaken old id (Some job) mid → Happens mid (Put job.step foreign (Ok Gone)) new → ⊥
never_away old mid new id job foreign takes puts = let t = taken_live old mid id job takes in let none : live_of mid.histories job.step.id ≡ None = puts.0 in let some : live_of mid.histories job.step.id ≡ Some (with_here None t.0) = t.3 in cc

has_room : (runs here : Bool) (entries : ℕ) → (runs && (here && nat_lt entries 65536)) ≡ true → entries < 65536
has_room runs here entries is = grind arith

pub never_full : (old mid new : ServiceState) (id : ℕ) (job : JobState) (foreign : Bool) → Kept old → IsTaken old id (Some job) mid → Happens mid (Put job.step foreign (Ok Full)) new → ⊥
never_full old mid new id job foreign kept takes puts =
    let t = taken_live old mid id job takes in
    let h : History = t.0 in
    let alone : IsAloneOn old.device h = All-history_of (IsAloneOn old.device) old.histories id h (if_live_some (history_of old.histories id) h t.1) kept.alone in
    let count : (state_of h).entries ≡ length h.entries = alone.replayed.count in
    let room : (state_of h).entries < 65536 = has_room (is_some (kind_that_runs (state_of h).name)) (is_some h.here) (state_of h).entries t.2 in
    let full : IsSomeAnd (Some (with_here None h)) (λ g. length g.entries ≡ 65536) = subst (λ o. IsSomeAnd o (λ g. length g.entries ≡ 65536)) t.3 puts.0 in
    omega (arith, count, room, full)

-- a command of the tenancy
pub asked_here : (old : ServiceState) (id : ℕ) (command : Command) (r : Receipted) (new : ServiceState) → Happens old (Tenant id command (Ok r)) new → IsHere old id → IsHere new id
asked_here old id command r new is was =
    let e : Entry = asked_with command r.reply in
    own_changed old new id (with_entry e) (λ h. refl) (λ h live here. entry_here e h here) (ap (λ (s : ServiceState). s.histories) is.1) was

-- so after recorded steps it is here
made_here : (old : ServiceState) (calls : List Call) (new : ServiceState) (id : ℕ) (reply : StepReply) → MakesStep id calls (StepRecorded reply) → Run old calls new → IsHere new id
made_here old calls new id reply makes runs = grind (arith, recorded_here)

abbrev IsMade : ℕ → MadeStep → Type 0
IsMade id m = MakesStep id m.0 (StepRecorded m.1)

pub steps_here : (old : ServiceState) (made : List MadeStep) (new : ServiceState) (id : ℕ) → All (IsMade id) made → Run old (flat_map (λ (m : MadeStep). m.0) made) new → IsHere old id → IsHere new id
steps_here old [] new id all runs was = same_here old new id runs was
steps_here old (m ∷ made) new id all runs was =
    let parts = split old m.0 (flat_map (λ (x : MadeStep). x.0) made) new runs in
    steps_here parts.0 made new id (All-tail (IsMade id) m made all) parts.2 (made_here old m.0 parts.0 id m.1 (All-head (IsMade id) m made all) parts.1)
