-- A tenancy's seat after its own calls.
use Rattle.replies_law.proofs.Prelude.{◌≡◌, ◌≢◌, ℕ, ◌+◌, ◌<◌, eqb, Bool, true, false, cond, List, [], ◌∷◌, ◌++◌, length, Option, Some, None, Result, Ok, Err, refl, sym, ap, ◌∙◌, subst, arith, All, IfSome, IsSomeAnd, flat_map, AllocError, nat_tests, All-head, All-tail, JobStep, JobState, Command as TenantCommand, Event, StepReply, step, SlotState, after_event, is_takeable, next_job, running_sources, step-served, Entry, NotServed, JournalFull, NoSuchTenancy, PutReply, IsPut, IsTaken, History, slot_of, state_of, with_entry, with_here, Receipted, Call, Run, Tenant, IsAloneOn, ServiceState, history_of, live_of, with_change, Kept, run_keeps, state_after-push, if_live_some, All-history_of, StepOutcome, Recorded, Full, Gone, NoMemory, Nothing, Unfit, Served, outcome_text, told_text, answer_text, EndsSteps, IsOnePut, MadeStep, MakesStep, StepsAndPuts, live_of-changed, split}
use Rattle.service_core.specs.declared.not_served.NotServed.TheVariants.{NoMemory as NotServedNoMemory}
use Rattle.service_core.specs.declared.put_reply.PutReply.TheVariants.{Recorded as PutRecorded, Full as PutFull, Gone as PutGone}
use Rattle.service_core.specs.Calls.{IsServed}
use Rattle.service_core.specs.Run.Call.{Take}
use Rattle.replies_law.proofs.Found.{FoundMemory, HadMemory}
use Rattle.replies_law.proofs.Seats.{Goes, Seat, asked_after, asked_text, happened, seat, seat_in, seat_of, stepped, stepped_text, takeable, tried, tried_text, tries, tries_text}

happened-room : (s : SlotState) (event : Event) → s.state.entries ≢ 65536 → happened s event ≡ after_event s event
happened-room s event room = let e : eqb s.state.entries 65536 ≡ false = grind (arith, nat_tests) in ap (λ b. cond b s (after_event s event)) e

pub entered : (h : History) (e : Entry) → seat_of (with_entry e h) ≡ after_event (seat_of h) e.event
entered h e = grind (arith, state_after-push)

entered-told : (h : History) (e : Entry) → (step (state_of h) e.event).1 ≡ Some e.reply → seat_of (with_entry e h) ≡ happened (seat_of h) e.event
entered-told h e told = entered h e ∙ sym (happened-room (seat_of h) e.event (step-served (state_of h) e.event e.reply told).1)

-- the state of a live tenancy counts its entries
pub counts : (old : ServiceState) (id : ℕ) (h : History) → Kept old → live_of old.histories id ≡ Some h → (state_of h).entries ≡ length h.entries
counts old id h kept live =
    let here : history_of old.histories id ≡ Some h = if_live_some (history_of old.histories id) h live in
    let on : IsAloneOn old.device h = All-history_of (IsAloneOn old.device) old.histories id h here kept.alone in
    on.replayed.count

-- a command that is answered
pub record AsksSeat (old new : ServiceState) (id : ℕ) (command : TenantCommand) (text : List ℕ) : Type 0 where
  pub told : text ≡ asked_text (seat old.histories id) command
  pub after : seat new.histories id ≡ asked_after (seat old.histories id) command

stays : (old new : ServiceState) (id : ℕ) → new ≡ old → seat new.histories id ≡ seat old.histories id
stays old new id same = ap (λ (s : ServiceState). seat s.histories id) same

command_served : (old new : ServiceState) (id : ℕ) (command : TenantCommand) (r : Receipted) → IsServed old id command (Ok r) new → AsksSeat old new id command (answer_text (Served (Ok r)))
command_served old new id command r is = grind (arith, live_of-changed, entered-told)

command_full : (old new : ServiceState) (id : ℕ) (command : TenantCommand) (text : List ℕ) → IsSomeAnd (live_of old.histories id) (λ h. length h.entries ≡ 65536) → new ≡ old → Kept old → text ≡ told_text None → AsksSeat old new id command text
command_full old new id command text full same kept is = grind (arith, counts)

command_gone : (old new : ServiceState) (id : ℕ) (command : TenantCommand) → live_of old.histories id ≡ None → new ≡ old → AsksSeat old new id command (asked_text None command)
command_gone old new id command live same = grind arith

pub command_sits : (old new : ServiceState) (id : ℕ) (command : TenantCommand) (served : Result Receipted NotServed) → IsServed old id command served new → FoundMemory (Tenant id command served) → Kept old → AsksSeat old new id command (answer_text (Served served))
command_sits old new id command (Ok r) is found kept = command_served old new id command r is
command_sits old new id command (Err (JournalFull note)) is found kept = command_full old new id command (answer_text (Served (Err (JournalFull note)))) is.1 is.2 kept refl
command_sits old new id command (Err (NoSuchTenancy note)) is found kept = command_gone old new id command is.1 is.2
command_sits old new id command (Err NotServedNoMemory) is found kept = absurd found

-- a running job's next step
pub record IsNextOf (slot : SlotState) (s : JobStep) : Type 0 where
  pub id : s.id ≡ slot.id
  pub generation : s.generation ≡ slot.state.generation
  pub number : s.number ≡ slot.state.steps + 1
  pub sources : running_sources slot.state ≡ Some s.sources

pub next_is : (slot : SlotState) (s : JobStep) → next_job slot ≡ Some s → IsNextOf slot s
next_is slot s is = grind arith

-- a job that was taken
pub record Taken (old mid : ServiceState) (id : ℕ) (job : JobState) : Type 0 where
  pub h : History
  pub live : live_of old.histories id ≡ Some h
  pub ready : is_takeable (slot_of h) ≡ true
  pub own : job.step.id ≡ id
  pub generation : job.step.generation ≡ (state_of h).generation
  pub number : job.step.number ≡ (state_of h).steps + 1
  pub sources : running_sources (state_of h) ≡ Some job.step.sources
  pub out : live_of mid.histories job.step.id ≡ Some (with_here None h)
  pub left : mid ≡ with_change old id (with_here None)

pub taken_is : (old mid : ServiceState) (id : ℕ) (job : JobState) → IsTaken old id (Some job) mid → Taken old mid id job
taken_is old mid id job takes = grind (arith, live_of-changed)

takeable_room : (slot : SlotState) → is_takeable slot ≡ true → slot.state.entries < 65536
takeable_room slot is = grind (arith, nat_tests)

-- what making a step does to the seat
abbrev pub Did : StepOutcome → Seat → Seat → Type 0
Did (Recorded reply) old new = (takeable old ≡ true) × (new ≡ stepped old) × (outcome_text (Recorded reply) ≡ stepped_text old)
Did Full old new = ⊥
Did Gone old new = ⊥
Did NoMemory old new = ⊥
Did Nothing old new = (takeable old ≡ false) × (new ≡ old)
Did Unfit old new = ⊥

recorded_sits : (old mid new : ServiceState) (id : ℕ) (job : JobState) (foreign : Bool) (reply : StepReply) → Taken old mid id job → IsPut mid job.step foreign (Ok (PutRecorded reply)) new → Did (Recorded reply) (seat old.histories id) (seat new.histories id)
recorded_sits old mid new id job foreign reply t put = search (live_of-changed, entered, arith)

-- a tenancy whose job was taken is not gone, and its journal is not full
pub never_full : (old mid : ServiceState) (id : ℕ) (job : JobState) → Kept old → Taken old mid id job → IsSomeAnd (live_of mid.histories job.step.id) (λ h. length h.entries ≡ 65536) → ⊥
never_full old mid id job kept t full = grind (arith, counts)

pub never_gone : (old mid : ServiceState) (id : ℕ) (job : JobState) → Taken old mid id job → live_of mid.histories job.step.id ≡ None → ⊥
never_gone old mid id job t gone = cc (t.out, gone)

abbrev pub PutAnswer : Type 0
PutAnswer = Result PutReply (JobStep × AllocError)

-- the two calls of a step that is put
pub record TwoCalls (old new : ServiceState) (id : ℕ) (job : JobState) (answer : PutAnswer) : Type 0 where
  pub mid : ServiceState
  pub foreign : Bool
  pub taken : Taken old mid id job
  pub put : IsPut mid job.step foreign answer new

pub two_calls : (old new : ServiceState) (id : ℕ) (job : JobState) (calls more : List Call) (answer : PutAnswer) → IsOnePut job more answer → calls ≡ Take id (Some job) ∷ more → Run old calls new → TwoCalls old new id job answer
two_calls old new id job calls more answer put is runs = grind (arith, taken_is)

-- a step that ran out of memory is given back
no_step : (job : JobState) (more : List Call) → StepsAndPuts job more NoMemory → HadMemory more → ⊥
no_step job more h1 had = grind arith

pub had_rest : (call : Call) (calls more : List Call) → calls ≡ call ∷ more → HadMemory calls → HadMemory more
had_rest call calls more is had = (subst HadMemory is had).1

pub makes_memory : (id : ℕ) (calls : List Call) → MakesStep id calls NoMemory → HadMemory calls → ⊥
makes_memory id calls makes had = no_step makes.0 makes.1 makes.2 (had_rest (Take id (Some makes.0)) calls makes.1 makes.3 had)

pub makes_unfit : (id : ℕ) (calls : List Call) → MakesStep id calls Unfit → HadMemory calls → ⊥
makes_unfit id calls makes had = (subst HadMemory makes.2 (had_rest (Take id (Some makes.0)) calls makes.1 makes.3 had)).0

not_takeable : (o : Option History) → IfSome o (λ h. is_takeable (slot_of h) ≡ false) → takeable (seat_in o) ≡ false
not_takeable o none = grind arith

pub step_sits : (old new : ServiceState) (id : ℕ) (calls : List Call) (outcome : StepOutcome) → MakesStep id calls outcome → Run old calls new → Kept old → HadMemory calls → Did outcome (seat old.histories id) (seat new.histories id)
step_sits old new id calls (Recorded reply) makes runs kept had =
    let two = two_calls old new id makes.0 calls makes.1 (Ok (PutRecorded reply)) makes.2 makes.3 runs in
    recorded_sits old two.mid new id makes.0 two.foreign reply two.taken two.put
step_sits old new id calls Full makes runs kept had =
    let two = two_calls old new id makes.0 calls makes.1 (Ok PutFull) makes.2 makes.3 runs in
    absurd (never_full old two.mid id makes.0 kept two.taken two.put.0)
step_sits old new id calls Gone makes runs kept had =
    let two = two_calls old new id makes.0 calls makes.1 (Ok PutGone) makes.2 makes.3 runs in
    absurd (never_gone old two.mid id makes.0 two.taken two.put.0)
step_sits old new id calls NoMemory makes runs kept had = absurd (makes_memory id calls makes had)
step_sits old new id calls Nothing makes runs kept had = grind (arith, not_takeable, stays)
step_sits old new id calls Unfit makes runs kept had = absurd (makes_unfit id calls makes had)

-- steps one after another
pub had_parts : (xs ys : List Call) → HadMemory (xs ++ ys) → HadMemory xs × HadMemory ys
had_parts [] ys had = (tt, had)
had_parts (x ∷ xs) ys had = let rest = had_parts xs ys had.1 in ((had.0, rest.0), rest.1)

pub made_sit : (made : List MadeStep) (old new : ServiceState) (id : ℕ) → All (λ (m : MadeStep). MakesStep id m.0 (Recorded m.1)) made → Run old (flat_map (λ (m : MadeStep). m.0) made) new → Kept old →
    HadMemory (flat_map (λ (m : MadeStep). m.0) made) → Goes (length made) (seat old.histories id) (seat new.histories id)
made_sit [] old new id all runs kept had = stays old new id runs
made_sit (m ∷ ms) old new id all runs kept had =
    let rest = flat_map (λ (m : MadeStep). m.0) ms in
    let parts = split old m.0 rest new runs in
    let hads = had_parts m.0 rest had in
    let did : Did (Recorded m.1) (seat old.histories id) (seat (parts.0).histories id) = step_sits old parts.0 id m.0 (Recorded m.1) (All-head (λ (m : MadeStep). MakesStep id m.0 (Recorded m.1)) m ms all) parts.1 kept hads.0 in
    let more = made_sit ms parts.0 new id (All-tail (λ (m : MadeStep). MakesStep id m.0 (Recorded m.1)) m ms all) parts.2 (run_keeps old m.0 parts.0 parts.1 kept) hads.1 in
    let P : Seat → Type 0 = λ s. Goes (length ms) s (seat new.histories id) in
    (did.0, subst P did.1 more)

pub ended : (last : StepOutcome) (old new : Seat) → EndsSteps last → Did last old new → (takeable old ≡ false) × (new ≡ old)
ended last old new ends did = grind arith

did_try : (outcome : StepOutcome) (old new : Seat) → Did outcome old new → new ≡ tried old
did_try outcome old new did = grind arith

-- and the answer to it
did_told : (outcome : StepOutcome) (old new : Seat) → Did outcome old new → outcome_text outcome ≡ tried_text old
did_told outcome old new did = grind arith

-- steps that were tried
pub record Tries (old new : Seat) (count : ℕ) (text : List ℕ) : Type 0 where
  pub after : new ≡ tries count old
  pub told : text ≡ tries_text count old

pub tries_sit : (ts : List (List Call × StepOutcome)) (old new : ServiceState) (id : ℕ) → All (λ (t : List Call × StepOutcome). MakesStep id t.0 t.1) ts → Run old (flat_map (λ (t : List Call × StepOutcome). t.0) ts) new → Kept old →
    HadMemory (flat_map (λ (t : List Call × StepOutcome). t.0) ts) → Tries (seat old.histories id) (seat new.histories id) (length ts) (flat_map (λ (t : List Call × StepOutcome). outcome_text t.1) ts)
tries_sit [] old new id all runs kept had = record { after = stays old new id runs; told = refl }
tries_sit (t ∷ ts) old new id all runs kept had =
    let rest = flat_map (λ (t : List Call × StepOutcome). t.0) ts in
    let parts = split old t.0 rest new runs in
    let hads = had_parts t.0 rest had in
    let did : Did t.1 (seat old.histories id) (seat (parts.0).histories id) = step_sits old parts.0 id t.0 t.1 (All-head (λ (t : List Call × StepOutcome). MakesStep id t.0 t.1) t ts all) parts.1 kept hads.0 in
    let more = tries_sit ts parts.0 new id (All-tail (λ (t : List Call × StepOutcome). MakesStep id t.0 t.1) t ts all) parts.2 (run_keeps old t.0 parts.0 parts.1 kept) hads.1 in
    let next : seat (parts.0).histories id ≡ tried (seat old.histories id) = did_try t.1 (seat old.histories id) (seat (parts.0).histories id) did in
    record {
      after = more.after ∙ ap (tries (length ts)) next;
      told = ap (λ text. text ++ flat_map (λ (t : List Call × StepOutcome). outcome_text t.1) ts) (did_told t.1 (seat old.histories id) (seat (parts.0).histories id) did)
          ∙ ap (λ more. tried_text (seat old.histories id) ++ more) (more.told ∙ ap (tries_text (length ts)) next);
    }
