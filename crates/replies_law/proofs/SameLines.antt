-- The result of a line is determined by the state.
use Rattle.replies_law.proofs.Prelude.{◌≡◌, ℕ, zero, suc, Bool, false, cond, List, [], ◌∷◌, ◌++◌, length, Option, Some, None, Ok, refl, sym, ap, ◌∙◌, subst, append_assoc, arith, All, IfSome, flat_map, All-head, All-tail, JobState, Command as TenantCommand, Status, Reply, Accepted, File, StepReply, step, is_takeable, IsPut, History, slot_of, state_of, with_entry, with_here, Call, Run, ServiceState, live_of, with_change, Kept, run_keeps, SessionLine, Blank, Wait, Refused, StepOutcome, Recorded, Full, Gone, NoMemory, Nothing, Unfit, Answer, Asks, AsksCommand, answer_text, EndsSteps, MadeStep, MakesStep, outcome_text, split}
use Rattle.tenant_slot.specs.declared.reply.Reply.TheVariants.{Status as InState, Refused as RefusedReply, Step}
use Rattle.service_core.specs.declared.put_reply.PutReply.TheVariants.{Recorded as PutRecorded, Full as PutFull, Gone as PutGone}
use Rattle.sessions.specs.declared.line.SessionLine.TheVariants.{Command}
use Rattle.replies_law.proofs.Found.{HadMemory}
use Rattle.replies_law.proofs.Lines.{asked_sits, goes_on}
use Rattle.replies_law.proofs.Seats.{asked_text, next_event, seat, seat_of}
use Rattle.replies_law.proofs.Steps.{Taken, had_parts, makes_memory, makes_unfit, never_full, never_gone, two_calls}
use Rattle.replies_law.proofs.SameCalls.{command_is, commanded}

-- a step of a tenancy's job, as a function
abbrev made_by : Option Reply → ServiceState → ℕ → History → ServiceState × StepOutcome
made_by None old id h = (old, Nothing)
made_by (Some (Accepted state)) old id h = (old, Nothing)
made_by (Some (InState status)) old id h = (old, Nothing)
made_by (Some (File kind text)) old id h = (old, Nothing)
made_by (Some (RefusedReply refusal)) old id h = (old, Nothing)
made_by (Some (Step reply)) old id h = (with_change (with_change old id (with_here None)) id (with_entry (record { event = next_event (seat_of h); reply = Step reply })), Recorded reply)

abbrev made : Option History → ServiceState → ℕ → ServiceState × StepOutcome
made None old id = (old, Nothing)
made (Some h) old id = cond (is_takeable (slot_of h)) (made_by (step (state_of h) (next_event (seat_of h))).1 old id h) (old, Nothing)

abbrev pub made_in : ServiceState → ℕ → ServiceState × StepOutcome
made_in old id = made (live_of old.histories id) old id

recorded_is : (old mid new : ServiceState) (id : ℕ) (job : JobState) (foreign : Bool) (reply : StepReply) → Taken old mid id job → IsPut mid job.step foreign (Ok (PutRecorded reply)) new → ◌≡◌ {A = ServiceState × StepOutcome} (new, Recorded reply) (made_in old id)
recorded_is old mid new id job foreign reply t put = grind arith

nothing_is : (old new : ServiceState) (id : ℕ) (o : Option History) → IfSome o (λ h. is_takeable (slot_of h) ≡ false) → new ≡ old → ◌≡◌ {A = ServiceState × StepOutcome} (new, Nothing) (made o old id)
nothing_is old new id o none same = grind arith

pub step_is : (old new : ServiceState) (id : ℕ) (calls : List Call) (outcome : StepOutcome) → MakesStep id calls outcome → Run old calls new → Kept old → HadMemory calls → ◌≡◌ {A = ServiceState × StepOutcome} (new, outcome) (made_in old id)
step_is old new id calls (Recorded reply) makes runs kept had = grind (arith, two_calls, recorded_is, two_calls old new id makes.0 calls makes.1 (Ok (PutRecorded reply)) makes.2 makes.3 runs)
step_is old new id calls Full makes runs kept had =
    let two = two_calls old new id makes.0 calls makes.1 (Ok PutFull) makes.2 makes.3 runs in
    absurd (never_full old two.mid id makes.0 kept two.taken two.put.0)
step_is old new id calls Gone makes runs kept had =
    let two = two_calls old new id makes.0 calls makes.1 (Ok PutGone) makes.2 makes.3 runs in
    absurd (never_gone old two.mid id makes.0 two.taken two.put.0)
step_is old new id calls NoMemory makes runs kept had = absurd (makes_memory id calls makes had)
step_is old new id calls Nothing makes runs kept had = grind (arith, nothing_is)
step_is old new id calls Unfit makes runs kept had = absurd (makes_unfit id calls makes had)

-- steps up to one that isn't recorded
abbrev Ended : ℕ → ℕ → ServiceState → ServiceState → StepOutcome → Type 0
Ended zero id old new last = ◌≡◌ {A = ServiceState × StepOutcome} (new, last) (made_in old id)
Ended (suc n) id old new last = (reply : StepReply) × ((made_in old id).1 ≡ Recorded reply) × Ended n id (made_in old id).0 new last

not_recorded : (last : StepOutcome) (reply : StepReply) → EndsSteps last → last ≡ Recorded reply → ⊥
not_recorded last reply ends is = subst EndsSteps is ends

ended_alike : (n m id : ℕ) (old a b : ServiceState) (last other : StepOutcome) → Ended n id old a last → Ended m id old b other → EndsSteps last → EndsSteps other → a ≡ b
ended_alike zero zero id old a b last other one two ends stops = ap (λ (p : ServiceState × StepOutcome). p.0) (one ∙ sym two)
ended_alike zero (suc m) id old a b last other one two ends stops = absurd (not_recorded last two.0 ends (ap (λ (p : ServiceState × StepOutcome). p.1) one ∙ two.1))
ended_alike (suc n) zero id old a b last other one two ends stops = absurd (not_recorded other one.0 stops (ap (λ (p : ServiceState × StepOutcome). p.1) two ∙ one.1))
ended_alike (suc n) (suc m) id old a b last other one two ends stops = ended_alike n m id (made_in old id).0 a b last other one.2 two.2 ends stops

steps_end : (id : ℕ) (ms : List MadeStep) (end : List Call) (last : StepOutcome) (old new : ServiceState) → All (λ (m : MadeStep). MakesStep id m.0 (Recorded m.1)) ms → MakesStep id end last → Run old (flat_map (λ (m : MadeStep). m.0) ms ++ end) new → Kept old →
    HadMemory (flat_map (λ (m : MadeStep). m.0) ms ++ end) → Ended (length ms) id old new last
steps_end id [] end last old new all makes runs kept had = step_is old new id end last makes runs kept had
steps_end id (m ∷ ms) end last old new all makes runs kept had =
    let flat : List Call = flat_map (λ (m : MadeStep). m.0) ms in
    let all_calls : m.0 ++ (flat ++ end) ≡ (m.0 ++ flat) ++ end = sym (append_assoc m.0 flat end) in
    let whole : Run old (m.0 ++ (flat ++ end)) new = (let P : List Call → Type 0 = λ cs. Run old cs new in subst P (sym all_calls) runs) in
    let parts = split old m.0 (flat ++ end) new whole in
    let hads = had_parts m.0 (flat ++ end) (subst HadMemory (sym all_calls) had) in
    let did = step_is old parts.0 id m.0 (Recorded m.1) (All-head (λ (m : MadeStep). MakesStep id m.0 (Recorded m.1)) m ms all) parts.1 kept hads.0 in
    let more = steps_end id ms end last parts.0 new (All-tail (λ (m : MadeStep). MakesStep id m.0 (Recorded m.1)) m ms all) makes parts.2 (run_keeps old m.0 parts.0 parts.1 kept) hads.1 in
    let P : ServiceState → Type 0 = λ s. Ended (length ms) id s new last in
    (m.1, sym (ap (λ (p : ServiceState × StepOutcome). p.1) did), subst P (ap (λ (p : ServiceState × StepOutcome). p.0) did) more)

-- a session's line
pub record Said (old new : ServiceState) (id : ℕ) (command : TenantCommand) (text : List ℕ) : Type 0 where
  pub told : text ≡ asked_text (seat old.histories id) command
  pub state : new ≡ commanded (live_of old.histories id) old id command

asked_is : (old new : ServiceState) (id : ℕ) (command : TenantCommand) (calls : List Call) (answer : Answer) → AsksCommand id command calls answer → Run old calls new → Kept old → HadMemory calls → Said old new id command (answer_text answer)
asked_is old new id command calls answer asks runs kept had = grind (arith, asked_sits, command_is)

pub record Waited (old new : ServiceState) (id : ℕ) (text : List ℕ) : Type 0 where
  pub count : ℕ
  pub mid : ServiceState
  pub last : StepOutcome
  pub ends : EndsSteps last
  pub ended : Ended count id old mid last
  pub said : Said mid new id Status text

waited_is : (old new : ServiceState) (id : ℕ) (calls : List Call) (answer : Answer) → Asks id Wait calls answer → Run old calls new → Kept old → HadMemory calls → Waited old new id (answer_text answer)
waited_is old new id calls answer asks runs kept had =
    let waits = asks.3 in
    let flat : List Call = flat_map (λ (m : MadeStep). m.0) waits.0 in
    let all : calls ≡ (flat ++ waits.1) ++ asks.2 = asks.5 ∙ ap (λ cs. cs ++ asks.2) waits.5 in
    let whole : Run old ((flat ++ waits.1) ++ asks.2) new = (let P : List Call → Type 0 = λ cs. Run old cs new in subst P all runs) in
    let hads = had_parts (flat ++ waits.1) asks.2 (subst HadMemory all had) in
    let parts = split old (flat ++ waits.1) asks.2 new whole in
    let kept_then : Kept parts.0 = run_keeps old (flat ++ waits.1) parts.0 parts.1 kept in
    record {
      count = length waits.0;
      mid = parts.0;
      last = asks.0;
      ends = waits.4;
      ended = steps_end id waits.0 waits.1 asks.0 old parts.0 waits.2 waits.3 parts.1 kept hads.0;
      said = asked_is parts.0 new id Status asks.2 answer (goes_on id waits.1 asks.0 asks.2 answer waits.3 (had_parts flat waits.1 hads.0).1 asks.4) parts.2 kept_then hads.1;
    }

none_called : (old new : ServiceState) (calls : List Call) → calls ≡ [] → Run old calls new → new ≡ old
none_called old new calls is runs = (let P : List Call → Type 0 = λ cs. Run old cs new in subst P is runs)

pub line_alike : (old new other : ServiceState) (id : ℕ) (line : SessionLine) (calls more : List Call) (answer told : Answer) → Asks id line calls answer → Asks id line more told → Run old calls new → Run old more other → Kept old → HadMemory calls → HadMemory more →
    (answer_text answer ≡ answer_text told) × (new ≡ other)
line_alike old new other id Blank calls more answer told asks too runs run kept had has = (ap answer_text (asks.1 ∙ sym too.1), none_called old new calls asks.0 runs ∙ sym (none_called old other more too.0 run))
line_alike old new other id (Refused refusal) calls more answer told asks too runs run kept had has = (ap answer_text (asks.1 ∙ sym too.1), none_called old new calls asks.0 runs ∙ sym (none_called old other more too.0 run))
line_alike old new other id (Command command) calls more answer told asks too runs run kept had has = grind (arith, asked_is, asked_is old new id command calls answer asks runs kept had, asked_is old other id command more told too run kept has)
line_alike old new other id Wait calls more answer told asks too runs run kept had has =
    let one = waited_is old new id calls answer asks runs kept had in
    let two = waited_is old other id more told too run kept has in
    let mid : one.mid ≡ two.mid = ended_alike one.count two.count id old one.mid two.mid one.last two.last one.ended two.ended one.ends two.ends in (
      one.said.told ∙ (ap (λ (s : ServiceState). asked_text (seat s.histories id) Status) mid ∙ sym two.said.told),
      one.said.state ∙ (ap (λ (s : ServiceState). commanded (live_of s.histories id) s id Status) mid ∙ sym two.said.state),
    )

pub tried_alike : (id : ℕ) (ts us : List (List Call × StepOutcome)) (old new other : ServiceState) → length ts ≡ length us → All (λ (t : List Call × StepOutcome). MakesStep id t.0 t.1) ts → All (λ (t : List Call × StepOutcome). MakesStep id t.0 t.1) us →
    Run old (flat_map (λ (t : List Call × StepOutcome). t.0) ts) new → Run old (flat_map (λ (t : List Call × StepOutcome). t.0) us) other → Kept old → HadMemory (flat_map (λ (t : List Call × StepOutcome). t.0) ts) → HadMemory (flat_map (λ (t : List Call × StepOutcome). t.0) us) →
    (flat_map (λ (t : List Call × StepOutcome). outcome_text t.1) ts ≡ flat_map (λ (t : List Call × StepOutcome). outcome_text t.1) us) × (new ≡ other)
tried_alike id [] [] old new other long all too runs run kept had has = (refl, runs ∙ sym run)
tried_alike id [] (u ∷ us) old new other long all too runs run kept had has = absurd (omega (arith, long))
tried_alike id (t ∷ ts) [] old new other long all too runs run kept had has = absurd (omega (arith, long))
tried_alike id (t ∷ ts) (u ∷ us) old new other long all too runs run kept had has =
    let M : List Call × StepOutcome → Type 0 = λ t. MakesStep id t.0 t.1 in
    let one = split old t.0 (flat_map (λ (t : List Call × StepOutcome). t.0) ts) new runs in
    let two = split old u.0 (flat_map (λ (t : List Call × StepOutcome). t.0) us) other run in
    let one_had = had_parts t.0 (flat_map (λ (t : List Call × StepOutcome). t.0) ts) had in
    let two_had = had_parts u.0 (flat_map (λ (t : List Call × StepOutcome). t.0) us) has in
    let did = step_is old one.0 id t.0 t.1 (All-head M t ts all) one.1 kept one_had.0 in
    let does = step_is old two.0 id u.0 u.1 (All-head M u us too) two.1 kept two_had.0 in
    let mid : two.0 ≡ one.0 = ap (λ (p : ServiceState × StepOutcome). p.0) (does ∙ sym did) in
    let outcome : t.1 ≡ u.1 = ap (λ (p : ServiceState × StepOutcome). p.1) (did ∙ sym does) in
    let P : ServiceState → Type 0 = λ s. Run s (flat_map (λ (t : List Call × StepOutcome). t.0) us) other in
    let rest = tried_alike id ts us one.0 new other (omega (arith, long)) (All-tail M t ts all) (All-tail M u us too) one.2 (subst P mid two.2) (run_keeps old t.0 one.0 one.1 kept) one_had.1 two_had.1 in
    (ap (λ o. outcome_text o ++ flat_map (λ (t : List Call × StepOutcome). outcome_text t.1) ts) outcome ∙ ap (λ more. outcome_text u.1 ++ more) rest.0, rest.1)
