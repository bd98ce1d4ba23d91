-- A wait that gives no job back ends with no job running, if nobody else took one.
use Rattle.workers_law.proofs.Prelude.{◌≡◌, ◌≢◌, ◌≤◌, length, ℕ, List, [], ◌∷◌, ◌++◌, Bool, true, false, not, Option, Some, None, Result, Ok, Err, sym, ap, ◌∙◌, subst, arith, inl, inr, ◌⊎◌, ⊤, ◌&&◌, IfSome, IsSomeAnd, is_some, nat_lt, if◌then◌else◌, flat_map, nat_tests, Command as TenantCommand, Status, kind_that_runs, run, is_takeable, step-served, Device, NotServed, NoMemory, PutReply, Full, Gone, IsTaken, JobStep, JobState, AllocError, History, slot_of, state_of, own_events, Receipted, Call, Happens, IsReceipt, Run, Admit, Evict, Move, Tenant, Take, Put, GiveBack, Owners, IsAloneOn, ServiceState, empty_service, history_of, live_of, live_width, each_alone, Kept, kept_after, run_keeps, if_live_some, All-history_of, SessionLine, Blank, Wait, Refused, StepOutcome, Nothing, Unfit, Answer, Served, AsksCommand, EndsWait, GivesNoneBack, LeavesNone, answer_text, EndsSteps, IsOnePut, MadeStep, MakesStep, Waits, Turn, Item, Meanwhile, some_and, split, IsAtRest, IsReply, AreReplied, OwnTurns}
use Rattle.tenant_slot.specs.declared.event.Event.TheVariants.{Command as Asked}
use Rattle.sessions.specs.declared.line.SessionLine.TheVariants.{Command}
use Rattle.sessions.specs.declared.steps.StepOutcome.TheVariants.{Recorded as StepRecorded, Full as StepFull, Gone as StepGone, NoMemory as StepNoMemory}
use Rattle.workers_law.proofs.Here.{HasHere, IsHere, asked_here, never_away, never_full, others_here, same_here, steps_here}
use Rattle.workers_law.proofs.States.{rests_status}

-- an item has a reply of the tenancy, or a refusal of its own; a wait is answered with a state in
-- which no job runs
abbrev pub IsReplied : SessionLine → Answer → Type 0
IsReplied (Command command) (Served (Ok receipt)) = ⊤
IsReplied Wait (Served (Ok receipt)) = IsAtRest receipt.reply
IsReplied line (Served answer) = ⊥
IsReplied line answer = ⊤

abbrev pub AreAllReplied : List Turn → Type 0
AreAllReplied [] = ⊤
AreAllReplied (Item line calls answer ∷ turns) = IsReplied line answer × AreAllReplied turns
AreAllReplied (Meanwhile call ∷ turns) = AreAllReplied turns

-- no job runs of a tenancy to which nothing happened
idle_start : (device : Device) (before : List Call) (old : ServiceState) (id : ℕ) (h : History) → Run (empty_service device) before old → own_events id before ≡ [] → live_of old.histories id ≡ Some h → kind_that_runs (state_of h).name ≡ None
idle_start device before old id h first nothing live = grind (arith, each_alone device before old first)

pub first_here : (device : Device) (before : List Call) (old : ServiceState) (id width : ℕ) → Run (empty_service device) before old → own_events id before ≡ [] → live_width old.histories id ≡ Some width → IsHere old id
first_here device before old id width first nothing live = grind (arith, idle_start)

-- a command that is answered
never_gone : (old new : ServiceState) (id : ℕ) → IsHere old id → live_of old.histories id ≡ None → ⊥
never_gone old new id here none = subst (λ o. IsSomeAnd o HasHere) none here

abbrev IsOk : Result Receipted NotServed → Type 0
IsOk served = (r : Receipted) × (served ≡ Ok r)

served_ok : (old new : ServiceState) (id : ℕ) (command : TenantCommand) (served : Result Receipted NotServed) → IsHere old id → IsReply (answer_text (Served served)) → Happens old (Tenant id command served) new → IsOk served
served_ok old new id command served here reply is = search arith

-- no job is given back among calls
back_left : (xs ys : List Call) → GivesNoneBack (xs ++ ys) → GivesNoneBack xs
back_left [] ys none = tt
back_left (Admit width answer ∷ xs) ys none = back_left xs ys none
back_left (Evict t answer ∷ xs) ys none = back_left xs ys none
back_left (Move t offset answer ∷ xs) ys none = back_left xs ys none
back_left (Tenant t command served ∷ xs) ys none = back_left xs ys none
back_left (Take t job ∷ xs) ys none = back_left xs ys none
back_left (Put done foreign answer ∷ xs) ys none = back_left xs ys none
back_left (GiveBack job ∷ xs) ys none = absurd none
back_left (Owners list ∷ xs) ys none = back_left xs ys none

back_right : (xs ys : List Call) → GivesNoneBack (xs ++ ys) → GivesNoneBack ys
back_right [] ys none = none
back_right (Admit width answer ∷ xs) ys none = back_right xs ys none
back_right (Evict t answer ∷ xs) ys none = back_right xs ys none
back_right (Move t offset answer ∷ xs) ys none = back_right xs ys none
back_right (Tenant t command served ∷ xs) ys none = back_right xs ys none
back_right (Take t job ∷ xs) ys none = back_right xs ys none
back_right (Put done foreign answer ∷ xs) ys none = back_right xs ys none
back_right (GiveBack job ∷ xs) ys none = absurd none
back_right (Owners list ∷ xs) ys none = back_right xs ys none

-- a status while the job's next step would be here and there is none to take
runs_not : (runs here room : Bool) → room ≡ true → (runs && (here && room)) ≡ false → (runs && not here) ≡ false → runs ≡ false
runs_not runs here room space none out = grind arith

none_of : {A : Type 0} (o : Option A) → is_some o ≡ false → o ≡ None
none_of o is = grind arith

status_replied : (old new : ServiceState) (id : ℕ) (r : Receipted) → Kept old → IsHere old id → IfSome (live_of old.histories id) (λ h. is_takeable (slot_of h) ≡ false) → Happens old (Tenant id Status (Ok r)) new → IsAtRest r.reply
status_replied old new id r kept here none is =
    let at = some_and HasHere (live_of old.histories id) here in
    let h : History = at.0 in
    let said : IsReceipt (Some h) id Status r = (let P : Option History → Type 0 = λ o. IsReceipt o id Status r in subst P at.1 is.0) in
    let stuck : is_takeable (slot_of h) ≡ false = (let P : Option History → Type 0 = λ o. IfSome o (λ x. is_takeable (slot_of x) ≡ false) in subst P at.1 none) in
    let alone : IsAloneOn old.device h = All-history_of (IsAloneOn old.device) old.histories id h (if_live_some (history_of old.histories id) h at.1) kept.alone in
    let count : (state_of h).entries ≡ length h.entries = alone.replayed.count in
    let few : length h.entries ≤ 65536 = alone.replayed.few in
    let space : (state_of h).entries ≢ 65536 = (step-served (state_of h) (Asked Status) r.reply said.3).1 in
    let room : nat_lt (state_of h).entries 65536 ≡ true = grind (arith, nat_tests, count, few, space) in
    let rests : is_some (kind_that_runs (state_of h).name) ≡ false = runs_not (is_some (kind_that_runs (state_of h).name)) (is_some h.here) (nat_lt (state_of h).entries 65536) room stuck at.2 in
    rests_status (state_of h) r.reply said.3 (none_of (kind_that_runs (state_of h).name) rests)

-- how a wait ends
abbrev Ended : ServiceState → ℕ → Answer → Type 0
Ended new id answer = IsReplied Wait answer × IsHere new id

status_ended : (mid new : ServiceState) (id : ℕ) (more : List Call) (answer : Answer) → Kept mid → IsHere mid id → IfSome (live_of mid.histories id) (λ h. is_takeable (slot_of h) ≡ false) → AsksCommand id Status more answer → IsReply (answer_text answer) → Run mid more new → Ended new id answer
status_ended mid new id more answer kept here none asks reply runs =
    let run : Run mid (Tenant id Status asks.0 ∷ []) new = (let P : List Call → Type 0 = λ cs. Run mid cs new in subst P asks.1 runs) in
    let its : IsReply (answer_text (Served asks.0)) = (let P : Answer → Type 0 = λ a. IsReply (answer_text a) in subst P asks.2 reply) in
    let ok = served_ok mid run.0 id Status asks.0 here its run.1 in
    let served : Happens mid (Tenant id Status (Ok ok.0)) run.0 = (let P : Result Receipted NotServed → Type 0 = λ s. Happens mid (Tenant id Status s) run.0 in subst P ok.1 run.1) in
    let rest : IsAtRest ok.0.reply = status_replied mid run.0 id ok.0 kept here none served in
    (subst (IsReplied Wait) (sym (asks.2 ∙ ap Served ok.1)) rest, same_here run.0 new id run.2 (asked_here mid id Status ok.0 run.0 served here))

-- a wait gives no job back, unless memory ran out for it
abbrev GivesNone : SessionLine → List Call → Answer → Type 0
GivesNone Wait calls answer = (answer ≡ Served (Err NoMemory)) ⊎ GivesNoneBack calls
GivesNone line calls answer = ⊤

gives_none : (id : ℕ) (calls : List Call) (answer : Answer) (new : ServiceState) → LeavesNone id Wait calls answer new → GivesNone Wait calls answer
gives_none id calls answer new h1 = grind arith

out_of_memory : (id : ℕ) (answer : Answer) → answer ≡ Served (Err NoMemory) → IsReply (answer_text answer) → ⊥
out_of_memory id answer is reply = reply.0 (ap answer_text is)

abbrev made_calls : List MadeStep → List Call
made_calls made = flat_map (λ (m : MadeStep). m.0) made

wait_ended : (old mid new : ServiceState) (id : ℕ) (steps more calls : List Call) (last : StepOutcome) (answer : Answer) → Kept old → IsHere old id → Waits id steps last → Run old steps mid → EndsWait id last more answer → Run mid more new → calls ≡ steps ++ more → IsReply (answer_text answer) → GivesNone Wait calls answer →
    Ended new id answer
wait_ended old mid new id steps more calls last answer kept here waits first ends next all reply gives = by_last last waits.3 waits.4 ends
  where
    whole : Run old (made_calls waits.0 ++ waits.1) mid
    whole = let P : List Call → Type 0 = λ cs. Run old cs mid in subst P waits.5 first

    parts : (s : ServiceState) × Run old (made_calls waits.0) s × Run s waits.1 mid
    parts = split old (made_calls waits.0) waits.1 mid whole

    now : Kept parts.0
    now = run_keeps old (made_calls waits.0) parts.0 parts.1 kept

    at : IsHere parts.0 id
    at = steps_here old waits.0 parts.0 id waits.2 parts.1 here

    nothing : waits.1 ≡ Take id None ∷ [] → AsksCommand id Status more answer → Ended new id answer
    nothing is asks =
        let run : Run parts.0 (Take id None ∷ []) mid = (let P : List Call → Type 0 = λ cs. Run parts.0 cs mid in subst P is parts.2) in
        let same : mid ≡ parts.0 = run.2 ∙ run.1.1 in
        let P : ServiceState → Type 0 = λ s. IfSome (live_of s.histories id) (λ h. is_takeable (slot_of h) ≡ false) in
        status_ended mid new id more answer (run_keeps parts.0 waits.1 mid parts.2 now) (same_here parts.0 mid id same at) (subst P (sym same) run.1.0) asks reply next

    unfit : MakesStep id waits.1 Unfit → Ended new id answer
    unfit makes = by_gives gives
      where
        by_gives : GivesNone Wait calls answer → Ended new id answer
        by_gives (inl none) = absurd (out_of_memory id answer none reply)
        by_gives (inr none) =
            let both : GivesNoneBack (steps ++ more) = subst GivesNoneBack all none in
            let some : GivesNoneBack (made_calls waits.0 ++ waits.1) = subst GivesNoneBack waits.5 (back_left steps more both) in
            let end : GivesNoneBack waits.1 = back_right (made_calls waits.0) waits.1 some in
            let taken : GivesNoneBack (Take id (Some makes.0) ∷ makes.1) = subst GivesNoneBack makes.3 end in
            let back : GivesNoneBack (GiveBack makes.0 ∷ []) = subst GivesNoneBack makes.2 taken in
            absurd back

    put : (job : JobState) (others : List Call) (answered : Result PutReply (JobStep × AllocError)) → IsOnePut job others answered → waits.1 ≡ Take id (Some job) ∷ others → ((s : ServiceState) (foreign : Bool) → IsTaken parts.0 id (Some job) s → Happens s (Put job.step foreign answered) mid → ⊥) → Ended new id answer
    put job others answered one is never =
        let run : Run parts.0 (Take id (Some job) ∷ Put job.step one.0 answered ∷ []) mid = (let P : List Call → Type 0 = λ cs. Run parts.0 cs mid in subst P (is ∙ ap (λ cs. Take id (Some job) ∷ cs) one.1) parts.2) in
        let last_put : Happens run.0 (Put job.step one.0 answered) mid = (let P : ServiceState → Type 0 = λ s. Happens run.0 (Put job.step one.0 answered) s in subst P (sym run.2.2) run.2.1) in
        absurd (never run.0 one.0 run.1 last_put)

    by_last : (o : StepOutcome) → MakesStep id waits.1 o → EndsSteps o → EndsWait id o more answer → Ended new id answer
    by_last (StepRecorded other) makes stops over = absurd stops
    by_last StepFull makes stops over = put makes.0 makes.1 (Ok Full) makes.2 makes.3 (λ s foreign takes puts. never_full parts.0 s mid id makes.0 foreign now takes puts)
    by_last StepGone makes stops over = put makes.0 makes.1 (Ok Gone) makes.2 makes.3 (λ s foreign takes puts. never_away parts.0 s mid id makes.0 foreign takes puts)
    by_last StepNoMemory makes stops over = absurd (out_of_memory id answer over.1 reply)
    by_last Nothing makes stops over = nothing makes over
    by_last Unfit makes stops over = unfit makes

-- so each item is replied to
no_calls : (old mid : ServiceState) (calls : List Call) → calls ≡ [] → Run old calls mid → mid ≡ old
no_calls old mid calls none runs = let P : List Call → Type 0 = λ cs. Run old cs mid in subst P none runs

pub are_replied : (id : ℕ) (old : ServiceState) (turns : List Turn) (new : ServiceState) → OwnTurns id old turns new → Kept old → IsHere old id → AreReplied id turns → AreAllReplied turns
are_replied id old [] new is kept here fair = tt
are_replied id old (Meanwhile call ∷ turns) new is kept here fair =
    are_replied id is.0 turns new is.3 (kept_after old call is.0 is.2 kept) (others_here old call is.0 id is.1 fair.0 is.2 here) fair.1
are_replied id old (Item Blank calls answer ∷ turns) new is kept here fair =
    (subst (IsReplied Blank) (sym is.1.1) tt, are_replied id is.0 turns new is.4 (run_keeps old calls is.0 is.2 kept) (same_here old is.0 id (no_calls old is.0 calls is.1.0 is.2) here) fair.1)
are_replied id old (Item (Refused refusal) calls answer ∷ turns) new is kept here fair =
    (subst (IsReplied (Refused refusal)) (sym is.1.1) tt, are_replied id is.0 turns new is.4 (run_keeps old calls is.0 is.2 kept) (same_here old is.0 id (no_calls old is.0 calls is.1.0 is.2) here) fair.1)
are_replied id old (Item (Command command) calls answer ∷ turns) new is kept here fair =
    let asks : AsksCommand id command calls answer = is.1 in
    let run : Run old (Tenant id command asks.0 ∷ []) is.0 = (let P : List Call → Type 0 = λ cs. Run old cs is.0 in subst P asks.1 is.2) in
    let its : IsReply (answer_text (Served asks.0)) = (let P : Answer → Type 0 = λ a. IsReply (answer_text a) in subst P asks.2 fair.0) in
    let ok = served_ok old run.0 id command asks.0 here its run.1 in
    let served : Happens old (Tenant id command (Ok ok.0)) run.0 = (let P : Result Receipted NotServed → Type 0 = λ s. Happens old (Tenant id command s) run.0 in subst P ok.1 run.1) in
    let later : IsHere is.0 id = same_here run.0 is.0 id run.2 (asked_here old id command ok.0 run.0 served here) in
    (subst (IsReplied (Command command)) (sym (asks.2 ∙ ap Served ok.1)) tt, are_replied id is.0 turns new is.4 (run_keeps old calls is.0 is.2 kept) later fair.1)
are_replied id old (Item Wait calls answer ∷ turns) new is kept here fair =
    let asks = is.1 in
    let whole : Run old (asks.1 ++ asks.2) is.0 = (let P : List Call → Type 0 = λ cs. Run old cs is.0 in subst P asks.5 is.2) in
    let parts = split old asks.1 asks.2 is.0 whole in
    let ended = wait_ended old parts.0 is.0 id asks.1 asks.2 calls asks.0 answer kept here asks.3 parts.1 asks.4 parts.2 asks.5 fair.0 (gives_none id calls answer is.0 is.3) in
    (ended.0, are_replied id is.0 turns new is.4 (run_keeps old calls is.0 is.2 kept) ended.1 fair.1)
