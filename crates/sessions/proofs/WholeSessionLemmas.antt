-- A whole session is answered what the service for a single user replies.
use Rattle.sessions.proofs.Prelude.{◌≡◌, ◌≢◌, ◌∙◌, ℕ, List, [], ◌∷◌, ◌++◌, map, true, false, eqb, Option, Some, None, Result, Ok, Err, refl, sym, ap, subst, append_assoc, arith, ⊤, option_map, if◌then◌else◌, nat_tests, flat_map-append, map-append, JobState, Status, Event, Advance as Stepped, Reply, State, replies_to, start, state_after, step, state_after-append, Device, NotServed, NoMemory as NotServedNoMemory, JournalFull, NoSuchTenancy, IsServed, History, closed_history, if_own, own_events, Receipted, Call, Happens, Run, IsGivenBackTo, Admit, Evict, Tenant, ServiceState, empty_service, live_of, live_width, with_changed, strip_on, with_tenancy, history_of-modified, history_of-past, history_of-push, SessionLine, Blank, Command, Wait, Refused as RefusedLine, StepOutcome, Recorded, Full, Gone, Nothing, Unfit, Answer, Served, alone_after, alone_text, told_text, Asks, AsksCommand, EndsWait, answer_text, Waits, Heard, IsOthers, Turn, Turns, answer_aside, events_in, heard_by, session_text, text_of_turns, Happened, Item, Meanwhile}
use Rattle.tenant_slot.specs.declared.command.Command.{Command as TenantCommand}
use Rattle.tenant_slot.specs.declared.event.Event.TheVariants.{Command as Asked}
use Rattle.sessions.specs.declared.steps.StepOutcome.TheVariants.{NoMemory as StepNoMemory}
use Rattle.sessions.proofs.EndToEndLemmas.{journal_told, receipt_told, split}
use Rattle.sessions.proofs.StepLemmas.{Run-append}
use Rattle.sessions.proofs.Stepping.{AreStepping, KeepsWidth, wait_stepping}

-- the events of some calls, and then of more
pub own_events-append : (id : ℕ) (xs ys : List Call) → own_events id (xs ++ ys) ≡ own_events id xs ++ own_events id ys
own_events-append id xs ys = grind (arith, flat_map-append, map-append)

alone_after-append : (device : Device) (width id : ℕ) (before calls : List Call) → alone_after device width id (before ++ calls) ≡ state_after (alone_after device width id before) (own_events id calls)
alone_after-append device width id before calls = search (own_events-append, state_after-append, arith)

abbrev AreSteps : List Event → Type 0
AreSteps [] = ⊤
AreSteps (Asked command ∷ events) = ⊥
AreSteps (Stepped made ∷ events) = AreSteps events

own_step : (t id : ℕ) (done : Event) (reply : Option Reply) → AreSteps (done ∷ []) → AreSteps (map (λ (e : Event × Option Reply). e.0) (if_own id t done reply))
own_step t id done reply is = elim (eqb t id) as (λ b. AreSteps (map (λ (e : Event × Option Reply). e.0) (if b then (done, reply) ∷ [] else []))) [ true ↦ is | false ↦ tt ]

abbrev AreOthers : ℕ → List Call → Type 0
AreOthers id [] = ⊤
AreOthers id (call ∷ calls) = IsOthers id call × AreOthers id calls

all_steps : (id : ℕ) (calls : List Call) → AreOthers id calls → AreSteps (own_events id calls)
all_steps id [] are = tt
all_steps id (call ∷ calls) are = grind (arith, all_steps id calls are.1)

-- the steps of a wait ask no command
stepping_others : (id : ℕ) (calls : List Call) → AreStepping calls → AreOthers id calls
stepping_others id [] are = tt
stepping_others id (call ∷ calls) are = grind (arith, stepping_others id calls are.1)

wait_others : (id : ℕ) (calls : List Call) (last : StepOutcome) → Waits id calls last → AreOthers id calls
wait_others id calls last is = stepping_others id calls (wait_stepping id calls last is)

-- a live tenancy stays live and keeps its width unless it is evicted
width_changed : (hs : List History) (t id width : ℕ) (change : History → History) → KeepsWidth change → live_width hs id ≡ Some width → live_width (with_changed hs t change) id ≡ Some width
width_changed hs t id width change keeps was = grind (arith, history_of-modified)

width_of_other : (hs : List History) (t id width : ℕ) → t ≢ id → live_width hs id ≡ Some width → live_width (with_changed hs t closed_history) id ≡ Some width
width_of_other hs t id width differ was = grind (arith, history_of-modified)

width_pushed : (hs : List History) (h : History) (id width : ℕ) → live_width hs id ≡ Some width → live_width (hs ++ h ∷ []) id ≡ Some width
width_pushed hs h id width was = grind (arith, history_of-past, history_of-push)

-- a call that doesn't evict the tenancy
abbrev Spares : ℕ → Call → Type 0
Spares id (Evict t answer) = t ≢ id
Spares id call = ⊤

abbrev Stays : ℕ → ℕ → ServiceState → Type 0
Stays id width state = live_width state.histories id ≡ Some width

unchanged : (id width : ℕ) (old new : ServiceState) → new ≡ old → Stays id width old → Stays id width new
unchanged id width old new same was = let P : ServiceState → Type 0 = λ s. Stays id width s in subst P (sym same) was

changed : (id width t : ℕ) (old new : ServiceState) (change : History → History) → KeepsWidth change → new ≡ record old { histories = with_changed old.histories t change } → Stays id width old → Stays id width new
changed id width t old new change keeps is was = let P : ServiceState → Type 0 = λ s. Stays id width s in subst P (sym is) (width_changed old.histories t id width change keeps was)

given_back : (id width : ℕ) (o : Option History) (old new : ServiceState) (job : JobState) → IsGivenBackTo o old job new → Stays id width old → Stays id width new
given_back id width o old new job is was = grind (arith, changed)

call_stays : (id width : ℕ) (old : ServiceState) (call : Call) (new : ServiceState) → Spares id call → Happens old call new → Stays id width old → Stays id width new
call_stays id width old call new spares is was = search (width_pushed, width_of_other, changed, arith)

abbrev AreSparing : ℕ → List Call → Type 0
AreSparing id [] = ⊤
AreSparing id (call ∷ calls) = Spares id call × AreSparing id calls

others_spare : (id : ℕ) (calls : List Call) → AreOthers id calls → AreSparing id calls
others_spare id [] are = tt
others_spare id (call ∷ calls) are = grind (arith, others_spare id calls are.1)

run_stays : (id width : ℕ) (old : ServiceState) (calls : List Call) (new : ServiceState) → AreSparing id calls → Run old calls new → Stays id width old → Stays id width new
run_stays id width old [] new are run was = unchanged id width old new run was
run_stays id width old (call ∷ calls) new are run was = run_stays id width run.0 calls new are.1 run.2 (call_stays id width old call run.0 are.0 run.1 was)

-- from this state the service for a single user writes this text for what it hears, and is then in
-- that state, whatever it hears later
abbrev Tells : State → List Heard → List ℕ → State → Type 0
Tells old hs text new = (rest : List Heard) → session_text (hs ++ rest) (replies_to old (events_in (hs ++ rest))) ≡ text ++ session_text rest (replies_to new (events_in rest))

tells-append : (a : State) (xs : List Heard) (s : List ℕ) (b : State) (ys : List Heard) (t : List ℕ) (c : State) → Tells a xs s b → Tells b ys t c → Tells a (xs ++ ys) (s ++ t) c
tells-append a xs s b ys t c one two = grind (arith, append_assoc)

tells_steps : (s : State) (events : List Event) → AreSteps events → Tells s (map Happened events) [] (state_after s events)
tells_steps s [] are = λ rest. refl
tells_steps s (Asked command ∷ events) are = absurd are
tells_steps s (Stepped made ∷ events) are = tells_steps (step s (Stepped made)).0 events are

-- a command that was asked of the core
abbrev Ends : Device → ℕ → ℕ → List Call → List Call → Answer → Type 0
Ends device width id before calls answer =
    let s = alone_after device width id before in Tells s (map Happened (own_events id calls) ++ answer_aside answer) (answer_text answer) (state_after s (own_events id calls))

own_asked : (id : ℕ) (command : TenantCommand) (reply : Option Reply) → map (λ (e : Event × Option Reply). e.0) (if_own id id (Asked command) reply ++ []) ≡ Asked command ∷ []
own_asked id command reply = let same : eqb id id ≡ true = grind (arith, nat_tests) in rw same refl

tells_command : (s : State) (events : List Event) (command : TenantCommand) (text : List ℕ) → events ≡ Asked command ∷ [] → text ≡ told_text (step s (Asked command)).1 → Tells s (map Happened events ++ []) text (state_after s events)
tells_command s events command text is told = rw (is, told) (λ rest. refl)

told_alone : (device : Device) (before : List Call) (old : ServiceState) (id width : ℕ) (command : TenantCommand) (text : List ℕ) → Stays id width old → text ≡ alone_text device (live_width old.histories id) id before command → text ≡ told_text (step (alone_after device width id before) (Asked command)).1
told_alone device before old id width command text stays is = is ∙ ap (λ w. alone_text device w id before command) stays

not_live : (old : ServiceState) (id width : ℕ) → Stays id width old → live_of old.histories id ≡ None → ⊥
not_live old id width stays none = let never : None ≡ Some width = sym (ap (λ (o : Option History). option_map (λ h. h.strip.width) o) none) ∙ stays in cc

served_ends : (device : Device) (before : List Call) (old new : ServiceState) (id width : ℕ) (command : TenantCommand) (served : Result Receipted NotServed) → Run (empty_service device) before old → Stays id width old → IsServed old id command served new →
    Ends device width id before (Tenant id command served ∷ []) (Served served)
served_ends device before old new id width command (Ok r) runs stays is =
    tells_command _ _ command _ (own_asked id command (Some r.reply)) (told_alone device before old id width command _ stays (receipt_told device before old new id command r runs is))
served_ends device before old new id width command (Err (JournalFull note)) runs stays is =
    tells_command _ _ command _ (own_asked id command None) (told_alone device before old id width command _ stays (journal_told device before old id command note new runs is))
served_ends device before old new id width command (Err (NoSuchTenancy note)) runs stays is = absurd (not_live old id width stays is.1)
served_ends device before old new id width command (Err NotServedNoMemory) runs stays is = λ rest. refl

asked_ends : (device : Device) (before calls : List Call) (old new : ServiceState) (id width : ℕ) (command : TenantCommand) (answer : Answer) → Run (empty_service device) before old → Stays id width old → AsksCommand id command calls answer → Run old calls new →
    Ends device width id before calls answer
asked_ends device before calls old new id width command answer runs stays asks next =
    let call : Run old (Tenant id command asks.0 ∷ []) new = (let P : List Call → Type 0 = λ cs. Run old cs new in subst P asks.1 next) in
    rw (asks.1, asks.2) (served_ends device before old call.0 id width command asks.0 runs stays call.1)

wait_ends : (device : Device) (before calls : List Call) (old new : ServiceState) (id width : ℕ) (last : StepOutcome) (answer : Answer) → Run (empty_service device) before old → Stays id width old → EndsWait id last calls answer → Run old calls new →
    Ends device width id before calls answer
wait_ends device before calls old new id width (Recorded reply) answer runs stays ends next = asked_ends device before calls old new id width Status answer runs stays ends next
wait_ends device before calls old new id width Full answer runs stays ends next = asked_ends device before calls old new id width Status answer runs stays ends next
wait_ends device before calls old new id width Gone answer runs stays ends next = asked_ends device before calls old new id width Status answer runs stays ends next
wait_ends device before calls old new id width StepNoMemory answer runs stays ends next = rw (ends.0, ends.1) (λ rest. refl)
wait_ends device before calls old new id width Nothing answer runs stays ends next = asked_ends device before calls old new id width Status answer runs stays ends next
wait_ends device before calls old new id width Unfit answer runs stays ends next = asked_ends device before calls old new id width Status answer runs stays ends next

-- steps of others, and then an answer
steps_then : (device : Device) (width id : ℕ) (before steps more : List Call) (answer : Answer) → AreOthers id steps → Ends device width id (before ++ steps) more answer → Ends device width id before (steps ++ more) answer
steps_then device width id before steps more answer are ends = grind (arith, map-append, append_assoc, alone_after-append, state_after-append, tells_steps, all_steps, tells-append, own_events-append id steps more, map-append Happened (own_events id steps) (own_events id more), append_assoc (map Happened (own_events id steps)) (map Happened (own_events id more)) (answer_aside answer), alone_after-append device width id before steps, all_steps id steps are)

AreSparing-append : (id : ℕ) (xs ys : List Call) → AreSparing id xs → AreSparing id ys → AreSparing id (xs ++ ys)
AreSparing-append id [] ys a b = b
AreSparing-append id (x ∷ xs) ys a b = (a.0, AreSparing-append id xs ys a.1 b)

end_spares : (id : ℕ) (last : StepOutcome) (calls : List Call) (answer : Answer) → EndsWait id last calls answer → AreSparing id calls
end_spares id (Recorded reply) calls answer ends = rw ends.1 (tt, tt)
end_spares id Full calls answer ends = rw ends.1 (tt, tt)
end_spares id Gone calls answer ends = rw ends.1 (tt, tt)
end_spares id StepNoMemory calls answer ends = rw ends.0 tt
end_spares id Nothing calls answer ends = rw ends.1 (tt, tt)
end_spares id Unfit calls answer ends = rw ends.1 (tt, tt)

-- an item leads to its answer
item_ends : (device : Device) (before calls : List Call) (old new : ServiceState) (id width : ℕ) (line : SessionLine) (answer : Answer) → Run (empty_service device) before old → Stays id width old → Asks id line calls answer → Run old calls new →
    Ends device width id before calls answer × AreSparing id calls
item_ends device before calls old new id width Blank answer runs stays asks next = (rw (asks.0, asks.1) (λ rest. refl), rw asks.0 tt)
item_ends device before calls old new id width (RefusedLine refusal) answer runs stays asks next = (rw (asks.0, asks.1) (λ rest. refl), rw asks.0 tt)
item_ends device before calls old new id width (Command command) answer runs stays asks next = (asked_ends device before calls old new id width command answer runs stays asks next, rw asks.1 (tt, tt))
item_ends device before calls old new id width Wait answer runs stays asks next =
    let steps = asks.1 in
    let more = asks.2 in
    let others = wait_others id steps asks.0 asks.3 in
    let whole : Run old (steps ++ more) new = (let P : List Call → Type 0 = λ cs. Run old cs new in subst P asks.5 next) in
    let parts = split old steps more new whole in
    let stays' = run_stays id width old steps parts.0 (others_spare id steps others) parts.1 stays in
    let ends = wait_ends device (before ++ steps) more parts.0 new id width asks.0 answer (Run-append (empty_service device) before old steps parts.0 runs parts.1) stays' asks.4 parts.2 in
    let P : List Call → Type 0 = λ cs. Ends device width id before cs answer in
    let Q : List Call → Type 0 = λ cs. AreSparing id cs in
    (subst P (sym asks.5) (steps_then device width id before steps more answer others ends), subst Q (sym asks.5) (AreSparing-append id steps more (others_spare id steps others) (end_spares id asks.0 more answer asks.4)))

-- all turns of a session are answered what the service for a single user replies
pub turns_told : (device : Device) (before : List Call) (old new : ServiceState) (id width : ℕ) (turns : List Turn) → Run (empty_service device) before old → live_width old.histories id ≡ Some width → Turns id old turns new →
    text_of_turns turns ≡ session_text (heard_by id turns) (replies_to (alone_after device width id before) (events_in (heard_by id turns)))
turns_told device before old new id width [] runs stays turns = refl
turns_told device before old new id width (Item line calls answer ∷ rest) runs stays turns =
    let s = alone_after device width id before in
    let item = item_ends device before calls old turns.0 id width line answer runs stays turns.1 turns.2 in
    let more = turns_told device (before ++ calls) turns.0 new id width rest (Run-append (empty_service device) before old calls turns.0 runs turns.2) (run_stays id width old calls turns.0 item.1 turns.2 stays) turns.3 in
    let after : alone_after device width id (before ++ calls) ≡ state_after s (own_events id calls) = alone_after-append device width id before calls in
    ap (λ text. answer_text answer ++ text) (more ∙ ap (λ m. session_text (heard_by id rest) (replies_to m (events_in (heard_by id rest)))) after) ∙ sym (item.0 (heard_by id rest))
turns_told device before old new id width (Meanwhile call ∷ rest) runs stays turns =
    let s = alone_after device width id before in
    let calls = call ∷ [] in
    let next : Run old calls turns.0 = (turns.0, turns.2, refl) in
    let others : AreOthers id calls = (turns.1, tt) in
    let more = turns_told device (before ++ calls) turns.0 new id width rest (Run-append (empty_service device) before old calls turns.0 runs next) (run_stays id width old calls turns.0 (others_spare id calls others) next stays) turns.3 in
    let after : alone_after device width id (before ++ calls) ≡ state_after s (own_events id calls) = alone_after-append device width id before calls in
    let tells = tells_steps s (own_events id calls) (all_steps id calls others) in
    more ∙ ap (λ m. session_text (heard_by id rest) (replies_to m (events_in (heard_by id rest)))) after ∙ sym (tells (heard_by id rest))

-- a core with that tenancy alone, from its admission on
pub one_tenancy : (device : Device) (width offset : ℕ) (old new : ServiceState) (turns : List Turn) → Run (empty_service device) (Admit width (Ok (1, offset)) ∷ []) old → Turns 1 old turns new →
    text_of_turns turns ≡ session_text (heard_by 1 turns) (replies_to (start device.arch (strip_on device width)) (events_in (heard_by 1 turns)))
one_tenancy device width offset old new turns runs told =
    let is : old ≡ with_tenancy (empty_service device) width offset = runs.2 ∙ runs.1.3 in
    let live : live_width old.histories 1 ≡ Some width = (let P : ServiceState → Type 0 = λ s. Stays 1 width s in subst P (sym is) refl) in
    turns_told device (Admit width (Ok (1, offset)) ∷ []) old new 1 width turns runs live told
