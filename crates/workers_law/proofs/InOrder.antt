-- Without workers, the text of a session that waits is the same function of its items.
use Rattle.workers_law.proofs.Prelude.{◌≡◌, ◌≢◌, ℕ, List, [], ◌∷◌, ◌++◌, map, Bool, true, false, eqb, Option, Some, None, Result, Ok, Err, refl, sym, ap, ◌∙◌, subst, append_assoc, arith, All, if◌then◌else◌, flat_map, nat_tests, flat_map-append, All-append, All-head, All-nil, All-same, All-tail, Command as TenantCommand, Status, Advance, Event, Reply, Step, State, answer_to, kind_that_runs, start, state_after, step, Device, NotServed, NoMemory, JournalFull, NoSuchTenancy, Recorded, Full, Gone, own_events, own_exchange, own_exchanges, Receipted, Call, Run, Admit, Evict, Move, Tenant, Take, Put, GiveBack, Owners, ServiceState, empty_service, live_width, strip_on, Kept, run_keeps, IsService-empty, SessionLine, Blank, Wait, Refused, StepOutcome, Answer, Served, AsksCommand, EndsWait, answer_text, reply_text, session_refusal_text, MadeStep, MakesStep, Waits, IsOthers, Turn, Turns, Item, Meanwhile, text_of_turns, Run-append, after_command, begins_job, after_last_step, waited_text, waits_for_each, AreReplied, OwnTurns, items_in}
use Rattle.tenant_slot.specs.declared.event.Event.TheVariants.{Command as Asked, Advance as Stepped}
use Rattle.sessions.specs.declared.line.SessionLine.TheVariants.{Command}
use Rattle.sessions.specs.declared.steps.StepOutcome.TheVariants.{Recorded as StepRecorded}
use Rattle.workers_law.proofs.Replied.{AreAllReplied, IsReplied, are_replied, first_here}
use Rattle.workers_law.proofs.Ahead.{NoneAsked, NotAsked, step_none}
use Rattle.workers_law.proofs.States.{AreAlike, alike-name, ended-rests, status_rests}
use Rattle.workers_law.proofs.Waiting.{Agree, Exchanges, Shows, agree_steps, agree_stepped, answered, both_hold, free_alike, none_asked_steps, shows_rest}
use Rattle.workers_law.proofs.WithWorkers.{shows_after}

-- all calls of the turns
abbrev calls_in : List Turn → List Call
calls_in [] = []
calls_in (Item line calls answer ∷ turns) = calls ++ calls_in turns
calls_in (Meanwhile call ∷ turns) = call ∷ calls_in turns

turns_run : (id : ℕ) (old : ServiceState) (turns : List Turn) (new : ServiceState) → Turns id old turns new → Run old (calls_in turns) new
turns_run id old [] new is = is
turns_run id old (Item line calls answer ∷ turns) new is = Run-append old calls is.0 (calls_in turns) new is.2 (turns_run id is.0 turns new is.3)
turns_run id old (Meanwhile call ∷ turns) new is = (is.0, is.2, turns_run id is.0 turns new is.3)

-- the state after a call that others make, and what follows
abbrev Goes : Bool → State → Exchanges → Type 0
Goes begun t rest = (s : State) × Agree begun s t × Shows s rest

stays : (begun : Bool) (s t : State) (rest : Exchanges) → Agree begun s t → Shows s rest → Goes begun t rest
stays begun s t rest agree shows = (s, agree, shows)

not_own : (b : Bool) (begun : Bool) (s t : State) (event : Event) (reply : Option Reply) (rest : Exchanges) → b ≡ false → Agree begun s t → Shows s ((if b then (event, reply) ∷ [] else []) ++ rest) → Goes begun t rest
not_own b begun s t event reply rest other agree shows = grind arith

a_step : (b : Bool) (begun : Bool) (s t : State) (made : Advance) (reply : Option Reply) (rest : Exchanges) → Agree begun s t → Shows s ((if b then (Stepped made, reply) ∷ [] else []) ++ rest) → Goes begun t rest
a_step true begun s t made reply rest agree shows = stays begun (step s (Stepped made)).0 t rest (agree_stepped begun s t made agree) shows.1
a_step false begun s t made reply rest agree shows = stays begun s t rest agree shows

differ : (t id : ℕ) → t ≢ id → eqb t id ≡ false
differ t id apart = grind (arith, nat_tests)

meanwhile : (id : ℕ) (begun : Bool) (call : Call) (s t : State) (rest : Exchanges) → IsOthers id call → Agree begun s t → Shows s (own_exchange id call ++ rest) → Goes begun t rest
meanwhile id begun (Admit width answer) s t rest others agree shows = stays begun s t rest agree shows
meanwhile id begun (Evict u answer) s t rest others agree shows = stays begun s t rest agree shows
meanwhile id begun (Move u offset answer) s t rest others agree shows = stays begun s t rest agree shows
meanwhile id begun (Tenant u command (Ok r)) s t rest others agree shows = not_own (eqb u id) begun s t (Asked command) (Some r.reply) rest (differ u id others) agree shows
meanwhile id begun (Tenant u command (Err (JournalFull note))) s t rest others agree shows = not_own (eqb u id) begun s t (Asked command) None rest (differ u id others) agree shows
meanwhile id begun (Tenant u command (Err (NoSuchTenancy note))) s t rest others agree shows = stays begun s t rest agree shows
meanwhile id begun (Tenant u command (Err NoMemory)) s t rest others agree shows = stays begun s t rest agree shows
meanwhile id begun (Take u answer) s t rest others agree shows = stays begun s t rest agree shows
meanwhile id begun (Put done foreign (Ok (Recorded reply))) s t rest others agree shows = a_step (eqb done.id id) begun s t _ (Some (Step reply)) rest agree shows
meanwhile id begun (Put done foreign (Ok Full)) s t rest others agree shows = a_step (eqb done.id id) begun s t _ None rest agree shows
meanwhile id begun (Put done foreign (Ok Gone)) s t rest others agree shows = stays begun s t rest agree shows
meanwhile id begun (Put done foreign (Err back)) s t rest others agree shows = stays begun s t rest agree shows
meanwhile id begun (GiveBack job) s t rest others agree shows = stays begun s t rest agree shows
meanwhile id begun (Owners list) s t rest others agree shows = stays begun s t rest agree shows

-- the steps of a wait ask no command
made_none : (id : ℕ) (made : List MadeStep) → All (λ (m : MadeStep). MakesStep id m.0 (StepRecorded m.1)) made → NoneAsked (flat_map (λ (m : MadeStep). m.0) made)
made_none id [] all = All-nil NotAsked
made_none id (m ∷ made) all =
    All-append NotAsked m.0 (flat_map (λ (m : MadeStep). m.0) made) (step_none id m.0 (StepRecorded m.1) (All-head (λ (m : MadeStep). MakesStep id m.0 (StepRecorded m.1)) m made all))
    (made_none id made (All-tail (λ (m : MadeStep). MakesStep id m.0 (StepRecorded m.1)) m made all))

wait_none : (id : ℕ) (calls : List Call) (last : StepOutcome) → Waits id calls last → NoneAsked calls
wait_none id calls last is = All-same NotAsked calls _ is.5 (All-append NotAsked (flat_map (λ (m : MadeStep). m.0) is.0) is.1 (made_none id is.0 is.2) (step_none id is.1 last is.3))

-- a command that was asked
abbrev Line : ℕ → SessionLine → TenantCommand → List Call → Answer → State → Exchanges → Type 0
Line id line command calls answer s rest = (r : Receipted) × (answer ≡ Served (Ok r)) × ((step s (Asked command)).1 ≡ Some r.reply) × Shows (step s (Asked command)).0 rest × IsReplied line (Served (Ok r))

own_one : (id : ℕ) (command : TenantCommand) (r : Receipted) → own_exchanges id (Tenant id command (Ok r) ∷ []) ≡ (Asked command, Some r.reply) ∷ []
own_one id command r = let e : eqb id id ≡ true = grind (arith, nat_tests) in ap (λ b. (if b then (Asked command, Some r.reply) ∷ [] else []) ++ []) e

served_line : (id : ℕ) (line : SessionLine) (command : TenantCommand) (served : Result Receipted NotServed) (s : State) (rest : Exchanges) → ((e : NotServed) → IsReplied line (Served (Err e)) → ⊥) → IsReplied line (Served served) →
    Shows s (own_exchanges id (Tenant id command served ∷ []) ++ rest) → Line id line command (Tenant id command served ∷ []) (Served served) s rest
served_line id line command (Err e) s rest never replied shows = absurd (never e replied)
served_line id line command (Ok r) s rest never replied shows = grind arith

asked_line : (id : ℕ) (line : SessionLine) (command : TenantCommand) (calls : List Call) (answer : Answer) (s : State) (rest : Exchanges) → ((e : NotServed) → IsReplied line (Served (Err e)) → ⊥) → AsksCommand id command calls answer → IsReplied line answer →
    Shows s (own_exchanges id calls ++ rest) → Line id line command calls answer s rest
asked_line id line command calls answer s rest never asks replied shows = grind (arith, served_line)

status_line : (id : ℕ) (last : StepOutcome) (calls : List Call) (answer : Answer) → EndsWait id last calls answer → IsReplied Wait answer → AsksCommand id Status calls answer
status_line id last calls answer is replied = grind arith

split_shows : (id : ℕ) (s : State) (calls more : List Call) → Shows s (own_exchanges id (calls ++ more)) → Shows s (own_exchanges id calls ++ own_exchanges id more)
split_shows id s calls more shows = subst (Shows s) (flat_map-append (own_exchange id) calls more) shows

no_calls : (id : ℕ) (s : State) (calls more : List Call) → calls ≡ [] → Shows s (own_exchanges id (calls ++ more)) → Shows s (own_exchanges id more)
no_calls id s calls more none shows = subst (λ cs. Shows s (own_exchanges id (cs ++ more))) none shows

-- a receipt of that command
abbrev receipt_of : TenantCommand → Receipted → Receipted
receipt_of command r = record r { command = command }

pub turns_text : (id : ℕ) (turns : List Turn) (s t : State) (begun : Bool) (old new : ServiceState) → Turns id old turns new → AreAllReplied turns → waits_for_each begun (items_in turns) ≡ true → Agree begun s t →
    Shows s (own_exchanges id (calls_in turns)) → text_of_turns turns ≡ waited_text t (items_in turns)
turns_text id [] s t begun old new is replied waits agree shows = refl
turns_text id (Meanwhile call ∷ turns) s t begun old new is replied waits agree shows =
    let goes = meanwhile id begun call s t (own_exchanges id (calls_in turns)) is.1 agree shows in
    turns_text id turns goes.0 t begun is.0 new is.3 replied waits goes.1 goes.2
turns_text id (Item Blank calls answer ∷ turns) s t begun old new is replied waits agree shows =
    ap (λ a. answer_text a ++ text_of_turns turns) is.1.1 ∙ turns_text id turns s t begun is.0 new is.3 replied.1 waits agree (no_calls id s calls (calls_in turns) is.1.0 shows)
turns_text id (Item (Refused f) calls answer ∷ turns) s t begun old new is replied waits agree shows =
    ap (λ a. answer_text a ++ text_of_turns turns) is.1.1 ∙ ap (λ text. session_refusal_text f ++ text) (turns_text id turns s t begun is.0 new is.3 replied.1 waits agree (no_calls id s calls (calls_in turns) is.1.0 shows))
turns_text id (Item (Command command) calls answer ∷ turns) s t begun old new is replied waits agree shows =
    let goes = both_hold begun (waits_for_each (begins_job command) (items_in turns)) waits in
    let free : Agree false s t = subst (λ b. Agree b s t) goes.0 agree in
    let rest : Exchanges = own_exchanges id (calls_in turns) in
    let line = asked_line id (Command command) command calls answer s rest (λ e never. never) is.1 replied.0 (split_shows id s calls (calls_in turns) shows) in
    let one = answered s t command (receipt_of command line.0) refl (free_alike s t free) (free.rest refl).1 line.2 in
    ap (λ a. answer_text a ++ text_of_turns turns) line.1 ∙ (ap (λ text. text ++ text_of_turns turns) one.text ∙ ap (λ text. reply_text (answer_to t (Asked command)).1 ++ text)
    (turns_text id turns (step s (Asked command)).0 (after_command t command) (begins_job command) is.0 new is.3 replied.1 goes.1 one.agree line.3))
turns_text id (Item Wait calls answer ∷ turns) s t begun old new is replied waits agree shows =
    let asks = is.1 in
    let steps : List Call = asks.1 in
    let rest : Exchanges = own_exchanges id (calls_in turns) in
    let all : Shows s (own_exchanges id calls ++ rest) = split_shows id s calls (calls_in turns) shows in
    let cut : Shows s (own_exchanges id (steps ++ asks.2) ++ rest) = subst (λ cs. Shows s (own_exchanges id cs ++ rest)) asks.5 all in
    let parts : Shows s ((own_exchanges id steps ++ own_exchanges id asks.2) ++ rest) = subst (λ xs. Shows s (xs ++ rest)) (flat_map-append (own_exchange id) steps asks.2) cut in
    let whole : Shows s (own_exchanges id steps ++ (own_exchanges id asks.2 ++ rest)) = subst (Shows s) (append_assoc (own_exchanges id steps) (own_exchanges id asks.2) rest) parts in
    let s1 : State = state_after s (map (λ (x : Event × Option Reply). x.0) (own_exchanges id steps)) in
    let later : Shows s1 (own_exchanges id asks.2 ++ rest) = shows_rest s (own_exchanges id steps) (own_exchanges id asks.2 ++ rest) whole in
    let agree1 : Agree begun s1 t = agree_steps begun s t (own_exchanges id steps) (none_asked_steps id steps (wait_none id steps asks.0 asks.3)) agree in
    let line = asked_line id Wait Status asks.2 answer s1 rest (λ e never. never) (status_line id asks.0 asks.2 answer asks.4 replied.0) replied.0 later in
    let rests : kind_that_runs s1.name ≡ None = status_rests s1 line.0.reply line.2 line.4 in
    let alike : AreAlike s1 (after_last_step t) = subst (λ x. AreAlike x (after_last_step t)) (ended-rests s1 rests) agree1.alike in
    let over : kind_that_runs (after_last_step t).name ≡ None = ap kind_that_runs (sym (alike-name s1 (after_last_step t) alike)) ∙ rests in
    let one = answered s1 (after_last_step t) Status (receipt_of Status line.0) refl alike over line.2 in
    ap (λ a. answer_text a ++ text_of_turns turns) line.1 ∙ (ap (λ text. text ++ text_of_turns turns) one.text ∙ ap (λ text. reply_text (answer_to (after_last_step t) (Asked Status)).1 ++ text)
    (turns_text id turns (step s1 (Asked Status)).0 (after_command (after_last_step t) Status) false is.0 new is.3 replied.1 waits one.agree line.3))

-- the whole session
plain : (id : ℕ) (old : ServiceState) (turns : List Turn) (new : ServiceState) → OwnTurns id old turns new → Turns id old turns new
plain id old [] new is = is
plain id old (Item line calls answer ∷ turns) new is = (is.0, is.1, is.2, plain id is.0 turns new is.4)
plain id old (Meanwhile call ∷ turns) new is = (is.0, is.1, is.2, plain id is.0 turns new is.3)

pub same_text : (device : Device) (before : List Call) (old new : ServiceState) (id width : ℕ) (turns : List Turn) → Run (empty_service device) before old → own_events id before ≡ [] → live_width old.histories id ≡ Some width → OwnTurns id old turns new →
    waits_for_each false (items_in turns) ≡ true → AreReplied id turns → text_of_turns turns ≡ waited_text (start device.arch (strip_on device width)) (items_in turns)
same_text device before old new id width turns first nothing live own waits fair =
    let is : Turns id old turns new = plain id old turns new own in
    let begin : State = start device.arch (strip_on device width) in
    let kept : Kept old = run_keeps (empty_service device) before old first (IsService-empty device) in
    let replied : AreAllReplied turns = are_replied id old turns new own kept (first_here device before old id width first nothing live) fair in
    let shows : Shows (state_after begin (own_events id before)) (own_exchanges id (calls_in turns)) = shows_after device before (calls_in turns) old new id width first (turns_run id old turns new is) live in
    turns_text id turns begin begin false old new is replied waits (record { alike = refl; rest = λ free. (refl, refl) }) (subst (λ events. Shows (state_after begin events) (own_exchanges id (calls_in turns))) nothing shows)
