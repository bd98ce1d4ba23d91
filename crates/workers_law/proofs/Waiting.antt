-- The text of a session that waits for each of its jobs.
use Rattle.workers_law.proofs.Prelude.{◌≡◌, ℕ, List, [], ◌∷◌, ◌++◌, map, Bool, true, false, eqb, Option, Some, None, Ok, Err, refl, sym, ap, ◌∙◌, subst, arith, All, ⊤, ◌&&◌, if◌then◌else◌, AllZip, All-head, All-nil, All-tail, Command as TenantCommand, Status, Advance, Event, Reply, Step, State, answer_to, replies_to, kind_that_runs, state_after, step, Recorded, Full, Gone, own_exchanges, Noted, Receipted, Call, Run, Admit, Evict, Move, Tenant, Take, Put, GiveBack, Owners, ServiceState, SessionLine, Blank, Wait, Refused, reply_text, own_receipts, IsOfThreads, ItemAnswer, Receipt, Note, IsTold, place_text, told_text, told_texts, receipts_told, IsReply, after_command, begins_job, after_last_step, waited_text, waits_for_each}
use Rattle.std.specs.Prelude.{not}
use Rattle.tenant_slot.specs.declared.event.Event.TheVariants.{Command as Asked, Advance as Stepped}
use Rattle.service_core.specs.declared.not_served.NoteCause.TheVariants.{JournalFull}
use Rattle.sessions.specs.declared.line.SessionLine.TheVariants.{Command}
use Rattle.transcripts.specs.declared.item.ItemAnswer.TheVariants.{Refused as RefusedPlace}
use Rattle.workers_law.proofs.Ahead.{NoneAsked, NotAsked}
use Rattle.workers_law.proofs.States.{AreAlike, alike-ended, alike-name, asked_alike, command_rests, ended-rests, status_rests, stepped_alike}

abbrev pub Exchanges : Type 0
Exchanges = List (Event × Option Reply)

abbrev head_or : {A : Type 0} → A → List A → A
head_or d [] = d
head_or d (x ∷ xs) = x

abbrev tail_of : {A : Type 0} → List A → List A
tail_of [] = []
tail_of (x ∷ xs) = xs

-- each exchange has the reply that its event gets
abbrev pub Shows : State → Exchanges → Type 0
Shows s [] = ⊤
Shows s (x ∷ xs) = (x.1 ≡ (step s x.0).1) × Shows (step s x.0).0 xs

pub shows_of : (s : State) (xs : Exchanges) → map (λ (x : Event × Option Reply). x.1) xs ≡ replies_to s (map (λ (x : Event × Option Reply). x.0) xs) → Shows s xs
shows_of s [] is = tt
shows_of s (x ∷ xs) is = (ap (head_or x.1) is, shows_of (step s x.0).0 xs (ap tail_of is))

pub shows_rest : (s : State) (xs ys : Exchanges) → Shows s (xs ++ ys) → Shows (state_after s (map (λ (x : Event × Option Reply). x.0) xs)) ys
shows_rest s [] ys is = is
shows_rest s (x ∷ xs) ys is = shows_rest (step s x.0).0 xs ys is.1

-- the tenancy's state, and the one that the definition has; `begun` says whether a command that may
-- begin a job came, and no `wait` since
pub record Agree (begun : Bool) (s t : State) : Type 0 where
  pub alike : AreAlike (after_last_step s) (after_last_step t)
  pub rest : begun ≡ false → (kind_that_runs s.name ≡ None) × (kind_that_runs t.name ≡ None)

pub agree_stepped : (begun : Bool) (s t : State) (made : Advance) → Agree begun s t → Agree begun (step s (Stepped made)).0 t
agree_stepped begun s t made agree = grind (arith, stepped_alike)

-- events that are no commands
abbrev pub AreSteps : Exchanges → Type 0
AreSteps [] = ⊤
AreSteps (x ∷ xs) = ((made : Advance) × (x.0 ≡ Stepped made)) × AreSteps xs

pub agree_steps : (begun : Bool) (s t : State) (xs : Exchanges) → AreSteps xs → Agree begun s t → Agree begun (state_after s (map (λ (x : Event × Option Reply). x.0) xs)) t
agree_steps begun s t [] are agree = agree
agree_steps begun s t (x ∷ xs) are agree =
    let P : Event → Type 0 = λ e. Agree begun (step s e).0 t in
    agree_steps begun (step s x.0).0 t xs are.1 (subst P (sym are.0.1) (agree_stepped begun s t are.0.0 agree))

pub none_asked_steps : (id : ℕ) (calls : List Call) → NoneAsked calls → AreSteps (own_exchanges id calls)
none_asked_steps id [] none = tt
none_asked_steps id (Admit width answer ∷ calls) none = none_asked_steps id calls (All-tail NotAsked (Admit width answer) calls none)
none_asked_steps id (Evict t answer ∷ calls) none = none_asked_steps id calls (All-tail NotAsked (Evict t answer) calls none)
none_asked_steps id (Move t offset answer ∷ calls) none = none_asked_steps id calls (All-tail NotAsked (Move t offset answer) calls none)
none_asked_steps id (Tenant t command served ∷ calls) none = absurd (All-head NotAsked (Tenant t command served) calls none)
none_asked_steps id (Take t answer ∷ calls) none = none_asked_steps id calls (All-tail NotAsked (Take t answer) calls none)
none_asked_steps id (Put done foreign (Ok (Recorded reply)) ∷ calls) none = grind (arith, none_asked_steps id calls (All-tail NotAsked (Put done foreign (Ok (Recorded reply))) calls none))
none_asked_steps id (Put done foreign (Ok Full) ∷ calls) none = grind (arith, none_asked_steps id calls (All-tail NotAsked (Put done foreign (Ok Full)) calls none))
none_asked_steps id (Put done foreign (Ok Gone) ∷ calls) none = none_asked_steps id calls (All-tail NotAsked (Put done foreign (Ok Gone)) calls none)
none_asked_steps id (Put done foreign (Err back) ∷ calls) none = none_asked_steps id calls (All-tail NotAsked (Put done foreign (Err back)) calls none)
none_asked_steps id (GiveBack job ∷ calls) none = none_asked_steps id calls (All-tail NotAsked (GiveBack job) calls none)
none_asked_steps id (Owners list ∷ calls) none = none_asked_steps id calls (All-tail NotAsked (Owners list) calls none)

-- a call of threads; a receipt has the command that was asked
abbrev pub IsFair : Call → Type 0
IsFair (Tenant t command (Ok r)) = r.command ≡ command
IsFair (Take t answer) = ⊤
IsFair (Put done foreign answer) = ⊤
IsFair (GiveBack job) = ⊤
IsFair call = ⊥

pub fair_calls : (a : ServiceState) (calls : List Call) (b : ServiceState) → All IsOfThreads calls → Run a calls b → All IsFair calls
fair_calls a [] b kinds run = All-nil IsFair
fair_calls a (call ∷ calls) b kinds run = grind (arith, fair_calls run.0 calls b (All-tail IsOfThreads call calls kinds) run.2)

-- the state in which the next command is asked, and what follows
pub record Next (id : ℕ) (begun : Bool) (t : State) (r : Receipted) (rs : List Receipted) : Type 0 where
  pub s : State
  pub agree : Agree begun s t
  pub told : (step s (Asked r.command)).1 ≡ Some r.reply
  pub calls : List Call
  pub fair : All IsFair calls
  pub shows : Shows (step s (Asked r.command)).0 (own_exchanges id calls)
  pub rest : own_receipts id calls ≡ rs

-- the same for later calls, from any state
abbrev Later : ℕ → Bool → State → Receipted → List Receipted → List Call → Type 0
Later id begun t r rs calls = (s : State) → Shows s (own_exchanges id calls) → own_receipts id calls ≡ r ∷ rs → Agree begun s t → Next id begun t r rs

at_command : (b : Bool) (id : ℕ) (begun : Bool) (s t : State) (command : TenantCommand) (q r : Receipted) (rs : List Receipted) (calls : List Call) → q.command ≡ command → All IsFair calls →
    Shows s ((if b then (Asked command, Some q.reply) ∷ [] else []) ++ own_exchanges id calls) → (if b then q ∷ [] else []) ++ own_receipts id calls ≡ r ∷ rs → Agree begun s t → Later id begun t r rs calls → Next id begun t r rs
at_command b id begun s t command q r rs calls same fair shows is agree later = grind arith

at_put : (b : Bool) (id : ℕ) (begun : Bool) (s t : State) (made : Advance) (reply : Option Reply) (r : Receipted) (rs : List Receipted) (calls : List Call) →
    Shows s ((if b then (Stepped made, reply) ∷ [] else []) ++ own_exchanges id calls) → own_receipts id calls ≡ r ∷ rs → Agree begun s t → Later id begun t r rs calls → Next id begun t r rs
at_put false id begun s t made reply r rs calls shows is agree later = later s shows is agree
at_put true id begun s t made reply r rs calls shows is agree later = later (step s (Stepped made)).0 shows.1 is (agree_stepped begun s t made agree)

next_receipt : (id : ℕ) (begun : Bool) (calls : List Call) (s t : State) (r : Receipted) (rs : List Receipted) → All IsFair calls → Shows s (own_exchanges id calls) → own_receipts id calls ≡ r ∷ rs → Agree begun s t → Next id begun t r rs
next_receipt id begun [] s t r rs fair shows is agree = cc
next_receipt id begun (Admit width answer ∷ calls) s t r rs fair shows is agree = absurd (All-head IsFair (Admit width answer) calls fair)
next_receipt id begun (Evict u answer ∷ calls) s t r rs fair shows is agree = absurd (All-head IsFair (Evict u answer) calls fair)
next_receipt id begun (Move u offset answer ∷ calls) s t r rs fair shows is agree = absurd (All-head IsFair (Move u offset answer) calls fair)
next_receipt id begun (Tenant u command (Err refusal) ∷ calls) s t r rs fair shows is agree = absurd (All-head IsFair (Tenant u command (Err refusal)) calls fair)
next_receipt id begun (Tenant u command (Ok q) ∷ calls) s t r rs fair shows is agree =
    let more : All IsFair calls = All-tail IsFair (Tenant u command (Ok q)) calls fair in
    at_command (eqb u id) id begun s t command q r rs calls (All-head IsFair (Tenant u command (Ok q)) calls fair) more shows is agree (λ s' shows' is' agree'. next_receipt id begun calls s' t r rs more shows' is' agree')
next_receipt id begun (Take u answer ∷ calls) s t r rs fair shows is agree = next_receipt id begun calls s t r rs (All-tail IsFair (Take u answer) calls fair) shows is agree
next_receipt id begun (Put done foreign (Ok (Recorded reply)) ∷ calls) s t r rs fair shows is agree =
    let more : All IsFair calls = All-tail IsFair (Put done foreign (Ok (Recorded reply))) calls fair in
    at_put (eqb done.id id) id begun s t _ (Some (Step reply)) r rs calls shows is agree (λ s' shows' is' agree'. next_receipt id begun calls s' t r rs more shows' is' agree')
next_receipt id begun (Put done foreign (Ok Full) ∷ calls) s t r rs fair shows is agree =
    let more : All IsFair calls = All-tail IsFair (Put done foreign (Ok Full)) calls fair in
    at_put (eqb done.id id) id begun s t _ None r rs calls shows is agree (λ s' shows' is' agree'. next_receipt id begun calls s' t r rs more shows' is' agree')
next_receipt id begun (Put done foreign (Ok Gone) ∷ calls) s t r rs fair shows is agree = next_receipt id begun calls s t r rs (All-tail IsFair (Put done foreign (Ok Gone)) calls fair) shows is agree
next_receipt id begun (Put done foreign (Err back) ∷ calls) s t r rs fair shows is agree = next_receipt id begun calls s t r rs (All-tail IsFair (Put done foreign (Err back)) calls fair) shows is agree
next_receipt id begun (GiveBack job ∷ calls) s t r rs fair shows is agree = next_receipt id begun calls s t r rs (All-tail IsFair (GiveBack job) calls fair) shows is agree
next_receipt id begun (Owners list ∷ calls) s t r rs fair shows is agree = absurd (All-head IsFair (Owners list) calls fair)

-- an answer of the core, or a refusal of the line itself
abbrev IsGiven : Option ItemAnswer → Type 0
IsGiven None = ⊥
IsGiven (Some (Receipt r)) = ⊤
IsGiven (Some (Note n)) = ⊥
IsGiven (Some (RefusedPlace refusal)) = ⊤

abbrev pub AreGiven : List (Option ItemAnswer) → Type 0
AreGiven [] = ⊤
AreGiven (x ∷ told) = IsGiven x × AreGiven told

abbrev pub TellsOnlyFull : Option ItemAnswer → Type 0
TellsOnlyFull x = (n : Noted) → x ≡ Some (Note n) → n.cause ≡ JournalFull

given_one : (x : Option ItemAnswer) → TellsOnlyFull x → IsReply (told_text x) → IsGiven x
given_one x full reply = grind arith

pub are_given : (told : List (Option ItemAnswer)) → All TellsOnlyFull told → All (λ (x : Option ItemAnswer). IsReply (told_text x)) told → AreGiven told
are_given [] full replies = tt
are_given (x ∷ told) full replies =
    (given_one x (All-head TellsOnlyFull x told full) (All-head (λ (x : Option ItemAnswer). IsReply (told_text x)) x told replies), are_given told (All-tail TellsOnlyFull x told full) (All-tail (λ (x : Option ItemAnswer). IsReply (told_text x)) x told replies))

-- the answer to a command while no job runs
pub both_hold : (b other : Bool) → (not b && other) ≡ true → (b ≡ false) × (other ≡ true)
both_hold b other is = grind arith

-- a state, the one that the definition has, and the reply to a command in both
pub record Answered (s t : State) (command : TenantCommand) (r : Receipted) : Type 0 where
  pub text : reply_text r.reply ≡ reply_text (answer_to t (Asked command)).1
  pub agree : Agree (begins_job command) (step s (Asked r.command)).0 (after_command t command)

pub answered : (s t : State) (command : TenantCommand) (r : Receipted) → r.command ≡ command → AreAlike s t → kind_that_runs t.name ≡ None → (step s (Asked r.command)).1 ≡ Some r.reply → Answered s t command r
answered s t command r same alike rests told =
    let both = asked_alike s t command r.reply alike (ap (λ c. (step s (Asked c)).1) (sym same) ∙ told) in
    let left : AreAlike (step s (Asked command)).0 (after_command t command) = both.1 in
    let agree : Agree (begins_job command) (step s (Asked command)).0 (after_command t command) = record {
      alike = alike-ended (step s (Asked command)).0 (after_command t command) left;
      rest = λ none.
          let rest : kind_that_runs (after_command t command).name ≡ None = command_rests t command rests none in
          (ap kind_that_runs (alike-name (step s (Asked command)).0 (after_command t command) left) ∙ rest, rest);
    } in
    record { text = ap reply_text both.0; agree = subst (λ c. Agree (begins_job command) (step s (Asked c)).0 (after_command t command)) (sym same) agree }

pub free_alike : (s t : State) → Agree false s t → AreAlike s t
free_alike s t agree = grind arith

-- the whole text
pub whole_text : (id : ℕ) (items : List SessionLine) (told : List (Option ItemAnswer)) (calls : List Call) (s t : State) (begun : Bool) → AllZip (IsTold id) items told → AreGiven told → waits_for_each begun items ≡ true → Agree begun s t →
    All IsFair calls → Shows s (own_exchanges id calls) → own_receipts id calls ≡ receipts_told told → told_texts told ≡ waited_text t items
whole_text id [] [] calls s t begun zip given waits agree fair shows is = refl
whole_text id [] (x ∷ told) calls s t begun zip given waits agree fair shows is = absurd zip
whole_text id (item ∷ items) [] calls s t begun zip given waits agree fair shows is = absurd zip
whole_text id (item ∷ items) (None ∷ told) calls s t begun zip given waits agree fair shows is = absurd given.0
whole_text id (item ∷ items) (Some (Note n) ∷ told) calls s t begun zip given waits agree fair shows is = absurd given.0
whole_text id (Blank ∷ items) (Some (Receipt r) ∷ told) calls s t begun zip given waits agree fair shows is = absurd zip.0
whole_text id (Blank ∷ items) (Some (RefusedPlace f) ∷ told) calls s t begun zip given waits agree fair shows is = absurd zip.0
whole_text id (Refused refusal ∷ items) (Some (Receipt r) ∷ told) calls s t begun zip given waits agree fair shows is = let never : Receipt r ≡ RefusedPlace refusal = zip.0 in cc
whole_text id (Refused refusal ∷ items) (Some (RefusedPlace f) ∷ told) calls s t begun zip given waits agree fair shows is =
    ap (λ p. place_text p ++ told_texts told) zip.0 ∙ ap (λ text. place_text (RefusedPlace refusal) ++ text) (whole_text id items told calls s t begun zip.1 given.1 waits agree fair shows is)
whole_text id (Command command ∷ items) (Some (RefusedPlace f) ∷ told) calls s t begun zip given waits agree fair shows is = absurd zip.0
whole_text id (Command command ∷ items) (Some (Receipt r) ∷ told) calls s t begun zip given waits agree fair shows is =
    let goes = both_hold begun (waits_for_each (begins_job command) items) waits in
    let free : Agree false s t = subst (λ b. Agree b s t) goes.0 agree in
    let next = next_receipt id false calls s t r (receipts_told told) fair shows is free in
    let one = answered next.s t command r zip.0.1 (free_alike next.s t next.agree) (next.agree.rest refl).1 next.told in
    ap (λ text. text ++ told_texts told) one.text ∙ ap (λ text. reply_text (answer_to t (Asked command)).1 ++ text)
    (whole_text id items told next.calls (step next.s (Asked r.command)).0 (after_command t command) (begins_job command) zip.1 given.1 goes.1 one.agree next.fair next.shows next.rest)
whole_text id (Wait ∷ items) (Some (RefusedPlace f) ∷ told) calls s t begun zip given waits agree fair shows is = absurd zip.0
whole_text id (Wait ∷ items) (Some (Receipt r) ∷ told) calls s t begun zip given waits agree fair shows is =
    let next = next_receipt id begun calls s t r (receipts_told told) fair shows is agree in
    let status : r.command ≡ Status = zip.0.0.1 in
    let rests : kind_that_runs next.s.name ≡ None = status_rests next.s r.reply (ap (λ c. (step next.s (Asked c)).1) (sym status) ∙ next.told) zip.0.1 in
    let alike : AreAlike next.s (after_last_step t) = subst (λ x. AreAlike x (after_last_step t)) (ended-rests next.s rests) next.agree.alike in
    let over : kind_that_runs (after_last_step t).name ≡ None = ap kind_that_runs (sym (alike-name next.s (after_last_step t) alike)) ∙ rests in
    let one = answered next.s (after_last_step t) Status r status alike over next.told in
    ap (λ text. text ++ told_texts told) one.text ∙ ap (λ text. reply_text (answer_to (after_last_step t) (Asked Status)).1 ++ text)
    (whole_text id items told next.calls (step next.s (Asked r.command)).0 (after_command (after_last_step t) Status) false zip.1 given.1 waits one.agree next.fair next.shows next.rest)
