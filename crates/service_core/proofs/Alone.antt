-- Each tenancy is served as if it were alone, over every run.
use Rattle.service_core.proofs.Prelude.{◌≡◌, ℕ, List, [], ◌∷◌, ◌++◌, length, map, Bool, true, false, eqb, Option, Some, None, Ok, Err, append_assoc, append-nil, refl, sym, ap, ◌∙◌, subst, arith, is_some, option_map, if◌then◌else◌, IfSome, IsSomeAnd, filter, nat_tests, Decides-eqb, map-append, map_push, filter-append, Strip, has, JobState, Event, Command as Asked, Reply, State, start, step, state_after, replies_to, run, state_after-append, replies_to-append, step-full, Device, Entry, NoMemory, JournalFull, NoSuchTenancy, Recorded, Full, Gone, History, events_of, state_of, with_entry, with_here, closed_history, AreAlone, IsAloneOn, ServiceState, empty_service, entries_in, history_of, journal_of, live_of, with_changed, strip_on, with_tenancy, with_entry_of, with_here_of, Call, Admit, Evict, GiveBack, Happens, Move, Put, Run, Take, Tenant, IsGivenBackTo, IsStepOf, step_entry, step_event, if_own, own_exchange, own_exchanges, own_events, own_replies, AreOwnJournals, EachIsAlone, IsBook}
use Rattle.service_core.proofs.MovedStrips.{same_histories}
use Rattle.service_core.specs.Run.{Owners}
use Rattle.service_core.proofs.Lists.{history_of-past, history_of-modified, history_of-push, All-history_of}
use Rattle.service_core.proofs.Histories.{state_after-push}
use Rattle.service_core.proofs.Keeps.{IsService-empty}
use Rattle.service_core.proofs.Effects.{Effect, IsNext, Kept, effect, kept_after, of_live, run_device, run_keeps, served_entry, served_next}

-- the journals after each call
journal_of-with_tenancy : (s : ServiceState) (width offset id : ℕ) → journal_of (with_tenancy s width offset) id ≡ journal_of s id
journal_of-with_tenancy s width offset id = grind (arith, history_of-past, history_of-push)

entries_in-kept : (change : History → History) → ((h : History) → (change h).entries ≡ h.entries) → (o : Option History) → entries_in (option_map change o) ≡ entries_in o
entries_in-kept change keeps o = grind arith

journal-kept : (hs : List History) (t id : ℕ) (change : History → History) → ((h : History) → (change h).entries ≡ h.entries) → entries_in (history_of (with_changed hs t change) id) ≡ entries_in (history_of hs id)
journal-kept hs t id change keeps = grind (arith, nat_tests, history_of-modified hs t id change, entries_in-kept change keeps (history_of hs id))

journal_of-other : (s : ServiceState) (t id : ℕ) (e : Entry) → eqb t id ≡ false → journal_of (with_entry_of s t e) id ≡ journal_of s id
journal_of-other s t id e other = grind (arith, nat_tests, history_of-modified s.histories t id (with_entry e))

journal_of-own : (s : ServiceState) (id : ℕ) (h : History) (e : Entry) → history_of s.histories id ≡ Some h → journal_of (with_entry_of s id e) id ≡ h.entries ++ e ∷ []
journal_of-own s id h e here = grind (arith, nat_tests, history_of-modified s.histories id id (with_entry e))

-- a tenancy's first state, if there is that tenancy
abbrev first_of : History → State
first_of h = start h.arch h.strip

abbrev HasFirst : State → ServiceState → ℕ → Type 0
HasFirst first s id = IfSome (history_of s.histories id) (λ h. first_of h ≡ first)

-- the state that the tenancy of that id is in, alone
abbrev alone : State → ServiceState → ℕ → State
alone first s id = state_after first (events_of (journal_of s id))

abbrev asked : List (Event × Option Reply) → List Event
asked xs = map (λ x. x.0) xs

abbrev told : List (Event × Option Reply) → List (Option Reply)
told xs = map (λ x. x.1) xs

-- the entries of a journal, and the exchanges that are recorded
abbrev recorded : List Entry → List (Event × Option Reply)
recorded entries = map (λ (entry : Entry). (entry.event, Some entry.reply)) entries

abbrev has_reply : Event × Option Reply → Bool
has_reply x = is_some x.1

-- between two states of the service, the tenancy has exactly these events, with these replies
record Exchanged (first : State) (old new : ServiceState) (id : ℕ) (xs : List (Event × Option Reply)) : Type 0 where
  replies : told xs ≡ replies_to (alone first old id) (asked xs)
  state : alone first new id ≡ state_after (alone first old id) (asked xs)
  journal : recorded (journal_of new id) ≡ recorded (journal_of old id) ++ filter has_reply xs

-- the tenancy had no event, and its journal stayed
same_journal : (first : State) (old new : ServiceState) (id : ℕ) → journal_of new id ≡ journal_of old id → Exchanged first old new id []
same_journal first old new id same = record { replies = refl; state = ap (λ es. state_after first (events_of es)) same; journal = ap recorded same ∙ sym (append-nil (recorded (journal_of old id))) }

-- an entry is an event with its reply
own_entry : (first : State) (old new : ServiceState) (id : ℕ) (h : History) (e : Entry) → IsNext old id e h → new ≡ with_entry_of old id e → HasFirst first old id → Exchanged first old new id ((e.event, Some e.reply) ∷ [])
own_entry first old new id h e next changes has = grind (arith, state_after-push, map_push, journal_of-own old id h e next.here, state_after-push first h.entries e)

-- if the journal is full, the event has no reply
own_full : (first : State) (old new : ServiceState) (id : ℕ) (event : Event) → IsSomeAnd (live_of old.histories id) (λ h. length h.entries ≡ 65536) → new ≡ old → AreAlone old → HasFirst first old id → Exchanged first old new id ((event, None) ∷ [])
own_full first old new id event limit same alone_all has =
    let got : (h : History) × (history_of old.histories id ≡ Some h) × (length h.entries ≡ 65536) = of_live (λ h. length h.entries ≡ 65536) old id limit in
    let h : History = got.0 in
    let here : history_of old.histories id ≡ Some h = got.1 in
    let its : first_of h ≡ first = rw here at has in
    let was : journal_of old id ≡ h.entries = ap entries_in here in
    let count : (state_after (first_of h) (events_of h.entries)).entries ≡ 65536 = (All-history_of (IsAloneOn old.device) old.histories id h here alone_all).replayed.count ∙ got.2 in
    let stays : step (state_after first (events_of h.entries)) event ≡ (state_after first (events_of h.entries), None) = step-full (state_after first (events_of h.entries)) event (rw its at count) in
    record {
      replies = rw (was, stays) refl;
      state = rw (same, was) (sym (ap (λ (p : State × Option Reply). p.0) stays));
      journal = ap (λ s. recorded (journal_of s id)) same ∙ sym (append-nil (recorded (journal_of old id)));
    }

-- an event of this tenancy or of another
either : (first : State) (old new : ServiceState) (t id : ℕ) (event : Event) (reply : Option Reply) → (t ≡ id → Exchanged first old new id ((event, reply) ∷ [])) → (eqb t id ≡ false → journal_of new id ≡ journal_of old id) → Exchanged first old new id (if_own id t event reply)
either first old new t id event reply own other = by_id (eqb t id) refl
  where
    by_id : (b : Bool) → eqb t id ≡ b → Exchanged first old new id (if b then (event, reply) ∷ [] else [])
    by_id true e = own ((Decides-eqb t id).0 e)
    by_id false e = same_journal first old new id (other e)

own_next : (first : State) (old new : ServiceState) (t id : ℕ) (h : History) (e : Entry) → IsNext old t e h → new ≡ with_entry_of old t e → HasFirst first old id → Exchanged first old new id (if_own id t e.event (Some e.reply))
own_next first old new t id h e next changes has =
    either first old new t id e.event (Some e.reply)
    (λ same. own_entry first old new id h e (subst (λ x. IsNext old x e h) same next) (subst (λ x. new ≡ with_entry_of old x e) same changes) has)
    (λ differ. rw changes (journal_of-other old t id e differ))

own_limit : (first : State) (old new : ServiceState) (t id : ℕ) (event : Event) → IsSomeAnd (live_of old.histories t) (λ h. length h.entries ≡ 65536) → new ≡ old → AreAlone old → HasFirst first old id → Exchanged first old new id (if_own id t event None)
own_limit first old new t id event limit same alone_all has =
    either first old new t id event None
    (λ is. own_full first old new id event (subst (λ x. IsSomeAnd (live_of old.histories x) (λ h. length h.entries ≡ 65536)) is limit) same alone_all has)
    (λ differ. ap (λ s. journal_of s id) same)

unchanged : (first : State) (old new : ServiceState) (id : ℕ) → new ≡ old → Exchanged first old new id []
unchanged first old new id same = same_journal first old new id (ap (λ s. journal_of s id) same)

turned : (first : State) (old new : ServiceState) (t id : ℕ) (here : Option Bool) → new ≡ with_here_of old t here → Exchanged first old new id []
turned first old new t id here is = same_journal first old new id (rw is (journal-kept old.histories t id (with_here here) (λ h. refl)))

given : (first : State) (old : ServiceState) (job : JobState) (new : ServiceState) (id : ℕ) (o : Option History) → IsGivenBackTo o old job new → Exchanged first old new id []
given first old job new id None is = unchanged first old new id is
given first old job new id (Some h) is = turned first old new job.step.id id is.0 is.2

-- one call
exchanged : (first : State) (old : ServiceState) (call : Call) (new : ServiceState) (id : ℕ) → Happens old call new → AreAlone old → HasFirst first old id → Exchanged first old new id (own_exchange id call)
exchanged first old (Admit width (Ok given)) new id happens alone_all has = same_journal first old new id (rw happens.3 (journal_of-with_tenancy old width given.1 id))
exchanged first old (Admit width (Err refusal)) new id happens alone_all has = unchanged first old new id happens.1
exchanged first old (Evict t (Ok nothing)) new id happens alone_all has = same_journal first old new id (rw happens.1 (journal-kept old.histories t id closed_history (λ h. refl)))
exchanged first old (Evict t (Err refusal)) new id happens alone_all has = unchanged first old new id happens.2
exchanged first old (Move t offset answer) new id happens alone_all has = same_journal first old new id (ap (λ hs. entries_in (history_of hs id)) (same_histories old t offset answer new happens))
exchanged first old (Tenant t command (Ok r)) new id happens alone_all has =
    let next : (h : History) × IsNext old t (served_entry command r) h = served_next old t command r happens.0 in
    own_next first old new t id next.0 (served_entry command r) next.1 happens.1 has
exchanged first old (Tenant t command (Err NoMemory)) new id happens alone_all has = unchanged first old new id happens.1
exchanged first old (Tenant t command (Err (JournalFull note))) new id happens alone_all has = own_limit first old new t id (Asked command) happens.1 happens.2 alone_all has
exchanged first old (Tenant t command (Err (NoSuchTenancy note))) new id happens alone_all has = unchanged first old new id happens.2
exchanged first old (Take t (Some job)) new id happens alone_all has = turned first old new t id None happens.1
exchanged first old (Take t None) new id happens alone_all has = unchanged first old new id happens.1
exchanged first old (Put done foreign (Ok (Recorded reply))) new id happens alone_all has =
    let got : (h : History) × (history_of old.histories done.id ≡ Some h) × IsStepOf h done foreign reply = of_live (λ h. IsStepOf h done foreign reply) old done.id happens.0 in
    own_next first old new done.id id got.0 (step_entry done foreign reply) (record { here = got.1; told = got.2.told }) happens.1 has
exchanged first old (Put done foreign (Ok Full)) new id happens alone_all has = own_limit first old new done.id id (step_event done foreign) happens.0 happens.1 alone_all has
exchanged first old (Put done foreign (Ok Gone)) new id happens alone_all has = unchanged first old new id happens.1
exchanged first old (Put done foreign (Err back)) new id happens alone_all has = unchanged first old new id happens.2
exchanged first old (GiveBack job) new id happens alone_all has = given first old job new id (live_of old.histories job.step.id) happens
exchanged first old (Owners list) new id happens alone_all has = unchanged first old new id happens.1

modified_back : (first : State) (hs : List History) (t id : ℕ) (change : History → History) → ((h : History) → first_of (change h) ≡ first_of h) → IfSome (history_of (with_changed hs t change) id) (λ h. first_of h ≡ first) → IfSome (history_of hs id) (λ h. first_of h ≡ first)
modified_back first hs t id change keeps has = grind (arith, history_of-modified)

pushed_back : (first : State) (hs : List History) (h : History) (id : ℕ) → IfSome (history_of (hs ++ h ∷ []) id) (λ g. first_of g ≡ first) → IfSome (history_of hs id) (λ g. first_of g ≡ first)
pushed_back first hs h id has = grind (arith, history_of-push, history_of-past)

back : (first : State) (old new : ServiceState) (id : ℕ) → Effect old new → HasFirst first new id → HasFirst first old id
back first old new id h1 h2 = grind (arith, pushed_back, modified_back)

-- over a run
run_back : (first : State) (old : ServiceState) (calls : List Call) (new : ServiceState) (id : ℕ) → Run old calls new → HasFirst first new id → HasFirst first old id
run_back first old [] new id run has = rw run at has
run_back first old (call ∷ calls) new id run has = back first old run.0 id (effect old call run.0 run.1) (run_back first run.0 calls new id run.2 has)

-- first these exchanges, then those
Exchanged-append : (first : State) (old mid new : ServiceState) (id : ℕ) (xs ys : List (Event × Option Reply)) → Exchanged first old mid id xs → Exchanged first mid new id ys → Exchanged first old new id (xs ++ ys)
Exchanged-append first old mid new id xs ys one rest = grind (arith, map-append, replies_to-append, state_after-append, append_assoc, filter-append)

run_exchanged : (first : State) (old : ServiceState) (calls : List Call) (new : ServiceState) (id : ℕ) → Run old calls new → Kept old → HasFirst first new id → Exchanged first old new id (own_exchanges id calls)
run_exchanged first old [] new id run was has = same_journal first old new id (rw run refl)
run_exchanged first old (call ∷ calls) new id run was has =
    let mid : ServiceState = run.0 in
    let before : HasFirst first old id = run_back first old (call ∷ calls) new id run has in
    Exchanged-append first old mid new id (own_exchange id call) (own_exchanges id calls) (exchanged first old call mid id run.1 was.alone before) (run_exchanged first mid calls new id run.2 (kept_after old call mid run.1 was) has)

-- each tenancy's first state is its first state alone
first_on : (device : Device) (h : History) → IsAloneOn device h → first_of h ≡ start device.arch (strip_on device h.strip.width)
first_on device h is = rw is.arch (ap (λ (strip : Strip). start device.arch strip) is.strip)

pub each_alone : (device : Device) (calls : List Call) (state : ServiceState) → Run (empty_service device) calls state → EachIsAlone device calls state
each_alone device calls state runs id = by_history (history_of state.histories id) refl
  where
    by_history : (o : Option History) → history_of state.histories id ≡ o → IfSome o (λ h. (state_of h, own_replies id calls) ≡ run device.arch (strip_on device h.strip.width) (own_events id calls))
    by_history None e = tt
    by_history (Some h) e =
        let its : Exchanged (first_of h) (empty_service device) state id (own_exchanges id calls) = run_exchanged (first_of h) (empty_service device) calls state id runs (IsService-empty device) (rw e refl) in
        let after : state_of h ≡ state_after (first_of h) (own_events id calls) = rw e at its.state in
        let answers : own_replies id calls ≡ replies_to (first_of h) (own_events id calls) = its.replies in
        let kept : Kept state = run_keeps (empty_service device) calls state runs (IsService-empty device) in
        let on : IsAloneOn device h = rw (run_device (empty_service device) calls state runs) at (All-history_of (IsAloneOn state.device) state.histories id h e kept.alone) in
        let first : first_of h ≡ start device.arch (strip_on device h.strip.width) = first_on device h on in
        rw (after, answers, first) refl

-- each journal has the tenancy's events with their replies, as far as they were recorded
pub own_journals : (device : Device) (calls : List Call) (state : ServiceState) → Run (empty_service device) calls state → AreOwnJournals calls state
own_journals device calls state runs id = by_history (history_of state.histories id) refl
  where
    by_history : (o : Option History) → history_of state.histories id ≡ o → IfSome o (λ h. map (λ entry. (entry.event, Some entry.reply)) h.entries ≡ filter (λ exchange. is_some exchange.1) (own_exchanges id calls))
    by_history None e = tt
    by_history (Some h) e =
        let its : Exchanged (first_of h) (empty_service device) state id (own_exchanges id calls) = run_exchanged (first_of h) (empty_service device) calls state id runs (IsService-empty device) (rw e refl) in
        ap (λ o. recorded (entries_in o)) (sym e) ∙ its.journal

-- a live tenancy is in the state that its own events result in alone
pub state_alone : (device : Device) (calls : List Call) (state : ServiceState) (id : ℕ) (h : History) → Run (empty_service device) calls state → live_of state.histories id ≡ Some h →
    state_of h ≡ (run device.arch (strip_on device h.strip.width) (own_events id calls)).0
state_alone device calls state id h runs live = grind (arith, each_alone device calls state runs id)

pub is_book : (device : Device) (calls : List Call) (state : ServiceState) → Run (empty_service device) calls state → IsBook device calls state
is_book device calls state runs resource id = grind (arith, state_alone)
