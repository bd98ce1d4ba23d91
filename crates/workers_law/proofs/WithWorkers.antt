-- With any number of workers, the text of a session that waits is one function of its input.
use Rattle.workers_law.proofs.Prelude.{◌≡◌, ℕ, List, ◌++◌, get_or, true, false, Option, Some, None, refl, sym, ap, ◌∙◌, subst, [], ◌∷◌, arith, All, IfSome, IsSomeAnd, is_some, option_map, option_map_or, flat_map-append, All-cons, All-nil, Event, Reply, State, replies_to, run, start, state_after, Strip, Device, EachIsAlone, History, state_of, own_events, own_exchange, own_exchanges, own_replies, Call, Run, ServiceState, empty_service, history_of, live_of, live_width, strip_on, each_alone, Kept, run_keeps, IsService-empty, if_live_some, own_graph, items_of, some_and, Run-append, Noted, ItemAnswer, Note, told_text, told_texts, Parts as Script, with_give_backs, Section, Conversation, IsAnswered, IsServedFrom, told_in, evicted_text, serves_run, IsTurn, full_from, served_told, without_refused, IsReply, waited_text, waits_for_each}
use Rattle.service_core.specs.declared.not_served.NoteCause.TheVariants.{JournalFull}
use Rattle.workers_law.specs.Workers.{Waits}
use Rattle.workers_law.proofs.Ahead.{NoneAsked, ahead_none}
use Rattle.workers_law.proofs.Sizes.{run_sized}
use Rattle.workers_law.proofs.Waiting.{Agree, Shows, TellsOnlyFull, agree_steps, are_given, fair_calls, none_asked_steps, shows_of, shows_rest, whole_text}

-- a live tenancy's width, and its history
live_with : (o : Option History) (width : ℕ) → option_map (λ (h : History). h.strip.width) o ≡ Some width → (h : History) × (o ≡ Some h) × (h.strip.width ≡ width)
live_with o width is = grind arith

-- the tenancy's replies after some calls are those of the events after them
abbrev replied : Event × Option Reply → Option Reply
replied x = x.1

pub shows_after : (device : Device) (before calls : List Call) (mid new : ServiceState) (id width : ℕ) → Run (empty_service device) before mid → Run mid calls new → live_width mid.histories id ≡ Some width →
    Shows (state_after (start device.arch (strip_on device width)) (own_events id before)) (own_exchanges id calls)
shows_after device before calls mid new id width first later live =
    let g = live_with (live_of mid.histories id) width live in
    let was : history_of mid.histories id ≡ Some g.0 = if_live_some (history_of mid.histories id) g.0 g.1 in
    let Q : Option History → Type 0 = λ o. IsSomeAnd o (λ x. x.strip ≡ g.0.strip) in
    let goes = some_and (λ x. x.strip ≡ g.0.strip) (history_of new.histories id) (run_sized g.0.strip mid calls new id later (subst Q (sym was) refl)) in
    let h : History = goes.0 in
    let size : h.strip.width ≡ width = ap (λ (s : Strip). s.width) goes.2 ∙ g.2 in
    let all : EachIsAlone device (before ++ calls) new = each_alone device (before ++ calls) new (Run-append (empty_service device) before mid calls new first later) in
    let P : Option History → Type 0 = λ o. IfSome o (λ x. (state_of x, own_replies id (before ++ calls)) ≡ run device.arch (strip_on device x.strip.width) (own_events id (before ++ calls))) in
    let own : (state_of h, own_replies id (before ++ calls)) ≡ run device.arch (strip_on device h.strip.width) (own_events id (before ++ calls)) = subst P goes.1 (all id) in
    let begin : State = start device.arch (strip_on device width) in
    let replies : own_replies id (before ++ calls) ≡ replies_to begin (own_events id (before ++ calls)) =
    ap (λ (p : State × List (Option Reply)). p.1) own ∙ ap (λ w. replies_to (start device.arch (strip_on device w)) (own_events id (before ++ calls))) size in
    let whole : Shows begin (own_exchanges id before ++ own_exchanges id calls) = subst (Shows begin) (flat_map-append (own_exchange id) before calls) (shows_of begin (own_exchanges id (before ++ calls)) replies) in
    shows_rest begin (own_exchanges id before) (own_exchanges id calls) whole

-- a tenancy that was admitted
pub at_start : (device : Device) (before : List Call) (id width : ℕ) → NoneAsked before → Agree false (state_after (start device.arch (strip_on device width)) (own_events id before)) (start device.arch (strip_on device width))
at_start device before id width none = search (agree_steps, none_asked_steps, arith)

-- what is said of each note
only_full : (told : List (Option ItemAnswer)) → ((before after : List (Option ItemAnswer)) (n : Noted) → told ≡ before ++ Some (Note n) ∷ after → n.cause ≡ JournalFull) → All TellsOnlyFull told
only_full [] each = All-nil TellsOnlyFull
only_full (x ∷ told) each =
    All-cons TellsOnlyFull x told (λ n same. each [] told n (ap (λ y. y ∷ told) same)) (only_full told (λ before after n same. each (x ∷ before) after n (ap (λ ys. x ∷ ys) same)))

-- one session
one_text : (device : Device) (before calls : List Call) (mid new : ServiceState) (width : ℕ) (c : Conversation) (o : Option (List (Option ItemAnswer))) → IfSome o (IsAnswered calls c) → IfSome o (All (λ t. IsReply (told_text t))) → is_some o ≡ true →
    waits_for_each false (items_of c.said.input) ≡ true → Run (empty_service device) before mid → NoneAsked before → Run mid calls new → live_width mid.histories c.id ≡ Some width → All IsTurn calls →
    option_map_or told_texts o (evicted_text c.said.input) ≡ waited_text (start device.arch (strip_on device width)) (items_of c.said.input)
one_text device before calls mid new width c None answered replies live waits first none later size kinds = cc
one_text device before calls mid new width c (Some told) answered replies live waits first none later size kinds =
    let begin : State = start device.arch (strip_on device width) in
    let serving = without_refused mid calls new kinds later in
    let kept : Kept mid = run_keeps (empty_service device) before mid first (IsService-empty device) in
    let full : All TellsOnlyFull told = only_full told (λ before after n same. (full_from mid calls new c told kept kinds later answered before after n same).0) in
    whole_text c.id (items_of c.said.input) told serving.served (state_after begin (own_events c.id before)) begin false answered.each (are_given told full replies) waits (at_start device before c.id width none)
    (fair_calls mid serving.served new serving.kinds serving.run) (shows_after device before serving.served mid new c.id width first serving.run size) (serving.receipts c.id ∙ served_told calls c told answered)

live_some : (o : Option History) (width : ℕ) → option_map (λ (h : History). h.strip.width) o ≡ Some width → is_some o ≡ true
live_some o width is = grind arith

pub same_with : (device : Device) (script : Script) (sections : List Section) (text : List ℕ) (is : IsServedFrom (own_graph device) (empty_service device) script sections text) →
    All (λ (c : Conversation). (width : ℕ) → live_width is.service.histories c.id ≡ Some width → Waits c → (told_in c).text ≡ waited_text (start device.arch (strip_on device width)) (items_of c.said.input)) is.ran.conversations
same_with device script sections text is = λ k d within width size waits.
    let c : Conversation = get_or is.ran.conversations k d in
    let live : is_some c.told ≡ true = (is.ran.live k d within).1 ∙ live_some (live_of is.service.histories c.id) width size in
    let before : List Call = with_give_backs is.ahead.calls is.ahead.last in
    one_text device before is.ran.calls is.service is.settled width c c.told (is.ran.answered k d within) waits.replies live waits.for_each (serves_run _ _ _ _ _ _ _ is.ahead) (ahead_none _ _ _ _ _ is.ahead.served) is.ran.run size is.ran.kinds
