-- The answers of the sessions, by their conversations.
use Rattle.script_threads.proofs.Prelude.{◌≡◌, ◌≢◌, ◌<◌, get_or, ℕ, zero, suc, List, [], ◌∷◌, ◌++◌, length, true, false, Option, Some, None, refl, sym, ap, ◌∙◌, subst, arith, append_assoc, append-nil, All, AllPairs, IfSome, is_some, AllZip, cons_option, filter_map, map_push, All-append, All-cons, All-head, All-map, All-nil, All-tail, All-weaker, filter_map-append, AllPairs-cons, History, Call, Run, ServiceState, live_of, SessionLine, items_of, Run-append, own_receipts, IsOfThreads, run_goes_on, has_id, AreTold, noted_all, IsTold as IsToldTo, Item, ItemAnswer, new_transcript, TranscriptState, receipt_in, receipts_of, with_no_memory, last_id, Said, NoneLate, served_late, own_answer, own_answers, receipts_told, told_answers, AreFullNotes, Finishes, part_told, Section, Conversation, IsAnswered, Ran, told_in, Asked, IsToldBy, PartState, asked_in, asked_of, transcripts_of}
use Rattle.std.proofs.Common.{map}
use Rattle.script_threads.proofs.AskedLemmas.{Answer, IsFullNote, IsIdle, all_places, are_answers, are_idle, idle_run, kind_turn, none_late, notes_of, of_receipt, other_notes, own_notes, own_served, parted, places, receipt_by, receipts_are, refused_calls}
use Rattle.script_threads.proofs.TurnLemmas.{IsTurn}
use Rattle.script_threads.specs.Sessions.{IsTold}

-- a part as a conversation
abbrev conversation : (p : PartState) (o : Option TranscriptState) → IsToldBy o p → Conversation
conversation p None is = record { said = record { name = p.name; input = p.input }; id = p.id; told = None }
conversation p (Some t) is = record { said = record { name = p.name; input = p.input }; id = p.id; told = Some is.told }

abbrev conversations : (ps : List PartState) → All IsTold ps → List Conversation
conversations [] all = []
conversations (p ∷ ps) all = conversation p p.transcript (All-head IsTold p ps all) ∷ conversations ps (All-tail IsTold p ps all)

-- its text, and whether its tenancy is live
same_told : (p : PartState) (o : Option TranscriptState) (is : IsToldBy o p) → part_told p ≡ told_in (conversation p o is)
same_told p o is = grind arith

all_told : (ps : List PartState) (all : All IsTold ps) → map part_told ps ≡ map told_in (conversations ps all)
all_told [] all = refl
all_told (p ∷ ps) all = grind (arith, all_told ps (All-tail IsTold p ps all))

same_id : (p : PartState) (o : Option TranscriptState) (is : IsToldBy o p) → (conversation p o is).id ≡ p.id
same_id p o is = grind arith

same_said : (p : PartState) (o : Option TranscriptState) (is : IsToldBy o p) → (conversation p o is).said ≡ record { name = p.name; input = p.input }
same_said p o is = grind arith

-- the session is its name's, and its tenancy is the name's last one
abbrev IsOf : List (List ℕ) → List History → Conversation → Type 0
IsOf names hs c = (c.id ≡ last_id names c.said.name) × (is_some c.told ≡ is_some (live_of hs c.id))

abbrev said_of : Asked → Said
said_of a = record { name = a.name; input = a.input }

one_of : (names : List (List ℕ)) (hs : List History) (p : PartState) (s : Said) (o : Option TranscriptState) (is : IsToldBy o p) → p.transcript ≡ o → asked_in p ≡ asked_of names hs s →
    ((conversation p o is).said ≡ s) × IsOf names hs (conversation p o is)
one_of names hs p s o is e same = grind arith

abbrev head_or : {A : Type 0} → A → List A → A
head_or d [] = d
head_or d (x ∷ xs) = x

abbrev tail_of : {A : Type 0} → List A → List A
tail_of [] = []
tail_of (x ∷ xs) = xs

all_of : (names : List (List ℕ)) (hs : List History) (ps : List PartState) (ss : List Said) (all : All IsTold ps) → map asked_in ps ≡ map (asked_of names hs) ss →
    (map (λ (c : Conversation). c.said) (conversations ps all) ≡ ss) × All (IsOf names hs) (conversations ps all)
all_of names hs [] [] all same = (refl, All-nil (IsOf names hs))
all_of names hs [] (s ∷ ss) all same = cc
all_of names hs (p ∷ ps) [] all same = cc
all_of names hs (p ∷ ps) (s ∷ ss) all same = grind (arith, all_of names hs ps ss (All-tail IsTold p ps all) (ap tail_of same))

-- the places of a transcript that has these answers
places_noted : (t : TranscriptState) (told : List (Option ItemAnswer)) → map (λ (i : Item). i.place) (noted_all t told).items ≡ map (λ (i : Item). i.place) t.items ++ places told
places_noted t [] = sym (append-nil (map (λ (i : Item). i.place) t.items))
places_noted t (None ∷ told) = places_noted (with_no_memory t) told
places_noted t (Some place ∷ told) =
    let i : Item = record { place = place; no_memory_before = t.no_memory } in
    places_noted (record t { items = t.items ++ i ∷ []; no_memory = 0 }) told ∙ (ap (λ ps. ps ++ places told) (map_push (λ (i : Item). i.place) t.items i) ∙ append_assoc (map (λ (i : Item). i.place) t.items) (place ∷ []) (places told))

id_noted : (t : TranscriptState) (told : List (Option ItemAnswer)) → (noted_all t told).id ≡ t.id
id_noted t [] = refl
id_noted t (None ∷ told) = id_noted (with_no_memory t) told
id_noted t (Some place ∷ told) = id_noted (record t { items = t.items ++ record { place = place; no_memory_before = t.no_memory } ∷ []; no_memory = 0 }) told

receipts_in : (items : List Item) → receipts_of items ≡ filter_map receipt_in (map (λ (i : Item). i.place) items)
receipts_in [] = refl
receipts_in (i ∷ items) = ap (cons_option (receipt_in i.place)) (receipts_in items)

receipts_among : (told : List (Option ItemAnswer)) → filter_map receipt_in (places told) ≡ receipts_told told
receipts_among [] = refl
receipts_among (None ∷ told) = receipts_among told
receipts_among (Some place ∷ told) = ap (cons_option (receipt_in place)) (receipts_among told)

-- a conversation has the answers that its transcript has
record IsNoted (calls : List Call) (service : ServiceState) (c : Conversation) (told : List (Option ItemAnswer)) : Type 0 where
  each : AllZip (IsToldTo c.id) (items_of c.said.input) told
  served : own_receipts c.id calls ≡ receipts_told told
  notes : All (IsFullNote service c.id) (places told)
  late : served_late false (places told) ≡ false

abbrev Served : List Call → TranscriptState → Type 0
Served calls t = own_receipts t.id calls ≡ receipts_of t.items

abbrev Answers : List Call → ServiceState → Conversation → Type 0
Answers calls service c = IfSome c.told (IsNoted calls service c)

to_zip : (id : ℕ) (items : List SessionLine) (told : List (Option ItemAnswer)) → AreTold id items told → AllZip (IsToldTo id) items told
to_zip id [] [] are = tt
to_zip id [] (t ∷ told) are = are
to_zip id (item ∷ items) [] are = are
to_zip id (item ∷ items) (t ∷ told) are = (are.0, to_zip id items told are.1)

one_answered : (calls : List Call) (service : ServiceState) (p : PartState) (o : Option TranscriptState) (is : IsToldBy o p) (ts : List TranscriptState) → All (Served calls) (cons_option o ts) → All (AreFullNotes service) (cons_option o ts) → All NoneLate (cons_option o ts) →
    Answers calls service (conversation p o is) × All (Served calls) ts × All (AreFullNotes service) ts × All NoneLate ts
one_answered calls service p None is ts served full late = (tt, served, full, late)
one_answered calls service p (Some t) is ts served full late = (
  record {
    each = to_zip p.id _ is.told is.asked;
    served = ap (λ i. own_receipts i calls) (sym id) ∙ (All-head (Served calls) t ts served ∙ receipts);
    notes = notes;
    late = none_late_told;
  },
  All-tail (Served calls) t ts served,
  All-tail (AreFullNotes service) t ts full,
  All-tail NoneLate t ts late,
)
  where
    left : TranscriptState
    left = noted_all (new_transcript p.id) is.told

    id : t.id ≡ p.id
    id = ap (λ (x : TranscriptState). x.id) is.noted ∙ id_noted (new_transcript p.id) is.told

    there : map (λ (i : Item). i.place) t.items ≡ places is.told
    there = ap (λ (x : TranscriptState). map (λ (i : Item). i.place) x.items) is.noted ∙ places_noted (new_transcript p.id) is.told

    receipts : receipts_of t.items ≡ receipts_told is.told
    receipts = receipts_in t.items ∙ (ap (filter_map receipt_in) there ∙ receipts_among is.told)

    none_late_told : served_late false (places is.told) ≡ false
    none_late_told = ap (served_late false) (sym there) ∙ All-head NoneLate t ts late

    notes : All (IsFullNote service p.id) (places is.told)
    notes =
        let own : All (λ (i : Item). IsFullNote service t.id i.place) t.items = All-head (AreFullNotes service) t ts full in
        let all : All (IsFullNote service t.id) (places is.told) = subst (All (IsFullNote service t.id)) there (All-map (IsFullNote service t.id) (λ (i : Item). i.place) t.items own) in
        rw id at all

all_answered : (calls : List Call) (service : ServiceState) (ps : List PartState) (all : All IsTold ps) → All (Served calls) (transcripts_of ps) → All (AreFullNotes service) (transcripts_of ps) → All NoneLate (transcripts_of ps) → All (Answers calls service) (conversations ps all)
all_answered calls service [] all served full late = All-nil (Answers calls service)
all_answered calls service (p ∷ ps) all served full late =
    let one = one_answered calls service p p.transcript (All-head IsTold p ps all) (transcripts_of ps) served full late in
    All-cons (Answers calls service) _ (conversations ps (All-tail IsTold p ps all)) one.0 (all_answered calls service ps (All-tail IsTold p ps all) one.1 one.2 one.3)

-- no two of one tenancy, and which tenancies have none
abbrev DiffersFrom : ℕ → Conversation → Type 0
DiffersFrom id d = is_some d.told ≡ true → id ≢ d.id

abbrev AreOther : Conversation → Conversation → Type 0
AreOther c d = is_some c.told ≡ true → DiffersFrom c.id d

id_told : (p : PartState) (t : TranscriptState) → IsToldBy (Some t) p → t.id ≡ p.id
id_told p t is = ap (λ (x : TranscriptState). x.id) is.noted ∙ id_noted (new_transcript p.id) is.told

one_differs : (id : ℕ) (p : PartState) (o : Option TranscriptState) (is : IsToldBy o p) (ts : List TranscriptState) → All (λ (u : TranscriptState). id ≢ u.id) (cons_option o ts) →
    DiffersFrom id (conversation p o is) × All (λ (u : TranscriptState). id ≢ u.id) ts
one_differs id p None is ts differ = (λ never. cc, differ)
one_differs id p (Some t) is ts differ =
    (λ live same. All-head (λ (u : TranscriptState). id ≢ u.id) t ts differ (same ∙ sym (id_told p t is)), All-tail (λ (u : TranscriptState). id ≢ u.id) t ts differ)

all_differ : (id : ℕ) (ps : List PartState) (all : All IsTold ps) → All (λ (u : TranscriptState). id ≢ u.id) (transcripts_of ps) → All (DiffersFrom id) (conversations ps all)
all_differ id [] all differ = All-nil (DiffersFrom id)
all_differ id (p ∷ ps) all differ =
    let one = one_differs id p p.transcript (All-head IsTold p ps all) (transcripts_of ps) differ in
    All-cons (DiffersFrom id) _ (conversations ps (All-tail IsTold p ps all)) one.0 (all_differ id ps (All-tail IsTold p ps all) one.1)

abbrev HaveOwnIds : List TranscriptState → Type 0
HaveOwnIds ts = AllPairs (λ (t u : TranscriptState). t.id ≢ u.id) ts

one_apart : (p : PartState) (o : Option TranscriptState) (is : IsToldBy o p) (ps : List PartState) (all : All IsTold ps) → HaveOwnIds (cons_option o (transcripts_of ps)) →
    All (AreOther (conversation p o is)) (conversations ps all) × HaveOwnIds (transcripts_of ps)
one_apart p None is ps all apart = (λ k d within never. cc, apart)
one_apart p (Some t) is ps all apart =
    let from : All (λ (u : TranscriptState). t.id ≢ u.id) (transcripts_of ps) = λ k d within. apart zero (suc k) d (omega arith) (omega arith) in
    let differ : All (DiffersFrom p.id) (conversations ps all) = rw (id_told p t is) at (all_differ t.id ps all from) in
    (λ k d within live. differ k d within, λ i j d below within. apart (suc i) (suc j) d (omega arith) (omega arith))

all_apart : (ps : List PartState) (all : All IsTold ps) → HaveOwnIds (transcripts_of ps) → AllPairs AreOther (conversations ps all)
all_apart [] all apart = λ i j d below within. absurd (omega arith)
all_apart (p ∷ ps) all apart =
    let one = one_apart p p.transcript (All-head IsTold p ps all) ps (All-tail IsTold p ps all) apart in
    AllPairs-cons AreOther _ (conversations ps (All-tail IsTold p ps all)) one.0 (all_apart ps (All-tail IsTold p ps all) one.1)

abbrev IsNotOf : ℕ → Conversation → Type 0
IsNotOf id c = is_some c.told ≡ true → c.id ≢ id

one_absent : (id : ℕ) (p : PartState) (o : Option TranscriptState) (is : IsToldBy o p) (ts : List TranscriptState) → IsNotOf id (conversation p o is) → has_id ts id ≡ false → has_id (cons_option o ts) id ≡ false
one_absent id p o is ts other rest = grind (arith, id_told)

all_absent : (id : ℕ) (ps : List PartState) (all : All IsTold ps) → All (IsNotOf id) (conversations ps all) → has_id (transcripts_of ps) id ≡ false
all_absent id [] all other = refl
all_absent id (p ∷ ps) all other =
    let c = conversation p p.transcript (All-head IsTold p ps all) in
    let more = conversations ps (All-tail IsTold p ps all) in
    one_absent id p p.transcript (All-head IsTold p ps all) (transcripts_of ps) (All-head (IsNotOf id) c more other) (all_absent id ps (All-tail IsTold p ps all) (All-tail (IsNotOf id) c more other))

-- the commands that were refused, as turns after all others
abbrev refusals_of : ℕ → List SessionLine → Option (List (Option ItemAnswer)) → List Call
refusals_of id items None = []
refusals_of id items (Some told) = refused_calls id (told_answers items told)

abbrev refusals : List Conversation → List Call
refusals [] = []
refusals (c ∷ cs) = refusals_of c.id (items_of c.said.input) c.told ++ refusals cs

abbrev IsLiveIn : ServiceState → Conversation → Type 0
IsLiveIn service c = is_some c.told ≡ true → is_some (live_of service.histories c.id) ≡ true

one_idle : (calls : List Call) (service : ServiceState) (c : Conversation) (o : Option (List (Option ItemAnswer))) → (is_some o ≡ true → is_some (live_of service.histories c.id) ≡ true) → IfSome o (IsNoted calls service c) →
    All (IsIdle service) (refusals_of c.id (items_of c.said.input) o)
one_idle calls service c None live is = All-nil (IsIdle service)
one_idle calls service c (Some told) live is =
    let items : List SessionLine = items_of c.said.input in
    are_idle service c.id (told_answers items told) (live refl) (are_answers c.id items told is.each) (all_places (IsFullNote service c.id) items told is.notes)

all_idle : (calls : List Call) (service : ServiceState) (cs : List Conversation) → All (IsLiveIn service) cs → All (Answers calls service) cs → All (IsIdle service) (refusals cs)
all_idle calls service [] live all = All-nil (IsIdle service)
all_idle calls service (c ∷ cs) live all = search (All-append, one_idle, All-head, all_idle calls service cs (All-tail (IsLiveIn service) c cs live) (All-tail (Answers calls service) c cs all), arith)

-- each conversation has its own among them
one_none : (id : ℕ) (c : Conversation) (o : Option (List (Option ItemAnswer))) → (is_some o ≡ true → c.id ≢ id) → own_answers id (refusals_of c.id (items_of c.said.input) o) ≡ []
one_none id c None differ = refl
one_none id c (Some told) differ = other_notes id c.id (λ same. differ refl (sym same)) (told_answers (items_of c.said.input) told)

all_none : (id : ℕ) (cs : List Conversation) → All (IsNotOf id) cs → own_answers id (refusals cs) ≡ []
all_none id [] other = refl
all_none id (c ∷ cs) other = search (filter_map-append, one_none, All-head, all_none id cs (All-tail (IsNotOf id) c cs other), arith)

abbrev HasOwn : List Call → Conversation → Type 0
HasOwn calls c = (told : List (Option ItemAnswer)) → c.told ≡ Some told → own_answers c.id calls ≡ notes_of (told_answers (items_of c.said.input) told)

its_own : (id : ℕ) (items : List SessionLine) (o : Option (List (Option ItemAnswer))) (told : List (Option ItemAnswer)) → o ≡ Some told → own_answers id (refusals_of id items o) ≡ notes_of (told_answers items told)
its_own id items o told is = grind (arith, own_notes)

abbrev first_of : Conversation → List Call
first_of c = refusals_of c.id (items_of c.said.input) c.told

abbrev AreOthers : Conversation → List Conversation → Type 0
AreOthers c cs = (k : ℕ) (d : Conversation) → k < length cs → AreOther c (get_or cs k d)

own_first : (c : Conversation) (cs : List Conversation) → AreOthers c cs → HasOwn (refusals (c ∷ cs)) c
own_first c cs others = λ told is.
    let live : is_some c.told ≡ true = ap is_some is in
    let none : own_answers c.id (refusals cs) ≡ [] = all_none c.id cs (λ k d within some same. others k d within live some (sym same)) in
    filter_map-append (own_answer c.id) (first_of c) (refusals cs) ∙ (ap (λ xs. own_answers c.id (first_of c) ++ xs) none ∙ (append-nil (own_answers c.id (first_of c)) ∙ its_own c.id (items_of c.said.input) c.told told is))

own_later : (c : Conversation) (cs : List Conversation) → AreOthers c cs → All (HasOwn (refusals cs)) cs → All (HasOwn (refusals (c ∷ cs))) cs
own_later c cs others rest = λ k d within told is.
    let e : Conversation = get_or cs k d in
    let none : own_answers e.id (first_of c) ≡ [] = one_none e.id c c.told (λ live. others k d within live (ap is_some is)) in
    filter_map-append (own_answer e.id) (first_of c) (refusals cs) ∙ (ap (λ xs. xs ++ own_answers e.id (refusals cs)) none ∙ rest k d within told is)

have_own : (cs : List Conversation) → AllPairs AreOther cs → All (HasOwn (refusals cs)) cs
have_own [] apart = All-nil (HasOwn [])
have_own (c ∷ cs) apart =
    let others : AreOthers c cs = λ k d within. apart zero (suc k) d (omega arith) (omega arith) in
    let rest : All (HasOwn (refusals cs)) cs = have_own cs (λ i j d below within. apart (suc i) (suc j) d (omega arith) (omega arith)) in
    All-cons (HasOwn (refusals (c ∷ cs))) c cs (own_first c cs others) (own_later c cs others rest)

-- so the answers in all turns are those of the conversation
one_asked : (begun : ServiceState) (calls : List Call) (service : ServiceState) (more : List Call) (c : Conversation) (o : Option (List (Option ItemAnswer))) → c.told ≡ o → All IsOfThreads calls → Run begun calls service → HasOwn more c → IfSome o (IsNoted calls service c) →
    IfSome o (IsAnswered (calls ++ more) c)
one_asked begun calls service more c None same kinds run own is = tt
one_asked begun calls service more c (Some told) same kinds run own is =
    let items : List SessionLine = items_of c.said.input in
    let answers : List Answer = told_answers items told in
    let receipts : own_receipts c.id calls ≡ filter_map receipt_by answers = is.served ∙ sym (receipts_are c.id items told is.each) in
    let first : own_answers c.id calls ≡ map of_receipt (filter_map receipt_by answers) = own_served c.id begun calls service kinds run ∙ ap (map of_receipt) receipts in
    let whole : answers ≡ map of_receipt (filter_map receipt_by answers) ++ notes_of answers = parted c.id answers (are_answers c.id items told is.each) (none_late c.id false items told is.each is.late) in
    record {
      each = is.each;
      asked = filter_map-append (own_answer c.id) calls more ∙ (ap (λ xs. xs ++ own_answers c.id more) first ∙ (ap (λ xs. map of_receipt (filter_map receipt_by answers) ++ xs) (own told same) ∙ sym whole));
    }

-- the sessions that have their answers ran
pub sessions_ran : (names : List (List ℕ)) (begun : ServiceState) (ps : List PartState) (ss : List Said) (sections : List Section) (service : ServiceState) → map asked_in ps ≡ map (asked_of names begun.histories) ss → Finishes begun ps sections service →
    Ran names begun ss sections service
sessions_ran names begun ps ss sections service asked is =
    let whose = all_of names begun.histories ps ss is.each asked in
    let cs : List Conversation = conversations ps is.each in
    let calls : List Call = is.calls.calls in
    let noted : All (Answers calls service) cs = all_answered calls service ps is.each is.calls.told is.notes is.none_late in
    let apart : AllPairs AreOther cs = all_apart ps is.each is.apart in
    let stays = (run_goes_on begun calls service is.calls.kinds is.calls.run).1 in
    let live : All (IsLiveIn service) cs = λ k d within some. stays.live (get_or cs k d).id ∙ (sym (whose.1 k d within).1 ∙ some) in
    let idle : All (IsIdle service) (refusals cs) = all_idle calls service cs live noted in
    let own : All (HasOwn (refusals cs)) cs = have_own cs apart in
    record {
      conversations = cs;
      calls = calls ++ refusals cs;
      run = Run-append begun calls service (refusals cs) service is.calls.run (idle_run service (refusals cs) idle);
      kinds = All-append IsTurn calls (refusals cs) (All-weaker IsOfThreads IsTurn kind_turn calls is.calls.kinds) (All-weaker (IsIdle service) IsTurn (λ call i. i.turn) (refusals cs) idle);
      said = whose.0;
      live = whose.1;
      answered = λ k d within. one_asked begun calls service (refusals cs) (get_or cs k d) (get_or cs k d).told refl is.calls.kinds is.calls.run (own k d within) (noted k d within);
      apart = apart;
      no_other = λ id none.
          let no_receipts : own_receipts id calls ≡ [] = is.calls.no_other id (all_absent id ps is.each none) in
          filter_map-append (own_answer id) calls (refusals cs) ∙ (ap (λ xs. xs ++ own_answers id (refusals cs)) (own_served id begun calls service is.calls.kinds is.calls.run ∙ ap (map of_receipt) no_receipts) ∙ all_none id cs none);
      sections_are = is.sections_are ∙ all_told ps is.each;
    }
