-- What the turns of the sessions say: without the refused commands they are a run too, and after a
-- refused one its journal is full.
use Rattle.script_threads.proofs.Prelude.{◌≡◌, ◌≢◌, ℕ, ◌≤◌, zero, suc, List, [], ◌∷◌, ◌++◌, length, take, Bool, true, eqb, Option, Some, None, Ok, Err, refl, sym, ap, ◌∙◌, subst, arith, All, IsSomeAnd, if◌then◌else◌, AllZip, cons_option, filter_map, All-cons, All-head, All-nil, All-tail, Status, step-served, JournalFull, NoSuchTenancy, NoMemory, History, state_of, Noted, Receipted, Call, Happens, IsReceipt, Run, Admit, Evict, Move, Tenant, Take, Put, GiveBack, Owners, IsAloneOn, ServiceState, entries_in, history_of, journal_of, live_of, Kept, kept_after, run_keeps, if_live_some, All-history_of, SessionLine, Blank, Command, Wait, Refused, items_of, split, Follows, GoesOn, Stays, own_receipt, own_receipts, IsOfThreads, run_goes_on, IsTold, ItemAnswer, Receipt, Note, Conversation, IsAnswered, is_turn, own_answer, own_answers, receipts_told, told_answer, told_answers}
use Rattle.tenant_slot.specs.declared.command.Command.{Command as TenantCommand}
use Rattle.tenant_slot.specs.declared.event.Event.TheVariants.{Command as Asked}
use Rattle.service_core.specs.declared.not_served.NoteCause.TheVariants.{JournalFull as CauseFull}
use Rattle.transcripts.specs.declared.item.ItemAnswer.TheVariants.{Refused as RefusedPlace}
use Rattle.script_threads.proofs.AskedLemmas.{Answer, receipt_by, receipts_are}

abbrev pub IsTurn : Call → Type 0
IsTurn call = is_turn call ≡ true

-- the turns without the refused commands
pub record Serving (a : ServiceState) (calls : List Call) (b : ServiceState) : Type 0 where
  pub served : List Call
  pub run : Run a served b
  pub kinds : All IsOfThreads served
  pub receipts : (id : ℕ) → own_receipts id served ≡ own_receipts id calls

one_stays : (a mid b : ServiceState) (calls : List Call) (c : Call) → Serving mid calls b → IsOfThreads c → Happens a c mid → Serving a (c ∷ calls) b
one_stays a mid b calls c rest kind is = record {
  served = c ∷ rest.served;
  run = (mid, is, rest.run);
  kinds = All-cons IsOfThreads c rest.served kind rest.kinds;
  receipts = λ id. ap (λ rs. own_receipt id c ++ rs) (rest.receipts id);
}

one_turn : (a mid b : ServiceState) (calls : List Call) (c : Call) → Serving mid calls b → IsTurn c → Happens a c mid → Serving a (c ∷ calls) b
one_turn a mid b calls (Admit width answer) rest never is = cc
one_turn a mid b calls (Evict t answer) rest never is = cc
one_turn a mid b calls (Move t offset answer) rest never is = cc
one_turn a mid b calls (Owners list) rest never is = cc
one_turn a mid b calls (Tenant t command (Err NoMemory)) rest never is = cc
one_turn a mid b calls (Tenant t command (Err (NoSuchTenancy n))) rest never is = cc
one_turn a mid b calls (Tenant t command (Err (JournalFull n))) rest turn is = grind arith
one_turn a mid b calls (Tenant t command (Ok r)) rest turn is = one_stays a mid b calls (Tenant t command (Ok r)) rest refl is
one_turn a mid b calls (Take t answer) rest turn is = one_stays a mid b calls (Take t answer) rest refl is
one_turn a mid b calls (Put done foreign answer) rest turn is = one_stays a mid b calls (Put done foreign answer) rest refl is
one_turn a mid b calls (GiveBack job) rest turn is = one_stays a mid b calls (GiveBack job) rest refl is

pub without_refused : (a : ServiceState) (calls : List Call) (b : ServiceState) → All IsTurn calls → Run a calls b → Serving a calls b
without_refused a [] b kinds run = record { served = []; run = run; kinds = All-nil IsOfThreads; receipts = λ id. refl }
without_refused a (call ∷ calls) b kinds run = grind (arith, one_turn, All-head, without_refused run.0 calls b (All-tail IsTurn call calls kinds) run.2)

pub turns_go_on : (a : ServiceState) (calls : List Call) (b : ServiceState) → All IsTurn calls → Run a calls b → Follows a b × Stays a b
turns_go_on a calls b kinds run = let is = without_refused a calls b kinds run in run_goes_on a is.served b is.kinds is.run

-- the receipts of a conversation are those of its tenancy
receipts_one : (id t : ℕ) (command : TenantCommand) (place : ItemAnswer) (answers : List Answer) (rs : List Receipted) → filter_map receipt_by answers ≡ rs → (b : Bool) →
    filter_map receipt_by (cons_option (if b then Some (command, place) else None) answers) ≡ (if b then filter_map receipt_by ((command, place) ∷ []) else []) ++ rs
receipts_one id t command place answers rs is b = grind arith

no_receipt : (b : Bool) (rs : List Receipted) → (if b then [] else []) ++ rs ≡ rs
no_receipt b rs = grind arith

pub receipts_by : (id : ℕ) (calls : List Call) → filter_map receipt_by (own_answers id calls) ≡ own_receipts id calls
receipts_by id [] = refl
receipts_by id (Admit width answer ∷ calls) = receipts_by id calls
receipts_by id (Evict t answer ∷ calls) = receipts_by id calls
receipts_by id (Move t offset answer ∷ calls) = receipts_by id calls
receipts_by id (Tenant t command (Ok r) ∷ calls) = receipts_one id t command (Receipt r) (own_answers id calls) (own_receipts id calls) (receipts_by id calls) (eqb t id)
receipts_by id (Tenant t command (Err (JournalFull n)) ∷ calls) = grind (arith, receipts_by id calls)
receipts_by id (Tenant t command (Err (NoSuchTenancy n)) ∷ calls) = receipts_by id calls
receipts_by id (Tenant t command (Err NoMemory) ∷ calls) = receipts_by id calls
receipts_by id (Take t answer ∷ calls) = receipts_by id calls
receipts_by id (Put done foreign answer ∷ calls) = receipts_by id calls
receipts_by id (GiveBack job ∷ calls) = receipts_by id calls
receipts_by id (Owners list ∷ calls) = receipts_by id calls

pub served_told : (calls : List Call) (c : Conversation) (told : List (Option ItemAnswer)) → IsAnswered calls c told → own_receipts c.id calls ≡ receipts_told told
served_told calls c told is = sym (receipts_by c.id calls) ∙ (ap (filter_map receipt_by) is.asked ∙ receipts_are c.id (items_of c.said.input) told is.each)

none_call : (id : ℕ) (calls : List Call) (c : Call) → (own_receipts id calls ≡ [] → own_answers id calls ≡ []) → IsOfThreads c → own_receipts id (c ∷ calls) ≡ [] → own_answers id (c ∷ calls) ≡ []
none_call id calls c rest never is = grind arith

pub none_asked : (id : ℕ) (calls : List Call) → All IsOfThreads calls → own_receipts id calls ≡ [] → own_answers id calls ≡ []
none_asked id [] kinds none = refl
none_asked id (call ∷ calls) kinds none = none_call id calls call (λ is. none_asked id calls (All-tail IsOfThreads call calls kinds) is) (All-head IsOfThreads call calls kinds) none

-- the answers around a note, and the turns around its command
cons_append : {A : Type 0} (o : Option A) (xs ys : List A) → cons_option o (xs ++ ys) ≡ cons_option o xs ++ ys
cons_append o xs ys = grind arith

record NoteAmong (items : List SessionLine) (told after : List (Option ItemAnswer)) (n : Noted) : Type 0 where
  command : TenantCommand
  first : List Answer
  later : List Answer
  are : told_answers items told ≡ first ++ (command, Note n) ∷ later
  receipts : filter_map receipt_by later ≡ receipts_told after

note_among : (id : ℕ) (items : List SessionLine) (before : List (Option ItemAnswer)) (n : Noted) (after : List (Option ItemAnswer)) → AllZip (IsTold id) items (before ++ Some (Note n) ∷ after) → NoteAmong items (before ++ Some (Note n) ∷ after) after n
note_among id [] [] n after zip = absurd zip
note_among id [] (t ∷ before) n after zip = absurd zip
note_among id (Blank ∷ items) [] n after zip = absurd zip.0
note_among id (Refused refusal ∷ items) [] n after zip = let never : Note n ≡ RefusedPlace refusal = zip.0 in cc
note_among id (Command command ∷ items) [] n after zip = record { command = command; first = []; later = told_answers items after; are = refl; receipts = receipts_are id items after zip.1 }
note_among id (Wait ∷ items) [] n after zip = record { command = Status; first = []; later = told_answers items after; are = refl; receipts = receipts_are id items after zip.1 }
note_among id (item ∷ items) (t ∷ before) n after zip =
    let rest = note_among id items before n after zip.1 in
    record {
      command = rest.command;
      first = cons_option (told_answer item t) rest.first;
      later = rest.later;
      are = ap (cons_option (told_answer item t)) rest.are ∙ cons_append (told_answer item t) rest.first ((rest.command, Note n) ∷ rest.later);
      receipts = rest.receipts;
    }

record CallAmong (id : ℕ) (calls : List Call) (a : Answer) (later : List Answer) : Type 0 where
  before : List Call
  call : Call
  after : List Call
  are : calls ≡ before ++ call ∷ after
  its : own_answer id call ≡ Some a
  rest : own_answers id after ≡ later

further : (id : ℕ) (call : Call) (calls : List Call) (a : Answer) (later : List Answer) → CallAmong id calls a later → CallAmong id (call ∷ calls) a later
further id call calls a later rest = record { before = call ∷ rest.before; call = rest.call; after = rest.after; are = ap (λ cs. call ∷ cs) rest.are; its = rest.its; rest = rest.rest }

by_answer : (id : ℕ) (call : Call) (calls : List Call) (a : Answer) (later : List Answer) → ((xs : List Answer) → own_answers id calls ≡ xs ++ a ∷ later → CallAmong id calls a later) → (o : Option Answer) → own_answer id call ≡ o → (xs : List Answer) →
    cons_option o (own_answers id calls) ≡ xs ++ a ∷ later → CallAmong id (call ∷ calls) a later
by_answer id call calls a later more None e xs same = further id call calls a later (more xs same)
by_answer id call calls a later more (Some x) e [] same =
    let here : x ≡ a = cc in
    let left : own_answers id calls ≡ later = cc in
    record { before = []; call = call; after = calls; are = refl; its = e ∙ ap Some here; rest = left }
by_answer id call calls a later more (Some x) e (y ∷ xs) same = let left : own_answers id calls ≡ xs ++ a ∷ later = cc in further id call calls a later (more xs left)

call_among : (id : ℕ) (calls : List Call) (first : List Answer) (a : Answer) (later : List Answer) → own_answers id calls ≡ first ++ a ∷ later → CallAmong id calls a later
call_among id [] [] a later is = cc
call_among id [] (x ∷ first) a later is = cc
call_among id (call ∷ calls) first a later is = by_answer id call calls a later (λ xs same. call_among id calls xs a later same) (own_answer id call) refl first is

-- what is so when a command is refused
abbrev IsFullHere : ServiceState → ℕ → Type 0
IsFullHere a id = IsSomeAnd (live_of a.histories id) (λ h. length h.entries ≡ 65536)

abbrev answer_if : Bool → TenantCommand → ItemAnswer → Option Answer
answer_if own command place = if own then Some (command, place) else None

abbrev place_or : ItemAnswer → Option Answer → ItemAnswer
place_or other None = other
place_or other (Some a) = a.1

same_place : (command other : TenantCommand) (p q : ItemAnswer) → answer_if true other p ≡ answer_if true command q → p ≡ q
same_place command other p q is = ap (place_or p) is

refused_then : (a b : ServiceState) (id : ℕ) (call : Call) (command : TenantCommand) (n : Noted) → own_answer id call ≡ Some (command, Note n) → Happens a call b → (n.cause ≡ CauseFull) × IsFullHere a id × (b ≡ a)
refused_then a b id call command n never is = grind arith

-- a journal that is full stays so
take_few : {A : Type 0} (n : ℕ) (xs : List A) → length (take n xs) ≤ length xs
take_few zero xs = omega arith
take_few (suc n) [] = omega arith
take_few (suc n) (x ∷ xs) = let rest : length (take n xs) ≤ length xs = take_few n xs in omega (arith, rest)

abbrev pub IsFull : ServiceState → ℕ → Type 0
IsFull a id = length (journal_of a id) ≡ 65536

full_on : (a b : ServiceState) (id : ℕ) → Follows a b → Kept b → IsFull a id → IsFull b id
full_on a b id follows kept full = by_old (history_of a.histories id) refl full
  where
    by_new : (h : History) (o : Option History) → history_of b.histories id ≡ o → IsSomeAnd o (GoesOn h) → length h.entries ≡ 65536 → length (entries_in o) ≡ 65536
    by_new h None e never all = absurd never
    by_new h (Some g) e goes all =
        let alone : IsAloneOn b.device g = All-history_of (IsAloneOn b.device) b.histories id g e kept.alone in
        let few : length g.entries ≤ 65536 = alone.replayed.few in
        let begins : length (take (length h.entries) g.entries) ≡ length h.entries = ap length goes.entries in
        let within : length (take (length h.entries) g.entries) ≤ length g.entries = take_few (length h.entries) g.entries in
        omega (arith, few, begins, within, all)

    by_old : (o : Option History) → history_of a.histories id ≡ o → length (entries_in o) ≡ 65536 → IsFull b id
    by_old None e never = absurd (omega (arith, never))
    by_old (Some h) e all = by_new h (history_of b.histories id) refl (follows.each id h e) all

-- and no command of its tenancy is served
full_never : (a : ServiceState) (id : ℕ) (command : TenantCommand) (r : Receipted) (o : Option History) → live_of a.histories id ≡ o → Kept a → IsFull a id → IsReceipt o id command r → ⊥
full_never a id command r None e kept full never = never
full_never a id command r (Some h) e kept full is =
    let was : history_of a.histories id ≡ Some h = if_live_some (history_of a.histories id) h e in
    let alone : IsAloneOn a.device h = All-history_of (IsAloneOn a.device) a.histories id h was kept.alone in
    let entries : length h.entries ≡ 65536 = ap (λ o. length (entries_in o)) (sym was) ∙ full in
    let count : (state_of h).entries ≡ 65536 = alone.replayed.count ∙ entries in
    (step-served (state_of h) (Asked command) r.reply is.3).1 count

none_here : (a b : ServiceState) (id : ℕ) (call : Call) → Kept a → IsFull a id → Happens a call b → own_receipt id call ≡ []
none_here a b id call kept full is = grind (arith, full_never)

none_served : (a : ServiceState) (calls : List Call) (b : ServiceState) (id : ℕ) → All IsTurn calls → Run a calls b → Kept a → IsFull a id → own_receipts id calls ≡ []
none_served a [] b id kinds run kept full = refl
none_served a (call ∷ calls) b id kinds run kept full =
    let turn : All IsTurn (call ∷ []) = All-cons IsTurn call [] (All-head IsTurn call calls kinds) (All-nil IsTurn) in
    let follows : Follows a run.0 = (turns_go_on a (call ∷ []) run.0 turn (run.0, run.1, refl)).0 in
    let next : Kept run.0 = kept_after a call run.0 run.1 kept in
    ap (λ rs. rs ++ own_receipts id calls) (none_here a run.0 id call kept full run.1) ∙ none_served run.0 calls b id (All-tail IsTurn call calls kinds) run.2 next (full_on a run.0 id follows next full)

All-later : {A : Type 0} (P : A → Type 0) (before : List A) (x : A) (after : List A) → All P (before ++ x ∷ after) → All P after
All-later P [] x after all = All-tail P x after all
All-later P (y ∷ before) x after all = All-later P before x after (All-tail P y (before ++ x ∷ after) all)

full_at : (a : ServiceState) (id : ℕ) (o : Option History) → live_of a.histories id ≡ o → IsSomeAnd o (λ h. length h.entries ≡ 65536) → IsFull a id
full_at a id o e never = grind arith

-- each note of a conversation
abbrev pub IsFullFrom : ServiceState → ℕ → List (Option ItemAnswer) → Type 0
IsFullFrom service id told = (before after : List (Option ItemAnswer)) (n : Noted) → told ≡ before ++ Some (Note n) ∷ after → (n.cause ≡ CauseFull) × (length (journal_of service id) ≡ 65536) × (receipts_told after ≡ [])

pub full_from : (begun : ServiceState) (calls : List Call) (service : ServiceState) (c : Conversation) (told : List (Option ItemAnswer)) → Kept begun → All IsTurn calls → Run begun calls service → IsAnswered calls c told → IsFullFrom service c.id told
full_from begun calls service c told kept kinds run is = λ before after n same. split_at before after n same
  where
    items : List SessionLine
    items = items_of c.said.input

    split_at : (before after : List (Option ItemAnswer)) (n : Noted) → told ≡ before ++ Some (Note n) ∷ after → (n.cause ≡ CauseFull) × (length (journal_of service c.id) ≡ 65536) × (receipts_told after ≡ [])
    split_at before after n same =
        let whole : List (Option ItemAnswer) = before ++ Some (Note n) ∷ after in
        let noted = note_among c.id items before n after (subst (AllZip (IsTold c.id) items) same is.each) in
        let asked : own_answers c.id calls ≡ noted.first ++ (noted.command, Note n) ∷ noted.later = is.asked ∙ (ap (told_answers items) same ∙ noted.are) in
        let found = call_among c.id calls noted.first (noted.command, Note n) noted.later asked in
        let all : Run begun (found.before ++ found.call ∷ found.after) service = (let P : List Call → Type 0 = λ cs. Run begun cs service in subst P found.are run) in
        let parts = split begun found.before (found.call ∷ found.after) service all in
        let here : ServiceState = parts.0 in
        let next : ServiceState = parts.2.0 in
        let refusal = refused_then here next c.id found.call noted.command n found.its parts.2.1 in
        let now : Kept here = run_keeps begun found.before here parts.1 kept in
        let soon : Kept next = kept_after here found.call next parts.2.1 now in
        let full : IsFull here c.id = full_at here c.id (live_of here.histories c.id) refl refusal.1 in
        let still : IsFull next c.id = (let P : ServiceState → Type 0 = λ s. IsFull s c.id in subst P (sym refusal.2) full) in
        let later : All IsTurn found.after = All-later IsTurn found.before found.call found.after (subst (All IsTurn) found.are kinds) in
        let goes : Follows next service = (turns_go_on next found.after service later parts.2.2).0 in
        let last : Kept service = run_keeps begun calls service run kept in
        let none : own_receipts c.id found.after ≡ [] = none_served next found.after service c.id later parts.2.2 soon still in
        (refusal.0, full_on next service c.id goes last still, sym noted.receipts ∙ (ap (filter_map receipt_by) (sym found.rest) ∙ (receipts_by c.id found.after ∙ none)))
