-- The commands that are served in the calls that led to a settled service are those of the
-- transcripts.
use Rattle.settling.proofs.Prelude.{◌≡◌, ℕ, zero, suc, List, [], ◌∷◌, ◌++◌, length, take, Bool, true, false, eqb, Option, Some, None, Ok, Err, refl, sym, ap, ◌∙◌, arith, All, IsSomeAnd, map, slice_get, if◌then◌else◌, Decides-eqb, All-append, All-cons, All-head, All-nil, All-tail, Command, Reply, Entry, History, Receipted, IsServed, Call, Happens, Run, Admit, Evict, Move, Tenant, Take, Put, GiveBack, Owners, ServiceState, entries_in, history_of, journal_of, history_of-modified, CoreState, ShareState, places_of, Follows, GoesOn, IsReached, is_of_threads, own_receipt, own_receipts, IsOfThreads, run_goes_on, TranscriptState, receipts_of, AreAllCalls, AreMarkedEntries, IsSettled, entry_of}
use Rattle.tenant_slot.specs.declared.event.Event.TheVariants.{Command as Asked}

-- a list that is a beginning of another
abbrev head_or : {A : Type 0} → A → List A → A
head_or d [] = d
head_or d (x ∷ xs) = x

abbrev tail_of : {A : Type 0} → List A → List A
tail_of [] = []
tail_of (x ∷ xs) = xs

begins : (xs ys : List Entry) (n : ℕ) (e : Entry) → take (length xs) ys ≡ xs → slice_get xs n ≡ Some e → slice_get ys n ≡ Some e
begins [] ys n e is at = cc
begins (x ∷ xs) [] n e is at = cc
begins (x ∷ xs) (y ∷ ys) zero e is at = let first : y ≡ x = ap (head_or y) is in ap Some first ∙ at
begins (x ∷ xs) (y ∷ ys) (suc n) e is at = begins xs ys n e (ap tail_of is) at

at_end : (xs : List Entry) (e : Entry) → slice_get (xs ++ e ∷ []) (length xs) ≡ Some e
at_end [] e = refl
at_end (x ∷ xs) e = at_end xs e

-- a receipt is of that tenancy, and is the entry at its place
abbrev pub Stands : ServiceState → ℕ → Receipted → Type 0
Stands s id r = (r.id ≡ id) × (slice_get (journal_of s id) r.place ≡ Some (entry_of r))

stands_on : (a b : ServiceState) (id : ℕ) (r : Receipted) → Follows a b → Stands a id r → Stands b id r
stands_on a b id r follows stands = (stands.0, at_option (history_of a.histories id) refl stands.1)
  where
    at_new : (h : History) (o : Option History) → IsSomeAnd o (GoesOn h) → slice_get h.entries r.place ≡ Some (entry_of r) → slice_get (entries_in o) r.place ≡ Some (entry_of r)
    at_new h None none at = absurd none
    at_new h (Some g) goes at = begins h.entries g.entries r.place (entry_of r) goes.entries at

    at_option : (o : Option History) → history_of a.histories id ≡ o → slice_get (entries_in o) r.place ≡ Some (entry_of r) → slice_get (journal_of b id) r.place ≡ Some (entry_of r)
    at_option None e at = cc
    at_option (Some h) e at = at_new h (history_of b.histories id) (follows.each id h e) at

abbrev hs_of : ServiceState → List History
hs_of s = s.histories

abbrev asked_with : Command → Reply → Entry
asked_with command reply = record { event = Asked command; reply = reply }

served_stands : (a b : ServiceState) (id : ℕ) (command : Command) (r : Receipted) → IsServed a id command (Ok r) b → Stands b id r
served_stands a b id command r is = grind (arith, history_of-modified, at_end)

-- the receipts of a run
one_stands : (a mid b : ServiceState) (id : ℕ) (call : Call) → Happens a call mid → Follows mid b → All (Stands b id) (own_receipt id call)
one_stands a mid b id (Admit width answer) is follows = All-nil (Stands b id)
one_stands a mid b id (Evict t answer) is follows = All-nil (Stands b id)
one_stands a mid b id (Move t offset answer) is follows = All-nil (Stands b id)
one_stands a mid b id (Take t answer) is follows = All-nil (Stands b id)
one_stands a mid b id (Put done foreign answer) is follows = All-nil (Stands b id)
one_stands a mid b id (GiveBack job) is follows = All-nil (Stands b id)
one_stands a mid b id (Owners list) is follows = All-nil (Stands b id)
one_stands a mid b id (Tenant t command (Err refusal)) is follows = All-nil (Stands b id)
one_stands a mid b id (Tenant t command (Ok r)) is follows = by_test (eqb t id) refl
  where
    by_test : (test : Bool) → eqb t id ≡ test → All (Stands b id) (if test then r ∷ [] else [])
    by_test false e = All-nil (Stands b id)
    by_test true e =
        let same : t ≡ id = (Decides-eqb t id).0 e in
        let mine : Stands b t r = stands_on mid b t r follows (served_stands a mid t command r is) in
        All-cons (Stands b id) r [] (rw same at mine) (All-nil (Stands b id))

pub own_stand : (a : ServiceState) (calls : List Call) (b : ServiceState) (id : ℕ) → All IsOfThreads calls → Run a calls b → All (Stands b id) (own_receipts id calls)
own_stand a [] b id kinds run = All-nil (Stands b id)
own_stand a (call ∷ calls) b id kinds run =
    let later : All IsOfThreads calls = All-tail IsOfThreads call calls kinds in
    All-append (Stands b id) (own_receipt id call) (own_receipts id calls) (one_stands a run.0 b id call run.1 (run_goes_on run.0 calls b later run.2).0) (own_stand run.0 calls b id later run.2)

-- receipts of one journal that have the same places are the same
abbrev receipt_of : ℕ → ℕ → Command → Reply → Receipted
receipt_of id place command reply = record { id = id; place = place; command = command; reply = reply }

all_same : (a a' b b' : ℕ) (c c' : Command) (d d' : Reply) → a ≡ a' → b ≡ b' → c ≡ c' → d ≡ d' → receipt_of a b c d ≡ receipt_of a' b' c' d'
all_same a a' b b' c c' d d' p q r s = rw (p, q, r, s) refl

same_receipts : (s : ServiceState) (id : ℕ) (rs qs : List Receipted) → map (λ r. r.place) rs ≡ map (λ r. r.place) qs → All (Stands s id) rs → All (Stands s id) qs → rs ≡ qs
same_receipts s id [] [] places one two = refl
same_receipts s id [] (q ∷ qs) places one two = cc
same_receipts s id (r ∷ rs) [] places one two = cc
same_receipts s id (r ∷ rs) (q ∷ qs) places one two = grind (arith, All-head, same_receipts s id rs qs (ap tail_of places) (All-tail (Stands s id) r rs one) (All-tail (Stands s id) q qs two))

none_there : (rs : List Receipted) → map (λ r. r.place) rs ≡ [] → rs ≡ []
none_there [] none = refl
none_there (r ∷ rs) none = cc

pub all_calls : (begun : ServiceState) (core : CoreState) (ts : List TranscriptState) (shares : List ShareState) → IsSettled begun core ts shares → IsReached begun core.service core.marks → AreAllCalls begun core.service ts
all_calls begun core ts shares settled was = record {
  calls = was.calls;
  run = was.run;
  kinds = was.kinds;
  told = λ k d within. told_in _ (settled.each k d within);
  no_other = λ id none. none_there (own_receipts id was.calls) (was.commands id ∙ settled.no_other id none);
}
  where
    told_in : (t : TranscriptState) → AreMarkedEntries begun core t → own_receipts t.id was.calls ≡ receipts_of t.items
    told_in t marked = same_receipts core.service t.id (own_receipts t.id was.calls) (receipts_of t.items) (was.commands t.id ∙ sym marked.places) (own_stand begun was.calls core.service t.id was.kinds was.run) (λ k d within. (marked.ids k d within, marked.entries k d within))
