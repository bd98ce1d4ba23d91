-- If all receipts are confirmed, and all leases and shares are there, all is settled.
use Rattle.settling.proofs.Prelude.{◌≡◌, ◌+◌, List, [], ◌∷◌, ◌++◌, length, Bool, sym, arith, All, All-cons, All-head, All-nil, All-tail, ServiceState, CoreState, ShareState, places_of, puts_in, AreMarks, leases_in, places_sum, TranscriptState, receipts_of, AreAllThere, AreMarkedEntries, Claim, IsBorneOut, IsFullIfTold, IsSettled, claims_from, claims_in, claims_of, has_id, puts_counted, receipts_in}
use Rattle.settling.proofs.Matching.{Fits, entries_are, fits, ids_are, places_told, rises_in, since}
use Rattle.settling.proofs.Matching as Matching
use Rattle.settling.proofs.Totals.{AreFit, Exact, HavePlaces, apart, sums}
use Rattle.settling.proofs.Totals as Totals

all-left : {A : Type 0} (P : A → Type 0) (xs ys : List A) → All P (xs ++ ys) → All P xs
all-left P [] ys all = All-nil P
all-left P (x ∷ xs) ys all = All-cons P x xs (All-head P x (xs ++ ys) all) (all-left P xs ys (All-tail P x (xs ++ ys) all))

all-right : {A : Type 0} (P : A → Type 0) (xs ys : List A) → All P (xs ++ ys) → All P ys
all-right P [] ys all = all
all-right P (x ∷ xs) ys all = all-right P xs ys (All-tail P x (xs ++ ys) all)

-- the receipts of one transcript are confirmed
abbrev Good : CoreState → TranscriptState → Type 0
Good core t = (repeated : Bool) × All (IsBorneOut core) (claims_in t.id repeated 0 (receipts_of t.items))

each_good : (core : CoreState) (earlier ts : List TranscriptState) → All (IsBorneOut core) (claims_from earlier ts) → All (Good core) ts
each_good core earlier [] all = All-nil (Good core)
each_good core earlier (t ∷ ts) all =
    let mine : List Claim = claims_in t.id (has_id earlier t.id) 0 (receipts_of t.items) in
    let rest : List Claim = claims_from (earlier ++ t ∷ []) ts in
    All-cons (Good core) t ts (has_id earlier t.id, all-left (IsBorneOut core) mine rest all) (each_good core (earlier ++ t ∷ []) ts (all-right (IsBorneOut core) mine rest all))

one_fits : (begun : ServiceState) (core : CoreState) (t : TranscriptState) → AreMarks begun.histories core.service.histories core.marks → Good core t → Fits (receipts_of t.items) (places_of core.marks t.id)
one_fits begun core t marks good = fits 0 _ _ (receipts_of t.items) (places_of core.marks t.id) (marks.rising t.id) (rises_in core t.id 0 good.0 (receipts_of t.items) good.1)

all_fit : (begun : ServiceState) (core : CoreState) (ts : List TranscriptState) → AreMarks begun.histories core.service.histories core.marks → All (Good core) ts → AreFit core.marks ts
all_fit begun core [] marks good = All-nil (λ (u : TranscriptState). Fits (receipts_of u.items) (places_of core.marks u.id))
all_fit begun core (t ∷ ts) marks good = All-cons (λ (u : TranscriptState). Fits (receipts_of u.items) (places_of core.marks u.id)) t ts (one_fits begun core t marks (All-head (Good core) t ts good)) (all_fit begun core ts marks (All-tail (Good core) t ts good))

one_marked : (begun : ServiceState) (core : CoreState) (t : TranscriptState) → AreMarks begun.histories core.service.histories core.marks → Good core t → places_told (receipts_of t.items) ≡ places_of core.marks t.id → AreMarkedEntries begun core t
one_marked begun core t marks good are = record {
  places = are;
  rising = Matching.two_by_two _ _ (places_of core.marks t.id) (marks.rising t.id);
  since = since core t.id 0 _ _ good.0 (receipts_of t.items) (marks.rising t.id) good.1;
  ids = ids_are core t.id 0 good.0 (receipts_of t.items) good.1;
  entries = entries_are core t.id 0 good.0 (receipts_of t.items) good.1;
}

all_marked : (begun : ServiceState) (core : CoreState) (ts : List TranscriptState) → AreMarks begun.histories core.service.histories core.marks → All (Good core) ts → HavePlaces core.marks ts → All (AreMarkedEntries begun core) ts
all_marked begun core [] marks good are = All-nil (AreMarkedEntries begun core)
all_marked begun core (t ∷ ts) marks good are = search (one_marked, arith)

pub settled : (begun : ServiceState) (core : CoreState) (ts : List TranscriptState) (shares : List ShareState) → AreMarks begun.histories core.service.histories core.marks → AreAllThere core ts (length shares) → All (IsBorneOut core) (claims_of ts) → length ts ≡ leases_in core.marks → receipts_in ts ≡ places_sum core.marks → All (IsFullIfTold core.service) ts → puts_counted shares + core.own_puts ≡ puts_in core.service.histories → IsSettled begun core ts shares
settled begun core ts shares marks there good many told full puts =
    let each : All (Good core) ts = each_good core [] ts good in
    let distinct = apart ts core.marks there.leases (sym many) in
    let exact : Exact core.marks ts = (sums core.marks ts distinct (all_fit begun core ts marks each)).exact told in
    record {
      there = there;
      apart = Totals.two_by_two ts distinct;
      each = all_marked begun core ts marks each exact.each;
      no_other = exact.no_other;
      full = full;
      puts = sym puts;
    }
