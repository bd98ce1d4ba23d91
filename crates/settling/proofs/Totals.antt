-- As many receipts as marked entries, and as many transcripts as leases: each transcript has all of
-- its journal's.
use Rattle.settling.proofs.Prelude.{◌≡◌, ◌≢◌, ℕ, zero, suc, ◌+◌, ◌-◌, ◌≤◌, List, [], ◌∷◌, ◌++◌, length, Bool, true, false, eqb, Option, Some, refl, sym, ap, ◌∙◌, arith, All, AllPairs, slice_get, if◌then◌else◌, ◌||◌, ◌&&◌, not, option_map, nat_tests, Decides-eqb, All-cons, All-head, All-nil, All-tail, AllPairs-cons, Marked, ShareState, given_in, is_leased, marked_of, places_of, with_changed_marks, leases_in, places_sum, marked_of-remarked, marked_of-zero, TranscriptState, receipts_of, has_id, puts_counted, receipts_in}
use Rattle.settling.proofs.Matching.{Fits, places_told}

-- no two are of one tenancy
abbrev pub are_apart : List TranscriptState → Bool
are_apart [] = true
are_apart (t ∷ ts) = not (has_id ts t.id) && are_apart ts

pub receipts_in-push : (ts : List TranscriptState) (t : TranscriptState) → receipts_in (ts ++ t ∷ []) ≡ receipts_in ts + length (receipts_of t.items)
receipts_in-push [] t = omega arith
receipts_in-push (u ∷ ts) t = omega (arith, receipts_in-push ts t)

pub puts_counted-push : (ss : List ShareState) (s : ShareState) → puts_counted (ss ++ s ∷ []) ≡ puts_counted ss + s.puts
puts_counted-push [] s = omega arith
puts_counted-push (x ∷ ss) s = omega (arith, puts_counted-push ss s)

-- the marks without one tenancy's
abbrev cleared : Marked → Marked
cleared m = record { given = false; places = [] }

in_given : (o : Option Marked) → given_in (option_map cleared o) ≡ false
in_given o = grind arith

leased-cleared : (ms : List Marked) (id other : ℕ) → is_leased (with_changed_marks ms id cleared) other ≡ (if eqb other id then false else is_leased ms other)
leased-cleared ms id other = grind (arith, nat_tests, marked_of-remarked ms id other cleared, in_given (marked_of ms other))

places-cleared : (ms : List Marked) (id other : ℕ) → eqb other id ≡ false → places_of (with_changed_marks ms id cleared) other ≡ places_of ms other
places-cleared ms id other e = grind (arith, nat_tests, marked_of-remarked ms id other cleared)

flag_few : (b : Bool) → (if b then 1 else 0) ≤ 1
flag_few b = grind arith

leases-cleared : (ms : List Marked) (id : ℕ) → leases_in ms ≤ leases_in (with_changed_marks ms id cleared) + 1
leases-cleared [] id = omega arith
leases-cleared (m ∷ ms) id = grind (arith, leases-cleared ms (id - 1))

places_sum-cleared : (ms : List Marked) (id : ℕ) → places_sum ms ≡ length (places_of ms id) + places_sum (with_changed_marks ms id cleared)
places_sum-cleared [] id = omega arith
places_sum-cleared (m ∷ ms) id = grind (arith, places_sum-cleared ms (id - 1))

-- no lease was given
no_leases : (ms : List Marked) → ((id : ℕ) → is_leased ms id ≡ true → ⊥) → leases_in ms ≡ 0
no_leases [] none = refl
no_leases (m ∷ ms) none =
    let rest : leases_in ms ≡ 0 = no_leases ms (λ id is. none (id + 1) (next id is)) in
    by_flag m.given refl rest
  where
    next : (id : ℕ) → is_leased ms id ≡ true → is_leased (m ∷ ms) (id + 1) ≡ true
    next id is = by_test (eqb id 0) refl
      where
        by_test : (b : Bool) → eqb id 0 ≡ b → is_leased (m ∷ ms) (id + 1) ≡ true
        by_test true e = let z : id ≡ 0 = (Decides-eqb id 0).0 e in let never : is_leased ms 0 ≡ true = rw z at is in let no : is_leased ms 0 ≡ false = ap given_in (marked_of-zero ms) in absurd (cc)
        by_test false e = let f : eqb (id + 1) 1 ≡ false = grind (arith, nat_tests) in let back : id + 1 - 1 ≡ id = omega arith in rw (f, back) is

    by_flag : (b : Bool) → m.given ≡ b → leases_in ms ≡ 0 → leases_in (m ∷ ms) ≡ 0
    by_flag true e rest = absurd (none 1 e)
    by_flag false e rest = rw e (omega (arith, rest))

or_left : (a b : Bool) → a ≡ false → (a || b) ≡ true → b ≡ true
or_left a b h1 is = grind arith

rest_has : (t : TranscriptState) (ts : List TranscriptState) (ms : List Marked) → ((id : ℕ) → is_leased ms id ≡ true → has_id (t ∷ ts) id ≡ true) → (id : ℕ) → is_leased (with_changed_marks ms t.id cleared) id ≡ true → has_id ts id ≡ true
rest_has t ts ms there id is = grind (arith, leased-cleared)

-- at least as many transcripts as leases
pub enough : (ts : List TranscriptState) (ms : List Marked) → ((id : ℕ) → is_leased ms id ≡ true → has_id ts id ≡ true) → leases_in ms ≤ length ts
enough [] ms there = let none = no_leases ms (λ id is. let never = there id is in cc) in omega arith
enough (t ∷ ts) ms there = grind (arith, leases-cleared, enough ts (with_changed_marks ms t.id cleared) (rest_has t ts ms there))

-- and if they are as many, no two are of one tenancy
pub apart : (ts : List TranscriptState) (ms : List Marked) → ((id : ℕ) → is_leased ms id ≡ true → has_id ts id ≡ true) → leases_in ms ≡ length ts → are_apart ts ≡ true
apart [] ms there many = refl
apart (t ∷ ts) ms there many = by_test (λ same. apart ts (with_changed_marks ms t.id cleared) (rest_has t ts ms there) same) (has_id ts t.id) refl
  where
    others : leases_in (with_changed_marks ms t.id cleared) ≡ length ts
    others = let few = enough ts (with_changed_marks ms t.id cleared) (rest_has t ts ms there) in let one = leases-cleared ms t.id in omega arith

    again : has_id ts t.id ≡ true → (id : ℕ) → is_leased ms id ≡ true → (b : Bool) → eqb id t.id ≡ b → has_id ts id ≡ true
    again e id is true f = let same : id ≡ t.id = (Decides-eqb id t.id).0 f in rw same e
    again e id is false f = let turned : eqb t.id id ≡ false = grind (arith, nat_tests) in or_left (eqb t.id id) (has_id ts id) turned (there id is)

    by_test : (leases_in (with_changed_marks ms t.id cleared) ≡ length ts → are_apart ts ≡ true) → (b : Bool) → has_id ts t.id ≡ b → (not (has_id ts t.id) && are_apart ts) ≡ true
    by_test ih true e = let all : leases_in ms ≤ length ts = enough ts ms (λ id is. again e id is (eqb id t.id) refl) in absurd (omega arith)
    by_test ih false e = rw e (ih others)

apart-cons : (t : TranscriptState) (ts : List TranscriptState) → are_apart (t ∷ ts) ≡ true → (has_id ts t.id ≡ false) × (are_apart ts ≡ true)
apart-cons t ts is = grind arith

-- a transcript of another tenancy
differs : (t : TranscriptState) (ts : List TranscriptState) (id : ℕ) → has_id (t ∷ ts) id ≡ false → (eqb t.id id ≡ false) × (has_id ts id ≡ false)
differs t ts id none = grind arith

all_differ : (id : ℕ) (ts : List TranscriptState) → has_id ts id ≡ false → All (λ u. id ≢ u.id) ts
all_differ id [] none = All-nil (λ (u : TranscriptState). id ≢ u.id)
all_differ id (t ∷ ts) none =
    let d = differs t ts id none in
    All-cons (λ (u : TranscriptState). id ≢ u.id) t ts (λ same. let e = d.0 in grind (arith, nat_tests)) (all_differ id ts d.1)

pub two_by_two : (ts : List TranscriptState) → are_apart ts ≡ true → AllPairs (λ t u. t.id ≢ u.id) ts
two_by_two [] is = λ i j d low high. absurd (omega arith)
two_by_two (t ∷ ts) is = let a = apart-cons t ts is in AllPairs-cons (λ (x u : TranscriptState). x.id ≢ u.id) t ts (all_differ t.id ts a.0) (two_by_two ts a.1)

-- each transcript's receipts are among its marked entries
abbrev pub AreFit : List Marked → List TranscriptState → Type 0
AreFit ms ts = All (λ t. Fits (receipts_of t.items) (places_of ms t.id)) ts

abbrev pub HavePlaces : List Marked → List TranscriptState → Type 0
HavePlaces ms ts = All (λ t. places_told (receipts_of t.items) ≡ places_of ms t.id) ts

fit-cleared : (ms : List Marked) (id : ℕ) (ts : List TranscriptState) → has_id ts id ≡ false → AreFit ms ts → AreFit (with_changed_marks ms id cleared) ts
fit-cleared ms id [] none all = All-nil (λ (u : TranscriptState). Fits (receipts_of u.items) (places_of (with_changed_marks ms id cleared) u.id))
fit-cleared ms id (t ∷ ts) none all =
    let d = differs t ts id none in
    All-cons (λ (u : TranscriptState). Fits (receipts_of u.items) (places_of (with_changed_marks ms id cleared) u.id)) t ts
    (rw (places-cleared ms id t.id d.0) (All-head (λ (u : TranscriptState). Fits (receipts_of u.items) (places_of ms u.id)) t ts all))
    (fit-cleared ms id ts d.1 (All-tail (λ (u : TranscriptState). Fits (receipts_of u.items) (places_of ms u.id)) t ts all))

places-back : (ms : List Marked) (id : ℕ) (ts : List TranscriptState) → has_id ts id ≡ false → HavePlaces (with_changed_marks ms id cleared) ts → HavePlaces ms ts
places-back ms id [] none all = All-nil (λ (u : TranscriptState). places_told (receipts_of u.items) ≡ places_of ms u.id)
places-back ms id (t ∷ ts) none all =
    let d = differs t ts id none in
    All-cons (λ (u : TranscriptState). places_told (receipts_of u.items) ≡ places_of ms u.id) t ts
    (All-head (λ (u : TranscriptState). places_told (receipts_of u.items) ≡ places_of (with_changed_marks ms id cleared) u.id) t ts all ∙ places-cleared ms id t.id d.0)
    (places-back ms id ts d.1 (All-tail (λ (u : TranscriptState). places_told (receipts_of u.items) ≡ places_of (with_changed_marks ms id cleared) u.id) t ts all))

pub record Exact (ms : List Marked) (ts : List TranscriptState) : Type 0 where
  pub each : HavePlaces ms ts
  pub no_other : (id : ℕ) → has_id ts id ≡ false → places_of ms id ≡ []

pub record Sums (ms : List Marked) (ts : List TranscriptState) : Type 0 where
  pub few : receipts_in ts ≤ places_sum ms
  pub exact : receipts_in ts ≡ places_sum ms → Exact ms ts

none_long : (ps : List ℕ) → length ps ≡ 0 → ps ≡ []
none_long [] none = refl
none_long (p ∷ ps) none = absurd (omega arith)

pub sums : (ms : List Marked) (ts : List TranscriptState) → are_apart ts ≡ true → AreFit ms ts → Sums ms ts
sums ms [] is fit = record {
  few = omega arith;
  exact = λ none. record { each = All-nil (λ (u : TranscriptState). places_told (receipts_of u.items) ≡ places_of ms u.id); no_other = λ id other. none_long (places_of ms id) (omega (arith, places_sum-cleared ms id)) };
}
sums ms (t ∷ ts) is fit =
    let a = apart-cons t ts is in
    let mine : Fits (receipts_of t.items) (places_of ms t.id) = All-head (λ (u : TranscriptState). Fits (receipts_of u.items) (places_of ms u.id)) t ts fit in
    let rest : Sums (with_changed_marks ms t.id cleared) ts = sums (with_changed_marks ms t.id cleared) ts a.1 (fit-cleared ms t.id ts a.0 (All-tail (λ (u : TranscriptState). Fits (receipts_of u.items) (places_of ms u.id)) t ts fit)) in
    let s = places_sum-cleared ms t.id in
    record {
      few = (let f = mine.few in let g = rest.few in omega arith);
      exact = λ same.
          let f = mine.few in
          let g = rest.few in
          let here : length (receipts_of t.items) ≡ length (places_of ms t.id) = omega arith in
          let there : receipts_in ts ≡ places_sum (with_changed_marks ms t.id cleared) = omega arith in
          let others = rest.exact there in
          record {
            each = All-cons (λ (u : TranscriptState). places_told (receipts_of u.items) ≡ places_of ms u.id) t ts (mine.all here) (places-back ms t.id ts a.0 others.each);
            no_other = λ id none. let d = differs t ts id none in let turned : eqb id t.id ≡ false = (let e = d.0 in grind (arith, nat_tests)) in sym (places-cleared ms t.id id turned) ∙ others.no_other id d.1;
          };
    }

-- one of the transcripts is of a tenancy
pub has_id-here : (ts : List TranscriptState) (i : ℕ) (t : TranscriptState) (id : ℕ) → slice_get ts i ≡ Some t → t.id ≡ id → has_id ts id ≡ true
has_id-here [] i t id at is = cc
has_id-here (u ∷ ts) zero t id at is = let same : u ≡ t = cc in let e : eqb u.id id ≡ true = (let f = ap (λ (x : TranscriptState). x.id) same in grind (arith, nat_tests)) in rw e refl
has_id-here (u ∷ ts) (suc i) t id at is = rw (has_id-here ts i t id at is) (elim (eqb u.id id) as (λ b. (b || true) ≡ true) [ true ↦ refl | false ↦ refl ])

pub has_id-push : (ts : List TranscriptState) (t : TranscriptState) (id : ℕ) → has_id ts id ≡ false → eqb t.id id ≡ false → has_id (ts ++ t ∷ []) id ≡ false
has_id-push [] t id none other = rw other refl
has_id-push (u ∷ ts) t id none other = let d = differs u ts id none in rw d.0 (has_id-push ts t id d.1 other)
