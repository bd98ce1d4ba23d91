-- Sessions of different names are seated, each with a lease of its own.
use Rattle.script_threads.proofs.Prelude.{◌≡◌, ◌≢◌, ◌⊎◌, inl, inr, ℕ, ◌-◌, ◌<◌, ◌≤◌, List, [], ◌∷◌, ◌++◌, Bool, true, false, zero, suc, length, get_or, eqb, Option, refl, sym, ap, ◌∙◌, subst, take, arith, replicate, option_map, if◌then◌else◌, map-append, map-id, bytes_eq-Decides, last_id, SessionInput, AreApart, Said, said_by, GivesLease, CoreState, LeaseState, Marked, with_lease, given_in, is_leased, marked_of, with_changed_marks, no_marks, marked_of-remarked, marked_of-zero, AreFree, GivesOneLease, HasSeat}
use Rattle.std.proofs.Common.{map}

last_id-most : (names : List (List ℕ)) (a : List ℕ) → last_id names a ≤ length names
last_id-most [] a = omega arith
last_id-most (newest ∷ older) a = grind (arith, last_id-most older a)

-- two names with the same last id are one
last_id-same : (names : List (List ℕ)) (a b : List ℕ) → 1 ≤ last_id names a → last_id names a ≡ last_id names b → a ≡ b
last_id-same [] a b least same = absurd (omega arith)
last_id-same (newest ∷ older) a b least same = grind (arith, bytes_eq-Decides, last_id-most, last_id-same older a b)

at_middle : (before : List Said) (s : Said) (rest : List Said) (d : Said) → get_or (before ++ s ∷ rest) (length before) d ≡ s
at_middle [] s rest d = refl
at_middle (t ∷ before) s rest d = at_middle before s rest d

length-middle : (before : List Said) (s : Said) (rest : List Said) → length before < length (before ++ s ∷ rest)
length-middle [] s rest = omega arith
length-middle (t ∷ before) s rest = let ih = length-middle before s rest in omega arith

-- the next of sessions of different names has no seat yet
absent : (names : List (List ℕ)) (before : List Said) (s : Said) (rest : List Said) → AreApart (before ++ s ∷ rest) → 1 ≤ last_id names s.name → HasSeat names before (last_id names s.name) → ⊥
absent names [] s rest apart least has = has
absent names (t ∷ before) s rest apart least (inl same) =
    let differ : t.name ≢ s.name = subst (λ (u : Said). t.name ≢ u.name) (at_middle before s rest s) (apart 0 (suc (length before)) s (omega arith) (let l = length-middle before s rest in omega arith)) in
    differ (sym (last_id-same names s.name t.name least same))
absent names (t ∷ before) s rest apart least (inr later) =
    absent names before s rest (λ i j d below within. apart (suc i) (suc j) d (omega arith) (omega arith)) least later

-- so its lease wasn't given
pub free_next : (names : List (List ℕ)) (marks : List Marked) (before : List Said) (s : Said) (rest : List Said) → AreApart (before ++ s ∷ rest)
    → ((id : ℕ) → is_leased marks id ≡ true → HasSeat names before id) → is_leased marks (last_id names s.name) ≡ false
free_next names marks before s rest apart seated = by_test (is_leased marks (last_id names s.name)) refl
  where
    least : (id : ℕ) → is_leased marks id ≡ true → 1 ≤ id
    least zero leased = let none = ap given_in (marked_of-zero marks) in cc
    least (suc id) leased = omega arith

    by_test : (b : Bool) → is_leased marks (last_id names s.name) ≡ b → b ≡ false
    by_test true e = absurd (absent names before s rest apart (least (last_id names s.name) e) (seated (last_id names s.name) e))
    by_test false e = refl

has_seat-more : (names : List (List ℕ)) (before : List Said) (s : Said) (id : ℕ) → HasSeat names before id → HasSeat names (before ++ s ∷ []) id
has_seat-more names [] s id has = absurd has
has_seat-more names (t ∷ before) s id (inl same) = inl same
has_seat-more names (t ∷ before) s id (inr later) = inr (has_seat-more names before s id later)

has_seat-last : (names : List (List ℕ)) (before : List Said) (s : Said) → HasSeat names (before ++ s ∷ []) (last_id names s.name)
has_seat-last names [] s = inl refl
has_seat-last names (t ∷ before) s = inr (has_seat-last names before s)

-- after it is seated, exactly the sessions that are seated have leases
pub seated_more : (names : List (List ℕ)) (old new : List Marked) (before : List Said) (s : Said) → ((id : ℕ) → is_leased old id ≡ true → HasSeat names before id)
    → GivesOneLease old (last_id names s.name) new → (id : ℕ) → is_leased new id ≡ true → HasSeat names (before ++ s ∷ []) id
seated_more names old new before s seated gives id leased = grind (arith, has_seat-more, has_seat-last)

given_in-mapped : (m : Option Marked) (other id : ℕ) (b : Bool) → eqb other id ≡ b → given_in (if b then option_map with_lease m else m) ≡ true → (given_in m ≡ true) ⊎ (other ≡ id)
given_in-mapped m other id b e leased = grind arith

pub gives_one : (marks : List Marked) (id : ℕ) → GivesOneLease marks id (with_changed_marks marks id with_lease)
gives_one marks id other leased = given_in-mapped (marked_of marks other) other id (eqb other id) refl (sym (ap given_in (marked_of-remarked marks id other with_lease)) ∙ leased)

pub gives_none : (marks : List Marked) (id : ℕ) → GivesOneLease marks id marks
gives_none marks id other leased = inl leased

pub none_given : (count : ℕ) → AreFree (replicate count no_marks)
none_given zero id = refl
none_given (suc count) id = grind (arith, none_given count (id - 1))

pub lease_gives : (old : CoreState) (id : ℕ) (result : Option LeaseState) (new : CoreState) → GivesLease old id result new → GivesOneLease old.marks id new.marks
lease_gives old id result new gives = grind (arith, gives_one)

split : {X : Type 0} (all : List X) (k : ℕ) (x : X) → k < length all → x ≡ get_or all k x → (rest : List X) × (all ≡ take k all ++ x ∷ rest)
split [] k x within is = absurd (omega arith)
split (y ∷ all) zero x within is = (all, ap (λ z. z ∷ all) (sym is))
split (y ∷ all) (suc k) x within is = let more = split all k x (omega arith) is in (more.0, ap (λ zs. y ∷ zs) more.1)

-- among sessions of different names, some of which are seated, the lease of the next one wasn't
-- given
pub free_at : (names : List (List ℕ)) (marks : List Marked) (all before : List SessionInput) (s : SessionInput) → AreApart (map said_by all)
    → map (λ t. t) before ≡ take (length before) all → length before < length all → s ≡ get_or all (length before) s
    → ((id : ℕ) → is_leased marks id ≡ true → HasSeat names (map said_by before) id) → is_leased marks (last_id names s.name.now) ≡ false
free_at names marks all before s apart so_far within is seated =
    let more = split all (length before) s within is in
    let whole : all ≡ before ++ s ∷ more.0 = more.1 ∙ ap (λ ts. ts ++ s ∷ more.0) (sym so_far ∙ map-id before) in
    let said : map said_by all ≡ map said_by before ++ said_by s ∷ map said_by more.0 = ap (map said_by) whole ∙ map-append said_by before (s ∷ more.0) in
    free_next names marks (map said_by before) (said_by s) (map said_by more.0) (subst AreApart said apart) seated
