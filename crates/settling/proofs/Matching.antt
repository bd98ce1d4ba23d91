-- Receipts at rising places among the marked ones are at most as many; if they are as many, they
-- are all of them.
use Rattle.settling.proofs.Prelude.{◌≡◌, ℕ, ◌+◌, ◌<◌, ◌≤◌, List, [], ◌∷◌, length, Bool, true, false, eqb, Some, refl, sym, arith, All, AllPairs, map, slice_get, ◌||◌, Decides-eqb, All-cons, All-head, All-nil, All-tail, AllPairs-cons, Receipted, journal_of, CoreState, has_place, places_of, IsRising, Claim, IsBorneOut, claims_in, entry_of}

-- the receipts' places rise, from k on, and are among those
abbrev pub RisesIn : ℕ → List Receipted → List ℕ → Type 0
RisesIn k [] ps = Unit {0}
RisesIn k (r ∷ rs) ps = (k ≤ r.place) × (has_place ps r.place ≡ true) × RisesIn (r.place + 1) rs ps

abbrev pub places_told : List Receipted → List ℕ
places_told rs = map (λ r. r.place) rs

pub record Fits (rs : List Receipted) (ps : List ℕ) : Type 0 where
  pub few : length rs ≤ length ps
  pub all : length rs ≡ length ps → places_told rs ≡ ps

or_right : (a b : Bool) → a ≡ false → (a || b) ≡ true → b ≡ true
or_right a b not is = grind arith

-- past the first place
shift : (k p : ℕ) (rs : List Receipted) (ps : List ℕ) → p + 1 ≤ k → RisesIn k rs (p ∷ ps) → RisesIn k rs ps
shift k p [] ps past is = is
shift k p (r ∷ rs) ps past is = grind (arith, shift (r.place + 1) p rs ps (omega arith) is.2)

-- what is among places that rise from k is at least k
has_least : (k n place : ℕ) (ps : List ℕ) → IsRising k ps n → has_place ps place ≡ true → k ≤ place
has_least k n place [] rising has = cc
has_least k n place (p ∷ ps) rising has = by_test (λ there. has_least (p + 1) n place ps rising.1 there) (eqb p place) refl
  where
    by_test : (has_place ps place ≡ true → p + 1 ≤ place) → (b : Bool) → eqb p place ≡ b → k ≤ place
    by_test ih true e = let same : p ≡ place = (Decides-eqb p place).0 e in let first = rising.0 in omega arith
    by_test ih false e = let rest = ih (or_right (eqb p place) (has_place ps place) e has) in let first = rising.0 in omega arith

pub fits : (k least n : ℕ) (rs : List Receipted) (ps : List ℕ) → IsRising least ps n → RisesIn k rs ps → Fits rs ps
fits k least n [] [] rising is = record { few = omega arith; all = λ same. refl }
fits k least n (r ∷ rs) [] rising is = let never = is.1 in cc
fits k least n [] (p ∷ ps) rising is = record { few = omega arith; all = λ same. absurd (omega arith) }
fits k least n (r ∷ rs) (p ∷ ps) rising is = by_test (eqb p r.place) refl (λ m. fits (r.place + 1) (p + 1) n rs ps rising.1 m) (λ m. fits r.place (p + 1) n (r ∷ rs) ps rising.1 m)
  where
    by_test : (b : Bool) → eqb p r.place ≡ b → (RisesIn (r.place + 1) rs ps → Fits rs ps) → (RisesIn r.place (r ∷ rs) ps → Fits (r ∷ rs) ps) → Fits (r ∷ rs) (p ∷ ps)
    by_test true e ih ih' =
        let same : p ≡ r.place = (Decides-eqb p r.place).0 e in
        let rest : Fits rs ps = ih (shift (r.place + 1) p rs ps (omega arith) is.2) in
        record {
          few = (let f = rest.few in omega arith);
          all = λ many. let tail : places_told rs ≡ ps = rest.all (omega arith) in (λ i. sym same i ∷ tail i);
        }
    by_test false e ih ih' =
        let there : has_place ps r.place ≡ true = or_right (eqb p r.place) (has_place ps r.place) e is.1 in
        let past : p + 1 ≤ r.place = has_least (p + 1) n r.place ps rising.1 there in
        let rest : Fits (r ∷ rs) ps = ih' (omega arith, there, shift (r.place + 1) p rs ps (omega arith) is.2) in
        record {
          few = (let f = rest.few in omega arith);
          all = λ many. let f = rest.few in absurd (omega arith);
        }

-- the receipts that are confirmed
pub rises_in : (core : CoreState) (id least : ℕ) (repeated : Bool) (rs : List Receipted) → All (IsBorneOut core) (claims_in id repeated least rs) → RisesIn least rs (places_of core.marks id)
rises_in core id least repeated [] all = tt
rises_in core id least repeated (r ∷ rs) all =
    let claim : Claim = record { id = id; repeated = repeated; least = least; receipt = r } in
    let rest : List Claim = claims_in id repeated (r.place + 1) rs in
    let good : IsBorneOut core claim = All-head (IsBorneOut core) claim rest all in
    let marked : has_place (places_of core.marks r.id) r.place ≡ true = good.marked in
    (good.rises, rw good.own at marked, rises_in core id (r.place + 1) repeated rs (All-tail (IsBorneOut core) claim rest all))

pub ids_are : (core : CoreState) (id least : ℕ) (repeated : Bool) (rs : List Receipted) → All (IsBorneOut core) (claims_in id repeated least rs) → All (λ r. r.id ≡ id) rs
ids_are core id least repeated [] all = All-nil (λ (r : Receipted). r.id ≡ id)
ids_are core id least repeated (r ∷ rs) all =
    let claim : Claim = record { id = id; repeated = repeated; least = least; receipt = r } in
    let rest : List Claim = claims_in id repeated (r.place + 1) rs in
    let good : IsBorneOut core claim = All-head (IsBorneOut core) claim rest all in
    All-cons (λ (x : Receipted). x.id ≡ id) r rs good.own (ids_are core id (r.place + 1) repeated rs (All-tail (IsBorneOut core) claim rest all))

pub entries_are : (core : CoreState) (id least : ℕ) (repeated : Bool) (rs : List Receipted) → All (IsBorneOut core) (claims_in id repeated least rs) → All (λ r. slice_get (journal_of core.service id) r.place ≡ Some (entry_of r)) rs
entries_are core id least repeated [] all = All-nil (λ (r : Receipted). slice_get (journal_of core.service id) r.place ≡ Some (entry_of r))
entries_are core id least repeated (r ∷ rs) all =
    let claim : Claim = record { id = id; repeated = repeated; least = least; receipt = r } in
    let rest : List Claim = claims_in id repeated (r.place + 1) rs in
    let good : IsBorneOut core claim = All-head (IsBorneOut core) claim rest all in
    let at : slice_get (journal_of core.service r.id) r.place ≡ Some (entry_of r) = good.entry in
    All-cons (λ (x : Receipted). slice_get (journal_of core.service id) x.place ≡ Some (entry_of x)) r rs (rw good.own at at) (entries_are core id (r.place + 1) repeated rs (All-tail (IsBorneOut core) claim rest all))

-- and after the first place that a mark may have
pub since : (core : CoreState) (id least first n : ℕ) (repeated : Bool) (rs : List Receipted) → IsRising first (places_of core.marks id) n → All (IsBorneOut core) (claims_in id repeated least rs) → All (λ r. first ≤ r.place) rs
since core id least first n repeated [] rising all = All-nil (λ (r : Receipted). first ≤ r.place)
since core id least first n repeated (r ∷ rs) rising all =
    let claim : Claim = record { id = id; repeated = repeated; least = least; receipt = r } in
    let rest : List Claim = claims_in id repeated (r.place + 1) rs in
    let good : IsBorneOut core claim = All-head (IsBorneOut core) claim rest all in
    let marked : has_place (places_of core.marks r.id) r.place ≡ true = good.marked in
    All-cons (λ (x : Receipted). first ≤ x.place) r rs (has_least first n r.place (places_of core.marks id) rising (rw good.own at marked)) (since core id (r.place + 1) first n repeated rs rising (All-tail (IsBorneOut core) claim rest all))

-- rising places, two at a time
from_least : (k n : ℕ) (ps : List ℕ) (q : ℕ) → q < k → IsRising k ps n → All (λ p. q < p) ps
from_least k n [] q lt is = All-nil (λ p. q < p)
from_least k n (p ∷ ps) q lt is = All-cons (λ x. q < x) p ps (let f = is.0 in omega arith) (from_least (p + 1) n ps q (let f = is.0 in omega arith) is.1)

pub two_by_two : (k n : ℕ) (ps : List ℕ) → IsRising k ps n → AllPairs (λ p q. p < q) ps
two_by_two k n [] is = λ i j d low high. absurd (omega arith)
two_by_two k n (p ∷ ps) is = AllPairs-cons (λ (a b : ℕ). a < b) p ps (from_least (p + 1) n ps p (omega arith) is.1) (two_by_two (p + 1) n ps is.1)
