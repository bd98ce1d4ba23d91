-- Tenancies by their ids.
use Rattle.service_core.proofs.Prelude.{◌≡◌, ℕ, zero, suc, ◌+◌, ◌-◌, ◌<◌, ◌≤◌, List, [], ◌∷◌, ◌++◌, length, get_or, true, false, eqb, Some, None, refl, subst, arith, option_map, if◌then◌else◌, All, set, nat_tests, All-cons, All-head, All-tail, History, history_of, with_changed}

-- no tenancy has the id 0, or an id past the last
pub history_of-zero : (hs : List History) → history_of hs 0 ≡ None
history_of-zero [] = refl
history_of-zero (h ∷ hs) = history_of-zero hs

pub history_of-past : (hs : List History) (id : ℕ) → length hs < id → history_of hs id ≡ None
history_of-past [] id past = refl
history_of-past (h ∷ hs) id past = grind (arith, nat_tests, history_of-past hs (id - 1) (omega arith))

history_of-next : (hs : List History) (i : ℕ) (d : History) → i < length hs → history_of hs (i + 1) ≡ Some (get_or hs i d)
history_of-next [] i d lt = absurd (omega arith)
history_of-next (h ∷ hs) zero d lt = refl
history_of-next (h ∷ hs) (suc i) d lt = grind (arith, nat_tests, history_of-next hs i d (omega arith))

pub history_of-at : (hs : List History) (id : ℕ) (d : History) → 0 < id → id ≤ length hs → history_of hs id ≡ Some (get_or hs (id - 1) d)
history_of-at hs id d pos le = let e : id - 1 + 1 ≡ id = omega arith in rw e at (history_of-next hs (id - 1) d (omega arith))

pub ruleset by_id = (history_of-zero, history_of-past, history_of-at)

pub length-modified : (hs : List History) (id : ℕ) (change : History → History) → length (with_changed hs id change) ≡ length hs
length-modified [] id change = refl
length-modified (h ∷ hs) id change = grind (arith, nat_tests, length-modified hs (id - 1) change)

modified-next : (hs : List History) (i : ℕ) (d : History) (change : History → History) → i < length hs → with_changed hs (i + 1) change ≡ set hs i (change (get_or hs i d))
modified-next [] i d change lt = absurd (omega arith)
modified-next (h ∷ hs) zero d change lt = refl
modified-next (h ∷ hs) (suc i) d change lt = grind (arith, nat_tests, modified-next hs i d change (omega arith))

-- the changed tenancy is written back
pub set-modified : (hs : List History) (id : ℕ) (old : History) (change : History → History) → 0 < id → id ≤ length hs → old ≡ get_or hs (id - 1) old → set hs (id - 1) (change old) ≡ with_changed hs id change
set-modified hs id old change pos le is = grind (arith, modified-next)

pub All-modified : (P : History → Type 0) (hs : List History) (id : ℕ) (change : History → History) → ((h : History) → history_of hs id ≡ Some h → P h → P (change h)) → All P hs → All P (with_changed hs id change)
All-modified P [] id change keeps all = all
All-modified P (h ∷ hs) id change keeps all =
    elim (eqb id 1) as (λ b. ((g : History) → (if b then Some h else history_of hs (id - 1)) ≡ Some g → P g → P (change g)) → All P (if b then change h ∷ hs else h ∷ with_changed hs (id - 1) change)) [
      | true ↦ λ keep. All-cons P (change h) hs (keep h refl (All-head P h hs all)) (All-tail P h hs all)
      | false ↦ λ keep. All-cons P h (with_changed hs (id - 1) change) (All-head P h hs all) (All-modified P hs (id - 1) change keep (All-tail P h hs all))
    ] keeps

pub history_of-modified : (hs : List History) (id other : ℕ) (change : History → History) → history_of (with_changed hs id change) other ≡ (if eqb other id then option_map change (history_of hs other) else history_of hs other)
history_of-modified [] id other change = grind (arith, nat_tests)
history_of-modified (h ∷ hs) id other change = grind (arith, nat_tests, history_of-modified hs (id - 1) (other - 1) change)

pub history_of-push : (hs : List History) (h : History) (id : ℕ) → history_of (hs ++ h ∷ []) id ≡ (if eqb id (length hs + 1) then Some h else history_of hs id)
history_of-push [] h id = grind (arith, nat_tests)
history_of-push (g ∷ hs) h id = grind (arith, nat_tests, history_of-push hs h (id - 1))

-- what holds of each tenancy holds of the one with that id
pub All-history_of : (P : History → Type 0) (hs : List History) (id : ℕ) (h : History) → history_of hs id ≡ Some h → All P hs → P h
All-history_of P [] id h is all = cc
All-history_of P (g ∷ hs) id h is all =
    elim (eqb id 1) as (λ b. (if b then Some g else history_of hs (id - 1)) ≡ Some h → P h) [
      | true ↦ λ same. let e : g ≡ h = cc in subst P e (All-head P g hs all)
      | false ↦ λ rest. All-history_of P hs (id - 1) h rest (All-tail P g hs all)
    ] is
