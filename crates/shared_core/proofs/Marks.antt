-- Marks by ids.
use Rattle.shared_core.proofs.Prelude.{◌≡◌, ℕ, zero, suc, ◌+◌, ◌-◌, ◌<◌, ◌≤◌, List, [], ◌∷◌, ◌++◌, length, get_or, eqb, Some, None, refl, arith, option_map, if◌then◌else◌, nat_tests, Marked, marked_of, with_changed_marks}
use Rattle.std.proofs.Math.ListN.{set}

-- no marks have the id 0, or one past the last
pub marked_of-zero : (ms : List Marked) → marked_of ms 0 ≡ None
marked_of-zero [] = refl
marked_of-zero (m ∷ ms) = marked_of-zero ms

pub marked_of-past : (ms : List Marked) (id : ℕ) → length ms < id → marked_of ms id ≡ None
marked_of-past [] id past = refl
marked_of-past (m ∷ ms) id past = grind (arith, nat_tests, marked_of-past ms (id - 1) (omega arith))

marked_of-next : (ms : List Marked) (i : ℕ) (d : Marked) → i < length ms → marked_of ms (i + 1) ≡ Some (get_or ms i d)
marked_of-next [] i d lt = absurd (omega arith)
marked_of-next (m ∷ ms) zero d lt = refl
marked_of-next (m ∷ ms) (suc i) d lt = grind (arith, nat_tests, marked_of-next ms i d (omega arith))

pub marked_of-at : (ms : List Marked) (id : ℕ) (d : Marked) → 0 < id → id ≤ length ms → marked_of ms id ≡ Some (get_or ms (id - 1) d)
marked_of-at ms id d pos le = let e : id - 1 + 1 ≡ id = omega arith in rw e at (marked_of-next ms (id - 1) d (omega arith))

pub ruleset by_id = (marked_of-zero, marked_of-past, marked_of-at)

pub length-remarked : (ms : List Marked) (id : ℕ) (change : Marked → Marked) → length (with_changed_marks ms id change) ≡ length ms
length-remarked [] id change = refl
length-remarked (m ∷ ms) id change = grind (arith, nat_tests, length-remarked ms (id - 1) change)

remarked-next : (ms : List Marked) (i : ℕ) (d : Marked) (change : Marked → Marked) → i < length ms → with_changed_marks ms (i + 1) change ≡ set ms i (change (get_or ms i d))
remarked-next [] i d change lt = absurd (omega arith)
remarked-next (m ∷ ms) zero d change lt = refl
remarked-next (m ∷ ms) (suc i) d change lt = grind (arith, nat_tests, remarked-next ms i d change (omega arith))

-- a write of the changed marks
pub set-remarked : (ms : List Marked) (id : ℕ) (old : Marked) (change : Marked → Marked) → 0 < id → id ≤ length ms → old ≡ get_or ms (id - 1) old → set ms (id - 1) (change old) ≡ with_changed_marks ms id change
set-remarked ms id old change pos le is = grind (arith, remarked-next)

pub marked_of-remarked : (ms : List Marked) (id other : ℕ) (change : Marked → Marked) → marked_of (with_changed_marks ms id change) other ≡ (if eqb other id then option_map change (marked_of ms other) else marked_of ms other)
marked_of-remarked [] id other change = grind (arith, nat_tests)
marked_of-remarked (m ∷ ms) id other change = grind (arith, nat_tests, marked_of-remarked ms (id - 1) (other - 1) change)

pub marked_of-push : (ms : List Marked) (m : Marked) (id : ℕ) → marked_of (ms ++ m ∷ []) id ≡ (if eqb id (length ms + 1) then Some m else marked_of ms id)
marked_of-push [] m id = grind (arith, nat_tests)
marked_of-push (g ∷ ms) m id = grind (arith, nat_tests, marked_of-push ms m (id - 1))
