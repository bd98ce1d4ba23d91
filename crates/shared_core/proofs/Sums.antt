-- The sums over the marks after a change of the marks.
use Rattle.shared_core.proofs.Prelude.{◌≡◌, ℕ, zero, suc, ◌+◌, ◌-◌, ◌≤◌, List, [], ◌∷◌, ◌++◌, length, Bool, true, false, eqb, Option, Some, refl, ap, ◌∙◌, arith, length-append, if◌then◌else◌, option_map, nat_tests, Marked, with_lease, marked_of, places_in, places_of, with_changed_marks, no_marks, with_place, IsRising, leases_in, places_sum}
use Rattle.std.specs.Prelude.{replicate}
use Rattle.shared_core.proofs.Marks.{marked_of-past, marked_of-push, marked_of-remarked}

pub places_sum-place : (ms : List Marked) (id place : ℕ) (m : Marked) → marked_of ms id ≡ Some m → places_sum (with_changed_marks ms id (with_place place)) ≡ places_sum ms + 1
places_sum-place [] id place m at = cc
places_sum-place (g ∷ ms) id place m at =
    elim (eqb id 1) as (λ b. (if b then Some g else marked_of ms (id - 1)) ≡ Some m → places_sum (if b then with_place place g ∷ ms else g ∷ with_changed_marks ms (id - 1) (with_place place)) ≡ places_sum (g ∷ ms) + 1) [
      | true ↦ λ here. omega (arith, length-append g.places (place ∷ []))
      | false ↦ λ there. omega (arith, places_sum-place ms (id - 1) place m there)
    ] at

pub places_sum-given : (ms : List Marked) (id : ℕ) → places_sum (with_changed_marks ms id with_lease) ≡ places_sum ms
places_sum-given [] id = refl
places_sum-given (g ∷ ms) id = grind (arith, places_sum-given ms (id - 1))

pub places_sum-push : (ms : List Marked) → places_sum (ms ++ no_marks ∷ []) ≡ places_sum ms
places_sum-push [] = refl
places_sum-push (g ∷ ms) = omega (arith, places_sum-push ms)

pub leases_in-place : (ms : List Marked) (id place : ℕ) → leases_in (with_changed_marks ms id (with_place place)) ≡ leases_in ms
leases_in-place [] id place = refl
leases_in-place (g ∷ ms) id place = grind (arith, leases_in-place ms (id - 1) place)

pub leases_in-given : (ms : List Marked) (id : ℕ) (m : Marked) → marked_of ms id ≡ Some m → m.given ≡ false → leases_in (with_changed_marks ms id with_lease) ≡ leases_in ms + 1
leases_in-given [] id m at free = cc
leases_in-given (g ∷ ms) id m at free =
    elim (eqb id 1) as (λ b. (if b then Some g else marked_of ms (id - 1)) ≡ Some m → leases_in (if b then with_lease g ∷ ms else g ∷ with_changed_marks ms (id - 1) with_lease) ≡ leases_in (g ∷ ms) + 1) [
      | true ↦ λ here. let same : g ≡ m = cc in let none : g.given ≡ false = ap (λ (x : Marked). x.given) same ∙ free in rw none (omega arith)
      | false ↦ λ there. omega (arith, leases_in-given ms (id - 1) m there free)
    ] at

pub leases_in-push : (ms : List Marked) → leases_in (ms ++ no_marks ∷ []) ≡ leases_in ms
leases_in-push [] = refl
leases_in-push (g ∷ ms) = omega (arith, leases_in-push ms)

flag_few : (b : Bool) → (if b then 1 else 0) ≤ 1
flag_few b = grind arith

pub leases_in-few : (ms : List Marked) → leases_in ms ≤ length ms
leases_in-few [] = omega arith
leases_in-few (m ∷ ms) = omega (arith, flag_few m.given, leases_in-few ms)

-- the sums over the first marks
pub places_sum-none : (n : ℕ) → places_sum (replicate n no_marks) ≡ 0
places_sum-none zero = refl
places_sum-none (suc n) = omega (arith, places_sum-none n)

pub leases_in-none : (n : ℕ) → leases_in (replicate n no_marks) ≡ 0
leases_in-none zero = refl
leases_in-none (suc n) = omega (arith, leases_in-none n)

pub places_of-none : (n id : ℕ) → places_of (replicate n no_marks) id ≡ []
places_of-none zero id = refl
places_of-none (suc n) id = elim (eqb id 1) as (λ b. places_in (if b then Some no_marks else marked_of (replicate n no_marks) (id - 1)) ≡ []) [ true ↦ refl | false ↦ places_of-none n (id - 1) ]

-- the places of an id after a change
in_given : (o : Option Marked) → places_in (option_map with_lease o) ≡ places_in o
in_given o = grind arith

pub places_of-given : (ms : List Marked) (id other : ℕ) → places_of (with_changed_marks ms id with_lease) other ≡ places_of ms other
places_of-given ms id other = grind (arith, nat_tests, marked_of-remarked ms id other with_lease, in_given (marked_of ms other))

pub places_of-push : (ms : List Marked) (id : ℕ) → places_of (ms ++ no_marks ∷ []) id ≡ places_of ms id
places_of-push ms id = grind (arith, marked_of-past, marked_of-push)

in_placed : (place : ℕ) (o : Option Marked) (m : Marked) → o ≡ Some m → places_in (option_map (with_place place) o) ≡ places_in o ++ place ∷ []
in_placed place o m is = grind arith

pub places_of-place : (ms : List Marked) (id place : ℕ) (m : Marked) → marked_of ms id ≡ Some m → places_of (with_changed_marks ms id (with_place place)) id ≡ places_of ms id ++ place ∷ []
places_of-place ms id place m at = grind (arith, nat_tests, marked_of-remarked ms id id (with_place place), in_placed place (marked_of ms id) m at)

pub places_of-other : (ms : List Marked) (id other place : ℕ) → eqb other id ≡ false → places_of (with_changed_marks ms id (with_place place)) other ≡ places_of ms other
places_of-other ms id other place e = grind (arith, nat_tests, marked_of-remarked ms id other (with_place place))

-- rising places
pub rising-longer : (least : ℕ) (ps : List ℕ) (n m : ℕ) → n ≤ m → IsRising least ps n → IsRising least ps m
rising-longer least [] n m le is = omega arith
rising-longer least (p ∷ ps) n m le is = (is.0, rising-longer (p + 1) ps n m le is.1)

pub rising-push : (least : ℕ) (ps : List ℕ) (n : ℕ) → IsRising least ps n → IsRising least (ps ++ n ∷ []) (n + 1)
rising-push least [] n is = (is, omega arith)
rising-push least (p ∷ ps) n is = (is.0, rising-push (p + 1) ps n is.1)

pub rising-from_zero : (least : ℕ) (ps : List ℕ) (n : ℕ) → IsRising least ps n → IsRising 0 ps n
rising-from_zero least [] n is = omega arith
rising-from_zero least (p ∷ ps) n is = (omega arith, is.1)
