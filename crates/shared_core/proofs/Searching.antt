-- A search for a place in a rising list of places.
use Rattle.shared_core.proofs.Prelude.{◌≡◌, ◌≢◌, ℕ, zero, suc, ◌+◌, ◌<◌, ◌≤◌, List, [], ◌∷◌, length, get_or, true, false, eqb, Ok, Err, refl, sym, arith, ◌||◌, Result, is_ok, nat_lt, IsBinarySearchResult, nat_cmp, nat_tests, searched, has_place, AreRising, IsRising}

least_there : (least : ℕ) (ps : List ℕ) (n j : ℕ) → IsRising least ps n → j < length ps → least ≤ get_or ps j 0
least_there least [] n j is lt = absurd (omega arith)
least_there least (p ∷ ps) n zero is lt = is.0
least_there least (p ∷ ps) n (suc j) is lt = let rest = least_there (p + 1) ps n j is.1 (omega arith) in let first = is.0 in omega arith

rises : (least : ℕ) (ps : List ℕ) (n i j : ℕ) → IsRising least ps n → i ≤ j → j < length ps → get_or ps i 0 ≤ get_or ps j 0
rises least [] n i j is le lt = absurd (omega arith)
rises least (p ∷ ps) n zero zero is le lt = omega arith
rises least (p ∷ ps) n zero (suc j) is le lt = let rest = least_there (p + 1) ps n j is.1 (omega arith) in omega arith
rises least (p ∷ ps) n (suc i) zero is le lt = absurd (omega arith)
rises least (p ∷ ps) n (suc i) (suc j) is le lt = rises (p + 1) ps n i j is.1 (omega arith) (omega arith)

has_found : (ps : List ℕ) (place i : ℕ) → i < length ps → get_or ps i 0 ≡ place → has_place ps place ≡ true
has_found [] place i lt is = absurd (omega arith)
has_found (p ∷ ps) place zero lt is = let e : eqb p place ≡ true = grind (arith, nat_tests) in rw e refl
has_found (p ∷ ps) place (suc i) lt is = rw (has_found ps place i (omega arith) is) (elim (eqb p place) as (λ b. (b || true) ≡ true) [ true ↦ refl | false ↦ refl ])

has_not : (ps : List ℕ) (place : ℕ) → ((i : ℕ) → i < length ps → get_or ps i 0 ≢ place) → has_place ps place ≡ false
has_not [] place none = refl
has_not (p ∷ ps) place none =
    let first : p ≢ place = none 0 (omega arith) in
    let e : eqb p place ≡ false = grind (arith, nat_tests) in
    rw e (has_not ps place (λ i lt. none (suc i) (omega arith)))

pub found : (ps : List ℕ) (place : ℕ) (r : Result ℕ ℕ) → AreRising ps → IsBinarySearchResult (λ y. nat_cmp y place) ps r → is_ok r ≡ has_place ps place
found ps place (Ok i) rising is =
    let at = searched ps place (Ok i) is (λ i j le lt. rises 0 ps rising.0 i j rising.1 le lt) in
    sym (has_found ps place i at.0 at.1)
found ps place (Err i) rising is =
    let at = searched ps place (Err i) is (λ i j le lt. rises 0 ps rising.0 i j rising.1 le lt) in
    sym (has_not ps place (λ k lt same. elim (nat_lt k i) as (λ b. nat_lt k i ≡ b → ⊥) [
      | true ↦ λ e. let below = at.1 k (grind (arith, nat_tests)) in absurd (omega arith)
      | false ↦ λ e. let above = at.2 k (grind (arith, nat_tests)) lt in absurd (omega arith)
    ] refl))
