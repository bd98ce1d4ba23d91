-- Members of lists.
use Rattle.plane_search.proofs.Prelude.{◌≡◌, ℕ, zero, suc, refl, ◌+◌, ◌<◌, ◌≤◌, ◌⊎◌, List, [], ◌∷◌, length, get_or, map, set, take, drop, ◌++◌, add-one, arith, ◌∙◌, sym, ap, Contains, get_or_default, get_or-map, length-map}

pub Contains-first : {X : Type 0} (x : X) (xs : List X) → Contains (x ∷ xs) x
Contains-first x xs = (0, omega arith, refl)

pub Contains_further : {X : Type 0} (x y : X) (xs : List X) → Contains xs y → Contains (x ∷ xs) y
Contains_further x y xs c = (suc c.0, omega (arith, c.1), c.2)

pub Contains_cases : {X : Type 0} (x y : X) (xs : List X) → Contains (x ∷ xs) y → (x ≡ y) ⊎ Contains xs y
Contains_cases x y xs h1 = grind arith

-- the only element
pub only_contained : (x y : ℕ) → Contains (x ∷ []) y → y ≡ x
only_contained x y h1 = grind arith

-- the element's index
pub at_index : (xs : List ℕ) (x : ℕ) → Contains xs x → (k : ℕ) × (k < length xs) × (get_or xs k 0 ≡ x)
at_index xs x c = (c.0, c.1, get_or_default xs c.0 0 x c.1 ∙ c.2)

-- the end that a list and a base represent
pub listed_end : (xs list : List ℕ) (base k : ℕ) → map (λ end. end + base) list ≡ xs → k < length list → (k < length xs) × (get_or xs k 0 ≡ get_or list k 0 + base) × Contains xs (get_or list k 0 + base)
listed_end xs list base k e l =
    let b : k < length xs = omega (arith, l, length-map list (λ end. end + base), ap length e) in
    let at : (d : ℕ) → get_or xs k d ≡ get_or list k 0 + base = λ d. rw (sym e) (get_or-map (λ end. end + base) list k 0 d l) in
    (b, at 0, (k, b, at _))

pub past_listed : (xs list : List ℕ) (base k : ℕ) → map (λ end. end + base) list ≡ xs → length list ≤ k → length xs ≤ k
past_listed xs list base k e l = omega (arith, l, length-map list (λ end. end + base), ap length e)

-- one more index
pub below_next : (P : ℕ → Type 0) (count : ℕ) → ((k : ℕ) → k < count → P k) → P count → (k : ℕ) → k < count + 1 → P k
below_next P count before here k l = grind arith

-- the elements before an index mapped, and the others as they were
numbered_suc : (h : ℕ → ℕ) (old : List ℕ) (i : ℕ) → i < length old → set (map h (take i old) ++ drop i old) i (h (get_or (map h (take i old) ++ drop i old) i 0)) ≡ map h (take (suc i) old) ++ drop (suc i) old
numbered_suc h [] i l = absurd (omega (arith, l))
numbered_suc h (x ∷ []) zero l = refl
numbered_suc h (x ∷ y ∷ ys) zero l = refl
numbered_suc h (x ∷ xs) (suc k) l = ap (λ (z : List ℕ). h x ∷ z) (numbered_suc h xs k (omega (arith, l)))

pub numbered_more : (h : ℕ → ℕ) (old items : List ℕ) (i r : ℕ) → i < length old → items ≡ map h (take i old) ++ drop i old → r ≡ h (get_or items i 0) → set items i r ≡ map h (take (i + 1) old) ++ drop (i + 1) old
numbered_more h old items i r l e f = rw (f, e, add-one) (numbered_suc h old i l)
