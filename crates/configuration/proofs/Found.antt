-- What `find` finds, and members with their index.
use Rattle.configuration.proofs.Prelude.{◌≡◌, ℕ, suc, zero, ◌+◌, Bool, true, false, ◌||◌, List, [], ◌∷◌, cond, Some, slice_get, ap, refl, inl, inr, subst, arith, Contains, enumerate_from, list_any, in_cases, in_later, in_none}
use Rattle.std.specs.Prelude.{find}

pub found_is : {X : Type 0} (test : X → Bool) (xs : List X) (x : X) → find test xs ≡ Some x → Contains xs x × (test x ≡ true)
found_is test [] x e = absurd cc
found_is {X} test (y ∷ xs) x e = grind (arith, in_later, found_is test xs x)

pub find_one : {X : Type 0} (test : X → Bool) (xs : List X) → list_any test xs ≡ true → (x : X) × (find test xs ≡ Some x)
find_one test [] h = absurd cc
find_one {X} test (y ∷ xs) h = by (test y) (find_one test xs) h
  where
    by : (b : Bool) → (list_any test xs ≡ true → (x : X) × (find test xs ≡ Some x)) → (b || list_any test xs) ≡ true → (x : X) × (cond b (Some y) (find test xs) ≡ Some x)
    by true rest h = (y, refl)
    by false rest h = rest h

from_count : {X : Type 0} (start : ℕ) (xs : List X) (k : ℕ) (x : X) → slice_get xs k ≡ Some x → Contains (enumerate_from start xs) (start + k, x)
from_count start [] k x e = absurd cc
from_count {X} start (y ∷ xs) zero x e = grind arith
from_count {X} start (y ∷ xs) (suc k) x e = grind (arith, in_later, from_count (start + 1) xs k x e)

pub indexed : {X : Type 0} (xs : List X) (k : ℕ) (x : X) → slice_get xs k ≡ Some x → Contains (enumerate_from 0 xs) (k, x)
indexed {X} xs k x e = subst (λ (n : ℕ). Contains (enumerate_from 0 xs) (n, x)) (omega arith) (from_count 0 xs k x e)

of_count : {X : Type 0} (start : ℕ) (xs : List X) (n : ℕ) (x : X) → Contains (enumerate_from start xs) (n, x) → (k : ℕ) × (n ≡ start + k) × (slice_get xs k ≡ Some x)
of_count start [] n x c = absurd (in_none (n, x) c)
of_count {X} start (y ∷ xs) n x c = elim (in_cases (start, y) (n, x) (enumerate_from (start + 1) xs) c) [
  | inl e ↦ (zero, first (ap (λ (p : ℕ × X). p.0) e), ap (λ (p : ℕ × X). Some p.1) e)
  | inr d ↦ (let q = of_count (start + 1) xs n x d in let count = q.1 in (suc q.0, omega (arith, count), q.2))
]
  where
    first : start ≡ n → n ≡ start + 0
    first e = omega (arith, e)

pub index_of : {X : Type 0} (xs : List X) (k : ℕ) (x : X) → Contains (enumerate_from 0 xs) (k, x) → slice_get xs k ≡ Some x
index_of {X} xs k x c = let q = of_count 0 xs k x c in let e = q.1 in let same : q.0 ≡ k = omega (arith, e) in subst (λ n. slice_get xs n ≡ Some x) same q.2
