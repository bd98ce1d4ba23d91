-- Members of lists.
use Rattle.fabric_planes.proofs.Prelude.{◌≡◌, ℕ, suc, ◌⊎◌, List, [], ◌∷◌, map, refl, ap, subst, inl, inr, arith, Contains}

pub in_first : {X : Type 0} (x : X) (xs : List X) → Contains (x ∷ xs) x
in_first x xs = (0, omega arith, refl)

pub in_further : {X : Type 0} (x y : X) (xs : List X) → Contains xs y → Contains (x ∷ xs) y
in_further x y xs c = (suc c.0, omega (arith, c.1), c.2)

pub in_cases : {X : Type 0} (x y : X) (xs : List X) → Contains (x ∷ xs) y → (x ≡ y) ⊎ Contains xs y
in_cases x y xs h1 = grind arith

pub in_none : {X : Type 0} (y : X) → Contains [] y → ⊥
in_none y (k, b, e) = omega (arith, b)

pub in_map : {X : Type 0} (f : X → ℕ) (x : X) (xs : List X) → Contains xs x → Contains (map f xs) (f x)
in_map f x [] c = absurd (in_none x c)
in_map f x (y ∷ xs) c = elim (in_cases y x xs c) [
  | inl e ↦ subst (Contains (f y ∷ map f xs)) (ap f e) (in_first (f y) (map f xs))
  | inr rest ↦ in_further (f y) (f x) (map f xs) (in_map f x xs rest)
]

pub map_in : {X : Type 0} (f : X → ℕ) (v : ℕ) (xs : List X) → Contains (map f xs) v → (x : X) × Contains xs x × (f x ≡ v)
map_in f v [] c = absurd (in_none v c)
map_in f v (y ∷ xs) c = elim (in_cases (f y) v (map f xs) c) [
  | inl e ↦ (y, in_first y xs, e)
  | inr rest ↦ (let found = map_in f v xs rest in (found.0, in_further y found.0 xs found.1, found.2))
]
