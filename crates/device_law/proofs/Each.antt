-- What holds of each element of a list, by recursion.
use Rattle.device_law.proofs.Prelude.{◌≡◌, ℕ, zero, suc, List, [], ◌∷◌, ◌++◌, map, Option, Some, subst, ⊤, slice_get, same_Some}

abbrev pub Each : {A : Type 0} → (A → Type 0) → List A → Type 0
Each P [] = ⊤
Each P (x ∷ xs) = P x × Each P xs

pub each-append : {A : Type 0} (P : A → Type 0) (xs ys : List A) → Each P xs → Each P ys → Each P (xs ++ ys)
each-append P [] ys first next = next
each-append P (x ∷ xs) ys first next = (first.0, each-append P xs ys first.1 next)

pub each-weaken : {A : Type 0} (P Q : A → Type 0) → ((a : A) → P a → Q a) → (xs : List A) → Each P xs → Each Q xs
each-weaken P Q leads [] each = tt
each-weaken P Q leads (x ∷ xs) each = (leads x each.0, each-weaken P Q leads xs each.1)

pub each-map : {A B : Type 0} (P : B → Type 0) (f : A → B) (xs : List A) → Each (λ a. P (f a)) xs → Each P (map f xs)
each-map P f [] each = tt
each-map P f (x ∷ xs) each = (each.0, each-map P f xs each.1)

pub each-of_map : {A B : Type 0} (P : B → Type 0) (f : A → B) (xs : List A) → Each P (map f xs) → Each (λ a. P (f a)) xs
each-of_map P f [] each = tt
each-of_map P f (x ∷ xs) each = (each.0, each-of_map P f xs each.1)

pub each-get : {A : Type 0} (P : A → Type 0) (xs : List A) (i : ℕ) (x : A) → Each P xs → slice_get xs i ≡ Some x → P x
each-get P [] i x each is = absurd cc
each-get P (y ∷ ys) zero x each is = subst P (same_Some y x is) each.0
each-get P (y ∷ ys) (suc i) x each is = each-get P ys i x each.1 is
