-- Properties that hold for each element of a list.
use Rattle.replies_law.proofs.Prelude.{ℕ, zero, suc, Bool, List, [], ◌∷◌, ◌++◌, take, drop, map, get_or, arith, ⊤, filter}
use Rattle.std.specs.Prelude.{flat_map}

abbrev pub Each : {A : Type 0} → (A → Type 0) → List A → Type 0
Each P [] = ⊤
Each P (x ∷ xs) = P x × Each P xs

pub each-append : {A : Type 0} (P : A → Type 0) (xs ys : List A) → Each P xs → Each P ys → Each P (xs ++ ys)
each-append P [] ys first next = next
each-append P (x ∷ xs) ys first next = (first.0, each-append P xs ys first.1 next)

pub each-take : {A : Type 0} (P : A → Type 0) (n : ℕ) (xs : List A) → Each P xs → Each P (take n xs)
each-take P zero xs each = tt
each-take P (suc n) [] each = tt
each-take P (suc n) (x ∷ xs) each = (each.0, each-take P n xs each.1)

pub each-drop : {A : Type 0} (P : A → Type 0) (n : ℕ) (xs : List A) → Each P xs → Each P (drop n xs)
each-drop P zero xs each = each
each-drop P (suc n) [] each = tt
each-drop P (suc n) (x ∷ xs) each = each-drop P n xs each.1

pub each-filter : {A : Type 0} (P : A → Type 0) (test : A → Bool) (xs : List A) → Each P xs → Each P (filter test xs)
each-filter P test [] each = tt
each-filter P test (x ∷ xs) each = grind (arith, each-filter P test xs each.1)

pub each-map : {A B : Type 0} (P : A → Type 0) (Q : B → Type 0) (f : A → B) → ((a : A) → P a → Q (f a)) → (xs : List A) → Each P xs → Each Q (map f xs)
each-map P Q f leads [] each = tt
each-map P Q f leads (x ∷ xs) each = (leads x each.0, each-map P Q f leads xs each.1)

pub each-flat_map : {A B : Type 0} (P : A → Type 0) (Q : B → Type 0) (f : A → List B) → ((a : A) → P a → Each Q (f a)) → (xs : List A) → Each P xs → Each Q (flat_map f xs)
each-flat_map P Q f leads [] each = tt
each-flat_map P Q f leads (x ∷ xs) each = each-append Q (f x) (flat_map f xs) (leads x each.0) (each-flat_map P Q f leads xs each.1)

pub each-get : {A : Type 0} (P : A → Type 0) (xs : List A) (k : ℕ) (d : A) → Each P xs → P d → P (get_or xs k d)
each-get P [] k d each other = other
each-get P (x ∷ xs) zero d each other = each.0
each-get P (x ∷ xs) (suc k) d each other = each-get P xs k d each.1 other
