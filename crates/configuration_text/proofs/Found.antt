-- The first element of a list that passes a test.
use Rattle.configuration_text.proofs.Prelude.{◌≡◌, ℕ, ◌+◌, ◌≤◌, Bool, true, false, List, [], ◌∷◌, ◌++◌, cond, drop, filter, length, map, Option, Some, None, option_map, sym, ap, refl, ◌∙◌, slice_get, find, enumerate_from, flat_map, at_drop_all}
use Rattle.configuration_text.proofs.Rest.{rest_more}

module _ {X : Type 0} (p : X → Bool) (xs : List X) (i : ℕ) (r : Option X) (h : find p (drop i xs) ≡ r) where
  pub find_hit : (x : X) → slice_get xs i ≡ Some x → p x ≡ true → Some x ≡ r
  find_hit x get is = sym (rest_more (find p) xs i x get ∙ ap (λ (b : Bool). cond b (Some x) (find p (drop (i + 1) xs))) is) ∙ h

  pub find_miss : (x : X) → slice_get xs i ≡ Some x → p x ≡ false → find p (drop (i + 1) xs) ≡ r
  find_miss x get is = sym (rest_more (find p) xs i x get ∙ ap (λ (b : Bool). cond b (Some x) (find p (drop (i + 1) xs))) is) ∙ h

  pub find_end : length xs ≤ i → None ≡ r
  find_end long = sym (at_drop_all (find p) xs i long) ∙ h

-- the first of several lists
pub first_here : {X : Type 0} (xs ys : List X) (x : X) → slice_get xs 0 ≡ Some x → slice_get (xs ++ ys) 0 ≡ Some x
first_here [] ys x e = absurd cc
first_here (y ∷ xs) ys x e = e

pub first_later : {X : Type 0} (xs ys : List X) → slice_get xs 0 ≡ None → slice_get (xs ++ ys) 0 ≡ slice_get ys 0
first_later [] ys e = refl
first_later (y ∷ xs) ys e = absurd cc

module _ {X Y : Type 0} (f : X → List Y) (xs : List X) (i : ℕ) (x : X) (r : Option Y) (get : slice_get xs i ≡ Some x) (h : slice_get (flat_map f (drop i xs)) 0 ≡ r) where
  pub first_found : (y : Y) → slice_get (f x) 0 ≡ Some y → Some y ≡ r
  first_found y e = sym (rest_more (λ zs. slice_get (flat_map f zs) 0) xs i x get ∙ first_here (f x) (flat_map f (drop (i + 1) xs)) y e) ∙ h

  pub first_passed : slice_get (f x) 0 ≡ None → slice_get (flat_map f (drop (i + 1) xs)) 0 ≡ r
  first_passed e = sym (rest_more (λ zs. slice_get (flat_map f zs) 0) xs i x get ∙ first_later (f x) (flat_map f (drop (i + 1) xs)) e) ∙ h

pub first_end : {X Y : Type 0} (f : X → List Y) (xs : List X) (i : ℕ) (r : Option Y) → length xs ≤ i → slice_get (flat_map f (drop i xs)) 0 ≡ r → None ≡ r
first_end f xs i r long h = sym (at_drop_all (λ zs. slice_get (flat_map f zs) 0) xs i long) ∙ h

-- the index of the first element that passes
module _ {X : Type 0} (p : ℕ × X → Bool) (xs : List X) (i : ℕ) (r : Option (ℕ × X)) (h : slice_get (filter p (enumerate_from i (drop i xs))) 0 ≡ r) where
  pub index_hit : (x : X) → slice_get xs i ≡ Some x → p (i, x) ≡ true → Some i ≡ option_map (λ at. at.0) r
  index_hit x get is =
      let here : slice_get (filter p (enumerate_from i (drop i xs))) 0 ≡ Some (i, x) =
      rest_more (λ ys. slice_get (filter p (enumerate_from i ys)) 0) xs i x get
      ∙ ap (λ (b : Bool). slice_get (cond b ((i, x) ∷ filter p (enumerate_from (i + 1) (drop (i + 1) xs))) (filter p (enumerate_from (i + 1) (drop (i + 1) xs)))) 0) is in
      ap (option_map (λ at. at.0)) (sym here ∙ h)

  pub index_miss : (x : X) → slice_get xs i ≡ Some x → p (i, x) ≡ false → slice_get (filter p (enumerate_from (i + 1) (drop (i + 1) xs))) 0 ≡ r
  index_miss x get is =
      sym (rest_more (λ ys. slice_get (filter p (enumerate_from i ys)) 0) xs i x get
      ∙ ap (λ (b : Bool). slice_get (cond b ((i, x) ∷ filter p (enumerate_from (i + 1) (drop (i + 1) xs))) (filter p (enumerate_from (i + 1) (drop (i + 1) xs)))) 0) is) ∙ h

  pub index_end : length xs ≤ i → None ≡ option_map (λ at. at.0) r
  index_end long = ap (option_map (λ at. at.0)) (sym (at_drop_all (λ ys. slice_get (filter p (enumerate_from i ys)) 0) xs i long) ∙ h)

-- what is made of the index of the first element
pub made_of_first : {X Y : Type 0} (g : ℕ → Y) (xs : List (ℕ × X)) (o : Option ℕ) → o ≡ option_map (λ at. at.0) (slice_get xs 0) → option_map g o ≡ slice_get (map (λ at. g at.0) xs) 0
made_of_first g [] o e = ap (option_map g) e
made_of_first g (x ∷ xs) o e = ap (option_map g) e
