-- Lists of values.
use Rattle.device_lines.proofs.Prelude.{◌≡◌, ◌+◌, ◌-◌, ◌≤◌, arith, List, [], ◌∷◌, length, map, cond, Bool, true, false, not, Option, Some, None, find, position, refl, ap, ◌∙◌, All, ◌&&◌, is_some, nat_lt, option_map, slice_get, list_all, position_or_len, nat_tests, fails_before_first, slice_get-map, last_of}

pub find_mapped : {A B : Type 0} (p : B → Bool) (f : A → B) (xs : List A) → find p (map f xs) ≡ option_map f (find (λ x. p (f x)) xs)
find_mapped p f [] = refl
find_mapped p f (x ∷ xs) = by (p (f x)) (find_mapped p f xs)
  where
    by : (b : Bool) → find p (map f xs) ≡ option_map f (find (λ x. p (f x)) xs) → cond b (Some (f x)) (find p (map f xs)) ≡ option_map f (cond b (Some x) (find (λ x. p (f x)) xs))
    by true more = refl
    by false more = more

pub all_mapped : {A B : Type 0} (p : B → Bool) (f : A → B) (xs : List A) → list_all p (map f xs) ≡ list_all (λ x. p (f x)) xs
all_mapped p f [] = refl
all_mapped p f (x ∷ xs) = ap (λ b. p (f x) && b) (all_mapped p f xs)

place_mapped : {A B : Type 0} (p : B → Bool) (f : A → B) (xs : List A) → position_or_len p (map f xs) ≡ position_or_len (λ x. p (f x)) xs
place_mapped p f [] = refl
place_mapped p f (x ∷ xs) = ap (λ n. cond (not (p (f x))) (1 + n) 0) (place_mapped p f xs)

mapped_length : {A B : Type 0} (f : A → B) (xs : List A) → length (map f xs) ≡ length xs
mapped_length f [] = refl
mapped_length f (x ∷ xs) = omega (arith, mapped_length f xs)

pub position_mapped : {A B : Type 0} (p : B → Bool) (f : A → B) (xs : List A) → position p (map f xs) ≡ position (λ x. p (f x)) xs
position_mapped p f xs =
    ap (λ n. cond (nat_lt n (length (map f xs))) (Some n) None) (place_mapped p f xs)
    ∙ ap (λ k. cond (nat_lt (position_or_len (λ x. p (f x)) xs) k) (Some (position_or_len (λ x. p (f x)) xs)) None) (mapped_length f xs)

-- nothing passes a test that has no position
pub none_passes : {A : Type 0} (p : A → Bool) (xs : List A) → None ≡ position p xs → All (λ x. p x ≡ false) xs
none_passes p xs is = λ k d inside. fails_before_first p xs k d (omega (arith, inside, past (nat_lt (position_or_len p xs) (length xs)) refl is))
  where
    past : (b : Bool) → nat_lt (position_or_len p xs) (length xs) ≡ b → None ≡ cond b (Some (position_or_len p xs)) None → length xs ≤ position_or_len p xs
    past true e none = cc
    past false e none = grind (arith, nat_tests, e)

pub last_mapped : {A B : Type 0} (f : A → B) (xs : List A) → last_of (map f xs) ≡ option_map f (last_of xs)
last_mapped f xs = ap (λ n. slice_get (map f xs) (n - 1)) (mapped_length f xs) ∙ slice_get-map f xs (length xs - 1)

pub some_mapped : {A B : Type 0} (f : A → B) (o : Option A) → is_some o ≡ is_some (option_map f o)
some_mapped f None = refl
some_mapped f (Some a) = refl
