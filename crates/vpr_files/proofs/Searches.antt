-- The first index at which a test passes, searched from the front.
use Rattle.vpr_files.proofs.Prelude.{◌≡◌, ℕ, ◌+◌, ◌≤◌, Bool, true, false, cond, List, length, drop, Option, Some, None, sym, ap, ◌∙◌, position, arith, position_from, at_drop_more, at_drop_all, slice_get_within, get_or_from_slice_get, position_from-zero}
use Rattle.std.specs.List.{slice_get}

-- the search before the first element
pub search_none : {X : Type 0} (p : X → Bool) (xs : List X) → position_from p 0 xs ≡ position p xs
search_none p xs = sym (position_from-zero p xs)

-- the remaining elements begin with this one
left_at : {X : Type 0} (p : X → Bool) (xs : List X) (i : ℕ) (x : X) → slice_get xs i ≡ Some x → position_from p i (drop i xs) ≡ cond (p x) (Some i) (position_from p (i + 1) (drop (i + 1) xs))
left_at p xs i x e = grind (arith, at_drop_more (position_from p i) xs i x (slice_get_within xs i x e), get_or_from_slice_get xs i x x e)

-- the test fails here
pub search_miss : {X : Type 0} (p : X → Bool) (xs : List X) (i : ℕ) (x : X) (r : Option ℕ) → slice_get xs i ≡ Some x → p x ≡ false → position_from p i (drop i xs) ≡ r → position_from p (i + 1) (drop (i + 1) xs) ≡ r
search_miss p xs i x r e is h = sym (ap (λ b. cond b (Some i) (position_from p (i + 1) (drop (i + 1) xs))) is) ∙ sym (left_at p xs i x e) ∙ h

-- the test passes here
pub search_hit : {X : Type 0} (p : X → Bool) (xs : List X) (i : ℕ) (x : X) (r : Option ℕ) → slice_get xs i ≡ Some x → p x ≡ true → position_from p i (drop i xs) ≡ r → Some i ≡ r
search_hit p xs i x r e is h = sym (ap (λ b. cond b (Some i) (position_from p (i + 1) (drop (i + 1) xs))) is) ∙ sym (left_at p xs i x e) ∙ h

-- no element is left
pub search_end : {X : Type 0} (p : X → Bool) (xs : List X) (i : ℕ) (r : Option ℕ) → length xs ≤ i → position_from p i (drop i xs) ≡ r → None ≡ r
search_end p xs i r long h = sym (at_drop_all (position_from p i) xs i long) ∙ h
