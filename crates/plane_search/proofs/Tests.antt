-- Whether a path is less than another.
use Rattle.plane_search.proofs.Prelude.{◌≡◌, ℕ, refl, Bool, Option, Some, List, [], ◌∷◌, arith, MatchBool, slice_cmp, slice_partial_cmp, nat_cmp, ordering_then, partial_ordering_then, is_lt, is_some_and, Ordering, Less}

-- a comparison that always has a result
abbrev pub some_cmp : ℕ → ℕ → Option Ordering
some_cmp x y = Some (nat_cmp x y)

then_agrees : (o : Ordering) (p : Option Ordering) (q : Ordering) → p ≡ Some q → partial_ordering_then (Some o) p ≡ Some (ordering_then o q)
then_agrees o p q e = grind arith

agreed : (xs ys : List ℕ) → slice_partial_cmp some_cmp xs ys ≡ Some (slice_cmp nat_cmp xs ys)
agreed [] [] = refl
agreed [] (y ∷ ys) = refl
agreed (x ∷ xs) [] = refl
agreed (x ∷ xs) (y ∷ ys) = then_agrees (nat_cmp x y) (slice_partial_cmp some_cmp xs ys) (slice_cmp nat_cmp xs ys) (agreed xs ys)

decided : (b : Bool) (o : Ordering) → b ≡ is_lt o → MatchBool b (o ≡ Less) (o ≡ Less → ⊥)
decided b o e = grind arith

-- a test of the nodes of paths that cost the same
pub less_by_nodes : (a b : ℕ) (xs ys : List ℕ) (r : Bool) → a ≡ b → r ≡ is_some_and is_lt (slice_partial_cmp some_cmp xs ys)
    → MatchBool r (ordering_then (nat_cmp a b) (slice_cmp nat_cmp xs ys) ≡ Less) (ordering_then (nat_cmp a b) (slice_cmp nat_cmp xs ys) ≡ Less → ⊥)
less_by_nodes a b xs ys r same e = grind (arith, agreed)
