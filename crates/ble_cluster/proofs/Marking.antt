-- Marks of taken BLEs.
use Rattle.ble_cluster.proofs.Prelude.{◌≡◌, ℕ, ◌<◌, Bool, true, not, ◌&&◌, ◌==◌, List, [], ◌∷◌, ◌++◌, filter, length, set, refl, ap, arith, get_or-set_other, length-set, get_or-set_at, eqb_tells, has, free_in}
use Rattle.ble_cluster.proofs.Outside.{has-append}

-- two filters, one after another
pub filter_filter : {X : Type 0} (p q : X → Bool) (xs : List X) → filter q (filter p xs) ≡ filter (λ x. p x && q x) xs
filter_filter p q [] = refl
filter_filter p q (x ∷ xs) = grind (arith, filter_filter p q xs)

-- one more number is taken
free_without : (taken : List Bool) (number : ℕ) → number < length taken → free_in (set taken number true) ≡ filter (λ other. not (number == other)) (free_in taken)
free_without taken number within = grind (arith, length-set, eqb_tells, filter_filter, get_or-set_at, get_or-set_other)

-- one more member is taken
pub free_more : (old new : List Bool) (members : List ℕ) (number : ℕ) → number < length new → free_in new ≡ filter (λ other. not (has members other)) (free_in old) → free_in (set new number true) ≡ filter (λ other. not (has (members ++ number ∷ []) other)) (free_in old)
free_more old new members number within is = grind (arith, filter_filter, has-append, free_without new number within)

-- if no member is taken, the free numbers are unchanged
pub free_same : (free : List ℕ) → free ≡ filter (λ other. not (has [] other)) free
free_same [] = refl
free_same (number ∷ free) = ap (λ ns. number ∷ ns) (free_same free)
