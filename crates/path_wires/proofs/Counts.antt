-- The wire counts of hops, hop by hop.
use Rattle.path_wires.proofs.Prelude.{ℕ, ◌≡◌, ◌+◌, ◌-◌, ◌^◌, ◌<◌, ◌∙◌, List, [], ◌∷◌, ◌++◌, length, get_or, min, take, ap, refl, sym, subst, arith, sum, take_more, sum_by_push, AreCounts, IsWireCount, Hop}

-- one more is counted
pub counts_more : (hops : List Hop) (counts : List ℕ) (hop : Hop) (count : ℕ) → AreCounts hops counts → IsWireCount hop count → AreCounts (hops ++ hop ∷ []) (counts ++ count ∷ [])
counts_more [] [] hop count are is = (is, tt)
counts_more [] (other ∷ others) hop count are is = absurd are
counts_more (first ∷ rest) [] hop count are is = absurd are
counts_more (first ∷ rest) (other ∷ others) hop count are is = (are.0, counts_more rest others hop count are.1 is)

pub sum_more : (counts : List ℕ) (count : ℕ) → sum (counts ++ count ∷ []) ≡ sum counts + count
sum_more counts count = sum_by_push (λ n. n) counts count

-- the first hops with one more
pub counts_next : (hops : List Hop) (place : ℕ) (hop : Hop) (wires count : ℕ) → place < length hops → get_or hops place hop ≡ hop
    → (counts : List ℕ) × AreCounts (take place hops) counts × (wires ≡ min (sum counts) (2 ^ 64 - 1)) → IsWireCount hop count
    → (counts : List ℕ) × AreCounts (take (place + 1) hops) counts × (min (wires + count) (2 ^ 64 - 1) ≡ min (sum counts) (2 ^ 64 - 1))
counts_next hops place hop wires count within is before counted = (
  before.0 ++ count ∷ [],
  subst (λ first. AreCounts first (before.0 ++ count ∷ [])) (sym (take_more hops place hop within ∙ ap (λ h. take place hops ++ h ∷ []) is)) (counts_more (take place hops) before.0 hop count before.1 counted),
  (let e : sum (before.0 ++ count ∷ []) ≡ sum before.0 + count = sum_more before.0 count in
      let w : wires ≡ min (sum before.0) (2 ^ 64 - 1) = before.2 in
      omega arith),
)
