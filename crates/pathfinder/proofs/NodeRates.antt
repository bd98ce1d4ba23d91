-- Rates, node by node.
use Rattle.pathfinder.proofs.Prelude.{◌≡◌, ℕ, ◌+◌, List, [], ◌∷◌, ◌++◌, arith, get_or_append_left, get_or_push, NodeCost, Basis, wiring_of, AreRatesBelow}
use Rattle.std.proofs.Common.{length-append}
use Rattle.std.specs.Prelude.{slice_index}

pub rates_more : (basis : Basis) (history : List ℕ) (count : ℕ) (rates : List NodeCost) (rate : NodeCost) → AreRatesBelow basis history count rates → rate.factor ≡ 1 + slice_index history count → rate.capacity ≡ (wiring_of basis).capacity count → AreRatesBelow basis history (count + 1) (rates ++ rate ∷ [])
rates_more basis history count rates rate known f c = grind (arith, length-append, get_or_append_left, get_or_push)
