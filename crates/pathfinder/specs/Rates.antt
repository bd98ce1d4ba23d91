-- Private: the part of each node's cost in an iteration that doesn't depend on the trees.
use Rattle.std.specs.Prelude.{ℕ, ◌≡◌, ◌+◌, ◌<◌, List, length, slice_index, slice_index_or}
use Rattle.pathfinder.specs.declared.rate.NodeCost.{NodeCost}
use Rattle.pathfinder.specs.Prelude.{Basis, graph_of}
use Rattle.pathfinder.specs.PlacedNets.{wiring_of}

-- the rates of the nodes below a number, from their accumulated overuse
pub record AreRatesBelow (basis : Basis) (history : List ℕ) (count : ℕ) (rates : List NodeCost) : Type 0 where
  pub long : length rates ≡ count
  pub factor : (node : ℕ) (d : NodeCost) → node < count → (slice_index_or rates node d).factor ≡ 1 + slice_index history node
  pub capacity : (node : ℕ) (d : NodeCost) → node < count → (slice_index_or rates node d).capacity ≡ (wiring_of basis).capacity node

-- the rates of all nodes
abbrev pub AreRates : Basis → List ℕ → List NodeCost → Type 0
AreRates basis history rates = AreRatesBelow basis history (graph_of basis).count rates
