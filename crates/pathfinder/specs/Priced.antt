-- Private: the prices of the wires at the nodes' current occupancies.
use Rattle.std.specs.Prelude.{ℕ, ◌≡◌, List, slice_index}
use Rattle.pathfinder.specs.Prelude.{Basis, PriceTable, HasPrices}
use Rattle.pathfinder.specs.PlacedNets.{wiring_of}
use Rattle.pathfinder.specs.Tables.{tabled_graph, times_in}

-- the table has the prices of the wires at these occupancies
abbrev pub ArePriced : Basis → ℕ → List ℕ → List ℕ → PriceTable → Type 0
ArePriced basis iterations history held table = HasPrices basis (tabled_graph (wiring_of basis) iterations history held).cost table

-- the occupancies are the same, except for the nodes in the list
abbrev pub AreHeldBut : List ℕ → List ℕ → List ℕ → Type 0
AreHeldBut old new nodes = (node : ℕ) → times_in node nodes ≡ 0 → slice_index old node ≡ slice_index new node
