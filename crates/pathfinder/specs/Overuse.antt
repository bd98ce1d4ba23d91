-- The progress of a routing: the nodes that are in more trees than they can carry.
use Rattle.std.specs.Prelude.{ℕ, ◌≡◌, ◌==◌, ◌-◌, ◌<◌, ◌≤◌, Bool, List, Option, Some, None, option_map, map, count_by, nat_lt, slice_index}
use Rattle.std.specs.List.{concat, list_any, range_with_len}
use Rattle.pathfinder.specs.Prelude.{Basis, graph_of}
use Rattle.pathfinder.specs.declared.overuse.Overuse.{Overuse}
use Rattle.pathfinder.specs.Negotiation.{Tree, occupancy}
use Rattle.pathfinder.specs.PlacedNets.{wiring_of}
use Rattle.pathfinder.specs.Wiring.{Wiring}

-- a path of the tree has the node
abbrev pub has_node : Tree → ℕ → Bool
has_node tree node = list_any (λ other. other == node) (concat tree)

-- the number of trees by which the node is overused
abbrev pub overuse_at : Wiring → List Tree → ℕ → ℕ
overuse_at w trees node = occupancy trees node - w.capacity node

-- the number of the first nodes that are overused
abbrev pub count_over : (ℕ → ℕ) → ℕ → ℕ
count_over over count = count_by (nat_lt 0) (map over (range_with_len 0 count))

-- this node is overused most of the first nodes, and is the first of those; `None` if no node is
-- overused
abbrev pub IsMost : (ℕ → ℕ) → ℕ → Option ℕ → Type 0
IsMost over count None = (node : ℕ) → node < count → over node ≡ 0
IsMost over count (Some most) = (most < count) × (0 < over most) × ((node : ℕ) → node < count → over node ≤ over most) × ((node : ℕ) → node < most → over node < over most)

-- the number of the strip's nodes that are overused by these trees, and the one that is overused
-- most
pub record IsOveruse (basis : Basis) (trees : List Tree) (overuse : Overuse) : Type 0 where
  pub nodes : overuse.nodes ≡ count_over (overuse_at (wiring_of basis) trees) (graph_of basis).count
  pub number : Option ℕ
  pub is_most : IsMost (overuse_at (wiring_of basis) trees) (graph_of basis).count number
  pub most : overuse.most ≡ option_map (graph_of basis).node number

-- Private: the overuse of a node, from the table of occupancies
abbrev pub over_in : Basis → List ℕ → ℕ → ℕ
over_in basis held node = slice_index held node - (wiring_of basis).capacity node

-- Private: the overuse of the node that is overused most
abbrev pub over_at : (ℕ → ℕ) → Option ℕ → ℕ
over_at over None = 0
over_at over (Some most) = over most
