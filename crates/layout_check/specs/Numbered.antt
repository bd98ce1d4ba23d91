-- Paths by the numbers of their nodes.
use Rattle.std.specs.Prelude.{ℕ, ◌≡◌, ◌<◌, true, List, All, map}
use Rattle.layout_check.specs.Prelude.{Node, is_node, Basis, RoutingGraph, graph_of, pairs_of, path_nodes, number_of}

-- a pair of nodes by number
abbrev pub hop_of : RoutingGraph → Node × Node → ℕ × ℕ
hop_of g pair = (number_of g pair.0, number_of g pair.1)

-- these are the nodes of the paths and the pairs of consecutive nodes, by number, and the strip has
-- all nodes
pub record IsNumbered (basis : Basis) (paths : List (List Node)) (nodes : List ℕ) (hops : List (ℕ × ℕ)) : Type 0 where
  pub numbers : nodes ≡ map (number_of (graph_of basis)) (path_nodes paths)
  pub pairs : hops ≡ map (hop_of (graph_of basis)) (pairs_of paths)
  pub inside : All (λ node. is_node basis.arch basis.strip node ≡ true) (path_nodes paths)

-- the numbers are those of nodes of the graph
abbrev pub AreNodes : Basis → List ℕ → Type 0
AreNodes basis numbers = All (λ number. number < (graph_of basis).count) numbers

abbrev pub AreHops : Basis → List (ℕ × ℕ) → Type 0
AreHops basis hops = All (λ hop. (hop.0 < (graph_of basis).count) × (hop.1 < (graph_of basis).count)) hops
