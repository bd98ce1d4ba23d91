-- Searches of a net's paths.
use Rattle.std.specs.Prelude.{◌≡◌, ℕ, List}
use Rattle.fabric_planes.specs.Prelude.{Basis, graph_of, IsPath, cost_of, Path}
use Rattle.fabric_planes.specs.Layout.{Terminals, graph_at}

-- the source of a net and one of its sinks
abbrev pub terminals_of : Basis → ℕ → ℕ → Terminals
terminals_of basis source goal = record { source = (graph_of basis).node source; sink = (graph_of basis).node goal }

-- the path leads from one of the starts to the goal, and this is its cost
pub record IsPathAt (basis : Basis) (cost : ℕ → ℕ) (starts : List ℕ) (goal : ℕ) (path : Path) : Type 0 where
  pub is_path : IsPath (graph_at basis cost) starts goal path.nodes.items
  pub sum : path.cost ≡ cost_of (graph_at basis cost) path.nodes.items
