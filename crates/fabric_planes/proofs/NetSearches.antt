-- A search over a net's planes is one over the whole graph.
use Rattle.fabric_planes.proofs.Prelude.{arith, ℕ, ◌<◌, List, [], ◌∷◌, All-nil, All-cons, All-contains, Graph, AreNodes, IsLawful, Leads, IsPath, Path, IsFamily, IsKnown, Basis, graph_of, family_of, Terminals, graph_at, labels_of, planes_of, IsPathAt}
use Rattle.std.specs.List.{All}

-- the nodes of a path are nodes of the graph
module _ (g : Graph) (lawful : IsLawful g) (goal : ℕ) where
  way_within : (node : ℕ) (rest : List ℕ) → node < g.count → Leads g goal node rest → AreNodes g rest
  way_within node [] here leads = All-nil (λ n. n < g.count)
  way_within node (next ∷ rest) here leads =
      let there : next < g.count = All-contains (λ n. n < g.count) (g.ends node) next (lawful.ends_below node here) leads.0 in
      All-cons (λ n. n < g.count) next rest there (way_within next rest there leads.1)

  path_within : (starts path : List ℕ) → AreNodes g starts → IsPath g starts goal path → AreNodes g path
  path_within starts path are p = grind (arith, way_within)

module _ (basis : Basis) (cost : ℕ → ℕ) (starts : List ℕ) (goal : ℕ) (t : Terminals) where
  pub known_in : (path : Path) → IsPathAt basis cost starts goal path → IsKnown (planes_of basis cost starts goal t) path
  unfolding family_of labels_of
  known_in path p = record { is_path = p.is_path; cost = p.sum }

  pub nodes_within : IsFamily (planes_of basis cost starts goal t) → (path : Path) → IsKnown (planes_of basis cost starts goal t) path → All (λ node. node < (graph_of basis).count) path.nodes.items
  unfolding family_of labels_of
  nodes_within family path known = path_within (graph_at basis cost) family.lawful goal starts path.nodes.items family.starts known.is_path
