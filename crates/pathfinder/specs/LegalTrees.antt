-- Private: legal trees, in terms of node numbers.
use Rattle.std.specs.Prelude.{ℕ, ◌≡◌, ◌≤◌, ◌↔◌, List, [], ◌∷◌, Contains}
use Rattle.std.specs.List.{concat, AllZip}
use Rattle.pathfinder.specs.Prelude.{Opin}
use Rattle.pathfinder.specs.Wiring.{Wiring, Net, IsEdge}
use Rattle.pathfinder.specs.Negotiation.{Tree, occupancy}
use Rattle.pathfinder.specs.LegalRoutes.{pairs_of, LeadsOver, IsLeaf}

-- The pairs are edges of the graph and make the nodes a tree: none ends at the root, no two end at
-- one node, and they lead from the root to each node.
pub record IsNumberTree (w : Wiring) (root : ℕ) (nodes : List ℕ) (pairs : List (ℕ × ℕ)) : Type 0 where
  pub edges : (a b : ℕ) → Contains pairs (a, b) → IsEdge w a b
  pub joined : (a b : ℕ) → Contains pairs (a, b) → Contains nodes a × Contains nodes b
  pub root_in : Contains nodes root
  pub first : (a : ℕ) → Contains pairs (a, root) → ⊥
  pub one_way : (a b node : ℕ) → Contains pairs (a, node) → Contains pairs (b, node) → a ≡ b
  pub reached : (node : ℕ) → Contains nodes node → (rest : List ℕ) × LeadsOver pairs node root rest

-- exactly one of the nodes is an output pin
abbrev pub HasOnePin : Wiring → List ℕ → Type 0
HasOnePin w nodes = (pin : ℕ) × Contains nodes pin × (w.kind pin ≡ Opin) × ((node : ℕ) → Contains nodes node → w.kind node ≡ Opin → node ≡ pin)

-- The net's source is the root of a tree with one output pin, and its sinks are the leaves.
pub record IsNetTree (w : Wiring) (net : Net) (tree : Tree) : Type 0 where
  pub is_tree : IsNumberTree w net.source (concat tree) (pairs_of tree)
  pub one_opin : HasOnePin w (concat tree)
  pub leaves : (node : ℕ) → ((Contains (concat tree) node × IsLeaf (pairs_of tree) node) ↔ Contains net.sinks node)

-- the tree of a net without sinks has no node
abbrev pub IsTreeFor : Wiring → ℕ → List ℕ → Tree → Type 0
IsTreeFor w source [] tree = concat tree ≡ []
IsTreeFor w source (sink ∷ sinks) tree = IsNetTree w (record { source = source; sinks = sink ∷ sinks }) tree

-- Each net has its tree, and no node is in more trees than it can carry.
pub record AreLegal (w : Wiring) (nets : List Net) (trees : List Tree) : Type 0 where
  pub routes : AllZip (λ net tree. IsTreeFor w net.source net.sinks tree) nets trees
  pub carried : (node : ℕ) → occupancy trees node ≤ w.capacity node
