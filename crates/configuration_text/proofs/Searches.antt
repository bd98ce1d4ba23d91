-- The first step of paths beside a node.
use Rattle.configuration_text.proofs.Prelude.{get_or, ◌≡◌, ℕ, ◌+◌, ◌<◌, ◌≤◌, Bool, true, false, List, ◌∷◌, cond, drop, length, Option, Some, None, option_map, ap, refl, ◌∙◌, find, option_or, find-append, pairs_of, steps_of, is_same_node, Node, anchor, neighbor, node_beside, Side}
use Rattle.configuration_text.proofs.Switches.{step_cons, step_end}

module _ (side : Side) (path : List Node) (i : ℕ) (d node : Node) (inside : i + 1 < length path) where
  pub beside_hit : is_same_node (anchor side (get_or path i d, get_or path (i + 1) d)) node ≡ true → node_beside side (steps_of (drop i path)) node ≡ Some (neighbor side (get_or path i d, get_or path (i + 1) d))
  beside_hit is =
      ap (λ steps. node_beside side steps node) (step_cons path i d inside)
      ∙ ap (λ (b : Bool). option_map (λ (step : Node × Node). neighbor side step) (cond b (Some (get_or path i d, get_or path (i + 1) d)) (find (λ (step : Node × Node). is_same_node (anchor side step) node) (steps_of (drop (i + 1) path))))) is

  pub beside_miss : is_same_node (anchor side (get_or path i d, get_or path (i + 1) d)) node ≡ false → node_beside side (steps_of (drop i path)) node ≡ node_beside side (steps_of (drop (i + 1) path)) node
  beside_miss is =
      ap (λ steps. node_beside side steps node) (step_cons path i d inside)
      ∙ ap (λ (b : Bool). option_map (λ (step : Node × Node). neighbor side step) (cond b (Some (get_or path i d, get_or path (i + 1) d)) (find (λ (step : Node × Node). is_same_node (anchor side step) node) (steps_of (drop (i + 1) path))))) is

pub beside_end : (side : Side) (path : List Node) (i : ℕ) (node : Node) → length path ≤ i + 1 → node_beside side (steps_of (drop i path)) node ≡ None
beside_end side path i node h = ap (λ steps. node_beside side steps node) (step_end path i h)

-- a path on which the node is found, and one on which it is not
pub beside_in : (side : Side) (path : List Node) (paths : List (List Node)) (node found : Node) → node_beside side (steps_of path) node ≡ Some found → node_beside side (pairs_of (path ∷ paths)) node ≡ Some found
beside_in side path paths node found e = ap (option_map (λ (step : Node × Node). neighbor side step)) (find-append (λ (step : Node × Node). is_same_node (anchor side step) node) (steps_of path) (pairs_of paths)) ∙ by (find (λ (step : Node × Node). is_same_node (anchor side step) node) (steps_of path)) e
  where
    by : (o : Option (Node × Node)) → option_map (λ (step : Node × Node). neighbor side step) o ≡ Some found → option_map (λ (step : Node × Node). neighbor side step) (option_or o (find (λ (step : Node × Node). is_same_node (anchor side step) node) (pairs_of paths))) ≡ Some found
    by None e = absurd cc
    by (Some step) e = e

pub beside_out : (side : Side) (path : List Node) (paths : List (List Node)) (node : Node) → node_beside side (steps_of path) node ≡ None → node_beside side (pairs_of (path ∷ paths)) node ≡ node_beside side (pairs_of paths) node
beside_out side path paths node e = ap (option_map (λ (step : Node × Node). neighbor side step)) (find-append (λ (step : Node × Node). is_same_node (anchor side step) node) (steps_of path) (pairs_of paths)) ∙ by (find (λ (step : Node × Node). is_same_node (anchor side step) node) (steps_of path)) e
  where
    by : (o : Option (Node × Node)) → option_map (λ (step : Node × Node). neighbor side step) o ≡ None → option_map (λ (step : Node × Node). neighbor side step) (option_or o (find (λ (step : Node × Node). is_same_node (anchor side step) node) (pairs_of paths))) ≡ option_map (λ (step : Node × Node). neighbor side step) (find (λ (step : Node × Node). is_same_node (anchor side step) node) (pairs_of paths))
    by None e = refl
    by (Some step) e = absurd cc
