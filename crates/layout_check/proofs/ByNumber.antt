-- What holds of paths by the numbers of their nodes holds of the paths.
use Rattle.layout_check.proofs.Prelude.{◌≡◌, ◌≢◌, ℕ, zero, suc, ◌+◌, ◌<◌, ◌≤◌, Bool, true, false, List, [], ◌∷◌, ◌++◌, map, sym, ap, refl, ◌∙◌, subst, arith, inl, inr, ◌⊎◌, All, Contains, flat_map, All-contains, from_flat_map, from_map, in_cases, in_first, in_later, in_none, to_flat_map, to_map, Node, Opin, is_edge, is_node, Basis, IsRoutingGraph, RoutingGraph, graph_of, HasOneOpin, IsLeaf, IsRoute, IsTree, LeadsOver, pairs_of, path_nodes, steps_of, number_of, is_in, AreHops, AreNodes, IsNumbered, hop_of, AreOneWay, IsClosed, Reaches, here, onward}
use Rattle.layout_check.proofs.Numbers.{its_node, number_again, number_small}

-- both nodes of a pair are on the path
step_in : (path : List Node) (a b : Node) → Contains (steps_of path) (a, b) → Contains path a × Contains path b
step_in [] a b c = absurd (in_none (a, b) c)
step_in (x ∷ []) a b c = absurd (in_none (a, b) c)
step_in (x ∷ y ∷ path) a b c = elim (in_cases (x, y) (a, b) (steps_of (y ∷ path)) c) [
  | inl e ↦ (
    subst (λ n. Contains (x ∷ y ∷ path) n) (ap (λ (p : Node × Node). p.0) e) (in_first x (y ∷ path)),
    subst (λ n. Contains (x ∷ y ∷ path) n) (ap (λ (p : Node × Node). p.1) e) (in_later x y (y ∷ path) (in_first y path)),
  )
  | inr d ↦ (let q = step_in (y ∷ path) a b d in (in_later x a (y ∷ path) q.0, in_later x b (y ∷ path) q.1))
]

pub pair_in : (paths : List (List Node)) (a b : Node) → Contains (pairs_of paths) (a, b) → Contains (path_nodes paths) a × Contains (path_nodes paths) b
pair_in paths a b c =
    let q = from_flat_map (steps_of {X = Node}) paths (a, b) c in
    let both = step_in q.0 a b q.2 in
    (to_flat_map (λ (nodes : List Node). nodes) paths q.0 a q.1 both.0, to_flat_map (λ (nodes : List Node). nodes) paths q.0 b q.1 both.1)

-- one more node at the end
leads_more : (pairs : List (Node × Node)) (last next node : Node) (rest : List Node) → LeadsOver pairs last node rest → Contains pairs (last, next) → LeadsOver pairs next node (rest ++ next ∷ [])
leads_more pairs last next node [] is c = (subst (λ n. Contains pairs (n, next)) (sym is) c, refl)
leads_more pairs last next node (other ∷ rest) (first, leads) c = (first, leads_more pairs last next other rest leads c)

-- nodes of the strip by number
module _ (basis : Basis) (lawful : IsRoutingGraph basis (graph_of basis)) (xs : List Node) (numbers : List ℕ) (are : numbers ≡ map (number_of (graph_of basis)) xs)
    (inside : All (λ node. is_node basis.arch basis.strip node ≡ true) xs) where
  pub to_number : (node : Node) → Contains xs node → Contains numbers (number_of (graph_of basis) node)
  to_number node c = subst (λ ks. Contains ks (number_of (graph_of basis) node)) (sym are) (to_map (number_of (graph_of basis)) xs node c)

  pub from_number : (number : ℕ) → Contains numbers number → Contains xs ((graph_of basis).node number)
  from_number number c =
      let q = from_map (number_of (graph_of basis)) xs number (subst (λ ks. Contains ks number) are c) in
      subst (λ n. Contains xs n) (sym (ap (graph_of basis).node (sym q.2) ∙ its_node basis lawful q.0 (All-contains (λ node. is_node basis.arch basis.strip node ≡ true) xs q.0 inside q.1))) q.1

  pub back_to : (node : Node) → Contains xs node → (graph_of basis).node (number_of (graph_of basis) node) ≡ node
  back_to node c = its_node basis lawful node (All-contains (λ node. is_node basis.arch basis.strip node ≡ true) xs node inside c)

  -- a number of the graph that isn't listed is that of no node of the list
  pub not_listed : (number : ℕ) → number < (graph_of basis).count → (Contains numbers number → ⊥) → Contains xs ((graph_of basis).node number) → ⊥
  not_listed number small none c = none (subst (λ k. Contains numbers k) (number_again basis lawful number small) (to_number ((graph_of basis).node number) c))

module _ (basis : Basis) (lawful : IsRoutingGraph basis (graph_of basis)) (paths : List (List Node)) (nodes : List ℕ) (hops : List (ℕ × ℕ)) (so : IsNumbered basis paths nodes hops) where
  pub to_hop : (a b : Node) → Contains (pairs_of paths) (a, b) → Contains hops (number_of (graph_of basis) a, number_of (graph_of basis) b)
  to_hop a b c = subst (λ hs. Contains hs (number_of (graph_of basis) a, number_of (graph_of basis) b)) (sym so.pairs) (to_map (hop_of (graph_of basis)) (pairs_of paths) (a, b) c)

  pub from_hop : (i j : ℕ) → Contains hops (i, j) → Contains (pairs_of paths) ((graph_of basis).node i, (graph_of basis).node j)
  from_hop i j c =
      let q = from_map (hop_of (graph_of basis)) (pairs_of paths) (i, j) (subst (λ hs. Contains hs (i, j)) so.pairs c) in
      let both = pair_in paths q.0.0 q.0.1 q.1 in
      let first : (graph_of basis).node i ≡ q.0.0 = ap (graph_of basis).node (sym (ap (λ (hop : ℕ × ℕ). hop.0) q.2)) ∙ back_to basis lawful (path_nodes paths) nodes so.numbers so.inside q.0.0 both.0 in
      let last : (graph_of basis).node j ≡ q.0.1 = ap (graph_of basis).node (sym (ap (λ (hop : ℕ × ℕ). hop.1) q.2)) ∙ back_to basis lawful (path_nodes paths) nodes so.numbers so.inside q.0.1 both.1 in
      subst (λ n. Contains (pairs_of paths) (n, (graph_of basis).node j)) (sym first) (subst (λ n. Contains (pairs_of paths) (q.0.0, n)) (sym last) q.1)

  onto : (node : Node) → Contains (path_nodes paths) node → (graph_of basis).node (number_of (graph_of basis) node) ≡ node
  onto = back_to basis lawful (path_nodes paths) nodes so.numbers so.inside

  leads_to : (root : ℕ) (k : ℕ) → Reaches hops root k → (rest : List Node) × LeadsOver (pairs_of paths) ((graph_of basis).node k) ((graph_of basis).node root) rest
  leads_to root k here = ([], refl)
  leads_to root k (onward a b way hop) =
      let before = leads_to root a way in
      (before.0 ++ (graph_of basis).node b ∷ [], leads_more (pairs_of paths) ((graph_of basis).node a) ((graph_of basis).node b) ((graph_of basis).node root) before.0 before.1 (from_hop a b hop))

  -- a tree by number is a tree
  pub tree_by_number : (root : ℕ) → root < (graph_of basis).count → ((a b : ℕ) → Contains hops (a, b) → is_edge basis.arch basis.strip ((graph_of basis).node a) ((graph_of basis).node b) ≡ true) → AreOneWay hops root →
      Contains nodes root → ((k : ℕ) → Contains nodes k → Reaches hops root k) → IsTree basis.arch basis.strip ((graph_of basis).node root) paths
  tree_by_number root small edges ways root_in reached = record {
    edges = λ a b c.
        let both = pair_in paths a b c in
        subst (λ n. is_edge basis.arch basis.strip n b ≡ true) (onto a both.0)
        (subst (λ n. is_edge basis.arch basis.strip ((graph_of basis).node (number_of (graph_of basis) a)) n ≡ true) (onto b both.1) (edges (number_of (graph_of basis) a) (number_of (graph_of basis) b) (to_hop a b c)));
    root_in = from_number basis lawful (path_nodes paths) nodes so.numbers so.inside root root_in;
    first = λ a c.
        ways.first (number_of (graph_of basis) a) (subst (λ k. Contains hops (number_of (graph_of basis) a, k)) (number_again basis lawful root small) (to_hop a ((graph_of basis).node root) c));
    one_way = λ a b node c d.
        sym (onto a (pair_in paths a node c).0) ∙ ap (graph_of basis).node (ways.one_way (number_of (graph_of basis) a) (number_of (graph_of basis) b) (number_of (graph_of basis) node) (to_hop a node c) (to_hop b node d))
        ∙ onto b (pair_in paths b node d).0;
    reached = λ node c.
        let way = leads_to root (number_of (graph_of basis) node) (reached (number_of (graph_of basis) node) (to_number basis lawful (path_nodes paths) nodes so.numbers so.inside node c)) in
        (way.0, subst (λ n. LeadsOver (pairs_of paths) n ((graph_of basis).node root) way.0) (onto node c) way.1);
  }

  stays_in : (marks : List Bool) → IsClosed hops marks → (last node : Node) (rest : List Node) → LeadsOver (pairs_of paths) last node rest → is_in marks (number_of (graph_of basis) node) ≡ true → is_in marks (number_of (graph_of basis) last) ≡ true
  stays_in marks closed last node [] is there = subst (λ n. is_in marks (number_of (graph_of basis) n) ≡ true) is there
  stays_in marks closed last node (next ∷ rest) (hop, leads) there = grind (arith, stays_in marks closed last next rest leads (closed (number_of (graph_of basis) node) (number_of (graph_of basis) next) (to_hop node next hop) there))

  -- no way leads to a node outside a set that has the root and out of which no hop leads
  pub never_reached : (root k : ℕ) → root < (graph_of basis).count → k < (graph_of basis).count → (marks : List Bool) → IsClosed hops marks → is_in marks root ≡ true → is_in marks k ≡ false →
      (rest : List Node) → LeadsOver (pairs_of paths) ((graph_of basis).node k) ((graph_of basis).node root) rest → ⊥
  never_reached root k root_small small marks closed root_in out rest leads = grind (arith, stays_in, number_again basis lawful root root_small, number_again basis lawful k small)
