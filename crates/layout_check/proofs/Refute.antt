-- Paths with a fault are no tree of the net.
use Rattle.layout_check.proofs.Prelude.{◌≡◌, ◌≢◌, ℕ, ◌<◌, Bool, true, List, [], ◌∷◌, sym, ap, refl, ◌∙◌, subst, arith, All, Contains, and_parts, false≢true, All-contains, All-map, all_members, Arch, Strip, Node, NodeKind, Opin, Source, is_edge, is_node, Basis, IsRoutingGraph, graph_of, IsRoute, IsRouted, LeadsOver, pairs_of, path_nodes, number_of, RouteFault, NoNode, NoEdge, IntoSource, TwoWays, NoSource, NotReached, NoPin, TwoPins, NoSink, LeadsOn, EndsAt, NotEmpty, AreHops, AreNodes, IsNumbered, hop_of, IsPathFault, IsRouteFault, AreNumbers}
use Rattle.layout_check.proofs.Numbers.{number_small}
use Rattle.layout_check.proofs.ByNumber.{pair_in}

edge_ends : (arch : Arch) (strip : Strip) (a b : Node) → is_edge arch strip a b ≡ true → (is_node arch strip a ≡ true) × (is_node arch strip b ≡ true)
edge_ends arch strip a b is = grind (arith, and_parts)

last_in : (arch : Arch) (strip : Strip) (paths : List (List Node)) → ((a b : Node) → Contains (pairs_of paths) (a, b) → is_edge arch strip a b ≡ true) → (last node : Node) (rest : List Node) →
    LeadsOver (pairs_of paths) last node rest → is_node arch strip node ≡ true → is_node arch strip last ≡ true
last_in arch strip paths edges last node [] is there = subst (λ n. is_node arch strip n ≡ true) is there
last_in arch strip paths edges last node (next ∷ rest) (c, leads) there = last_in arch strip paths edges last next rest leads (edge_ends arch strip node next (edges node next c)).1

-- the strip has each node of a net's tree
pub route_inside : (arch : Arch) (strip : Strip) (source : Node) (sinks : List Node) (paths : List (List Node)) → IsRoute arch strip source sinks paths → source.kind ≡ Source → (node : Node) → Contains (path_nodes paths) node → is_node arch strip node ≡ true
route_inside arch strip source sinks paths r kind node c =
    let way = r.is_tree.reached node c in
    let first = r.is_tree.reached r.one_opin.0 r.one_opin.1 in
    last_in arch strip paths r.is_tree.edges node source way.0 way.1 (root_in first.0 first.1)
  where
    root_in : (rest : List Node) → LeadsOver (pairs_of paths) r.one_opin.0 source rest → is_node arch strip source ≡ true
    root_in [] is = (let wrong : Source ≡ Opin = sym kind ∙ ap (λ (n : Node). n.kind) is ∙ r.one_opin.2 in absurd cc)
    root_in (next ∷ rest) (d, leads) = (edge_ends arch strip source next (r.is_tree.edges source next d)).0

route_refuted : (basis : Basis) (source : Node) (sinks : List Node) (paths : List (List Node)) (fault : RouteFault) → source.kind ≡ Source → IsRouteFault basis source sinks paths fault → IsRoute basis.arch basis.strip source sinks paths → ⊥
route_refuted basis source sinks paths (NoNode node) kind (c, none) r = false≢true (sym none ∙ route_inside basis.arch basis.strip source sinks paths r kind node c)
route_refuted basis source sinks paths (NoEdge a b) kind (c, none) r = false≢true (sym none ∙ r.is_tree.edges a b c)
route_refuted basis source sinks paths (IntoSource a) kind c r = r.is_tree.first a c
route_refuted basis source sinks paths (TwoWays a b node) kind (c, d, apart) r = apart (r.is_tree.one_way a b node c d)
route_refuted basis source sinks paths NoSource kind none r = none r.is_tree.root_in
route_refuted basis source sinks paths (NotReached node) kind (c, none) r = none (r.is_tree.reached node c).0 (r.is_tree.reached node c).1
route_refuted basis source sinks paths NoPin kind none r = none r.one_opin.0 r.one_opin.1 r.one_opin.2
route_refuted basis source sinks paths (TwoPins a b) kind (c, d, is, also, apart) r = apart (r.one_opin.3 a c is ∙ sym (r.one_opin.3 b d also))
route_refuted basis source sinks paths (NoSink sink) kind (c, none) r = none ((r.leaves sink).1 c).0
route_refuted basis source sinks paths (LeadsOn sink) kind (c, next, d) r = ((r.leaves sink).1 c).1 next d
route_refuted basis source sinks paths (EndsAt node) kind (c, leaf, none) r = none ((r.leaves node).0 (c, leaf))
route_refuted basis source sinks paths (NotEmpty node) kind none r = none

-- paths with a fault are no tree of the net
pub paths_refuted : (basis : Basis) (source : Node) (sinks : List Node) (paths : List (List Node)) (fault : RouteFault) → source.kind ≡ Source → IsPathFault basis source sinks paths fault → IsRouted basis.arch basis.strip source sinks paths → ⊥
paths_refuted basis source sinks paths fault kind c none = grind (arith, route_refuted)

-- numbers of nodes of the strip are numbers of the graph
pub numbers_small : (basis : Basis) → IsRoutingGraph basis (graph_of basis) → (xs : List Node) (numbers : List ℕ) → AreNumbers basis xs numbers → AreNodes basis numbers
numbers_small basis lawful xs numbers are =
    subst (λ ks. AreNodes basis ks) (sym are.numbers_are)
    (All-map (λ k. k < (graph_of basis).count) (number_of (graph_of basis)) xs (all_members (λ node. number_of (graph_of basis) node < (graph_of basis).count) xs (λ node c.
    number_small basis lawful node (All-contains (λ node. is_node basis.arch basis.strip node ≡ true) xs node are.inside c))))

pub hops_small : (basis : Basis) → IsRoutingGraph basis (graph_of basis) → (paths : List (List Node)) (nodes : List ℕ) (hops : List (ℕ × ℕ)) → IsNumbered basis paths nodes hops → AreHops basis hops
hops_small basis lawful paths nodes hops so =
    subst (λ hs. AreHops basis hs) (sym so.pairs)
    (All-map (λ (hop : ℕ × ℕ). (hop.0 < (graph_of basis).count) × (hop.1 < (graph_of basis).count)) (hop_of (graph_of basis)) (pairs_of paths)
    (all_members (λ (pair : Node × Node). (number_of (graph_of basis) pair.0 < (graph_of basis).count) × (number_of (graph_of basis) pair.1 < (graph_of basis).count)) (pairs_of paths) (λ pair c.
    let both = pair_in paths pair.0 pair.1 c in (
      number_small basis lawful pair.0 (All-contains (λ node. is_node basis.arch basis.strip node ≡ true) (path_nodes paths) pair.0 so.inside both.0),
      number_small basis lawful pair.1 (All-contains (λ node. is_node basis.arch basis.strip node ≡ true) (path_nodes paths) pair.1 so.inside both.1),
    ))))
