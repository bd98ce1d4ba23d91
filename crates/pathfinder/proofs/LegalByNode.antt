-- Legal trees by number are legal routes by node.
use Rattle.pathfinder.proofs.Prelude.{◌≡◌, ℕ, refl, ◌+◌, ◌<◌, ◌≤◌, List, [], ◌∷◌, map, Bool, true, cond, ◌||◌, eqb, arith, ◌∙◌, inl, inr, sym, ap, subst, count_by, AllZip, Contains, concat, list_any, cases_lt, sum_by-cons, All-tail, PackedCircuit, BlockNet, block_nets, Place, block_at, place_of, Node, is_node, is_edge, capacity_of, Basis, IsRoutingGraph, graph_of, Net, IsNet, IsWiring, AreNets, Tree, Done, occupancy, routed_after, sink_at, net_source, net_sinks, is_same_node, wiring_of, number_of, net_to_route, nets_to_route, path_nodes, pairs_of, IsLeaf, LeadsOver, IsTree, IsRoute, IsRouted, IsLegal, IsNumberTree, IsNetTree, IsTreeFor, AreLegal, routes_by_node, LeastPathLaws}
use Rattle.std.specs.Prelude.{All}
use Rattle.pathfinder.proofs.Steps.{in_first, in_later}
use Rattle.pathfinder.proofs.Strips.{is_pair}
use Rattle.pathfinder.proofs.Found.{any_from, occupancy-cons}
use Rattle.pathfinder.proofs.Growing.{IsWithin}
use Rattle.pathfinder.proofs.Rounds.{HoldsWithin, beyond, done_sound}
use Rattle.pathfinder.proofs.NodeNumbers.{number_found, number_there, is_number}
use Rattle.pathfinder.proofs.ToldTrees.{to_map, from_map, all_mapped, nodes_told, to_nodes, from_nodes, to_pairs, from_pairs, leads_told}

module _ (basis : Basis) (lawful : IsRoutingGraph basis (graph_of basis)) where
  abbrev told : Tree → List (List Node)
  told tree = map (map (graph_of basis).node) tree

  -- a node has only one number
  one_number : (a b : ℕ) → a < (graph_of basis).count → b < (graph_of basis).count → (graph_of basis).node a ≡ (graph_of basis).node b → a ≡ b
  one_number a b a_few b_few e = grind (arith, number_found (graph_of basis) lawful.ordered a ((graph_of basis).node b) a_few e, number_found (graph_of basis) lawful.ordered b ((graph_of basis).node b) b_few refl)

  -- ---- one net

  module _ (tree : Tree) (within : IsWithin (wiring_of basis) tree) where
    tree_told : (root : ℕ) → IsNumberTree (wiring_of basis) root (concat tree) (pairs_of tree) → IsTree basis.arch basis.strip ((graph_of basis).node root) (told tree)
    tree_told root t = record {
      edges = λ y z c.
          let q = from_pairs (graph_of basis).node tree y z c in
          let p = is_pair basis lawful q.0 q.1 (t.edges q.0 q.1 q.2) in
          subst (λ a. is_edge basis.arch basis.strip a z ≡ true) q.3 (subst (λ b. is_edge basis.arch basis.strip ((graph_of basis).node q.0) b ≡ true) q.4 p.1);
      root_in = to_nodes (graph_of basis).node tree root t.root_in;
      first = λ y c.
          let q = from_pairs (graph_of basis).node tree y ((graph_of basis).node root) c in
          let p = is_pair basis lawful q.0 q.1 (t.edges q.0 q.1 q.2) in
          t.first q.0 (subst (λ b. Contains (pairs_of tree) (q.0, b)) (one_number q.1 root p.0 (within root t.root_in) q.4) q.2);
      one_way = λ y z n c d.
          let q = from_pairs (graph_of basis).node tree y n c in
          let r = from_pairs (graph_of basis).node tree z n d in
          let same : r.1 ≡ q.1 = one_number r.1 q.1 (is_pair basis lawful r.0 r.1 (t.edges r.0 r.1 r.2)).0 (is_pair basis lawful q.0 q.1 (t.edges q.0 q.1 q.2)).0 (r.4 ∙ sym q.4) in
          sym q.3 ∙ (ap (graph_of basis).node (t.one_way q.0 r.0 q.1 q.2 (subst (λ b. Contains (pairs_of tree) (r.0, b)) same r.2)) ∙ r.3);
      reached = λ n c.
          let q = from_nodes (graph_of basis).node tree n c in
          let way = t.reached q.0 q.1 in (
            map (graph_of basis).node way.0,
            subst (λ last. LeadsOver (pairs_of (told tree)) last ((graph_of basis).node root) (map (graph_of basis).node way.0)) q.2
                (leads_told (graph_of basis).node (pairs_of tree) (pairs_of (told tree)) (to_pairs (graph_of basis).node tree) q.0 root way.0 way.1),
          );
    }

    route_told : (source : ℕ) (sinks : List ℕ) → IsNetTree (wiring_of basis) (record { source = source; sinks = sinks }) tree → IsRoute basis.arch basis.strip ((graph_of basis).node source) (map (graph_of basis).node sinks) (told tree)
    route_told source sinks route = record {
      is_tree = tree_told source route.is_tree;
      one_opin = (
        (graph_of basis).node route.one_opin.0,
        to_nodes (graph_of basis).node tree route.one_opin.0 route.one_opin.1,
        route.one_opin.2,
        λ n c k. let q = from_nodes (graph_of basis).node tree n c in
            sym q.2 ∙ ap (graph_of basis).node (route.one_opin.3 q.0 q.1 (ap (λ (node : Node). node.kind) q.2 ∙ k)),
      );
      leaves = λ n. (
        (λ both.
            let q = from_nodes (graph_of basis).node tree n both.0 in
            let leaf : IsLeaf (pairs_of tree) q.0 = λ next c. both.1 ((graph_of basis).node next)
            (subst (λ a. Contains (pairs_of (told tree)) (a, (graph_of basis).node next)) q.2 (to_pairs (graph_of basis).node tree q.0 next c)) in
            subst (λ a. Contains (map (graph_of basis).node sinks) a) q.2 (to_map (graph_of basis).node sinks q.0 ((route.leaves q.0).0 (q.1, leaf)))),
        (λ c.
            let q = from_map (graph_of basis).node sinks n c in
            let back = (route.leaves q.0).1 q.1 in (
              subst (λ a. Contains (path_nodes (told tree)) a) q.2 (to_nodes (graph_of basis).node tree q.0 back.0),
              λ next d.
                  let p = from_pairs (graph_of basis).node tree n next d in
                  let same : p.0 ≡ q.0 = one_number p.0 q.0 (route.is_tree.edges p.0 p.1 p.2).from (within q.0 back.0) (p.3 ∙ sym q.2) in
                  back.1 p.1 (subst (λ a. Contains (pairs_of tree) (a, p.1)) same p.2),
            )),
      );
    }

    routed_told : (source : ℕ) (sinks : List ℕ) → IsTreeFor (wiring_of basis) source sinks tree → IsRouted basis.arch basis.strip ((graph_of basis).node source) (map (graph_of basis).node sinks) (told tree)
    routed_told source [] none = nodes_told (graph_of basis).node tree ∙ ap (map (graph_of basis).node) none
    routed_told source (sink ∷ sinks) route = route_told source (sink ∷ sinks) route

  -- ---- the nets of placed blocks

  numbers_told : (sink : ℕ → Node) (readers : List ℕ) → All (λ number. number < (graph_of basis).count) (map (λ reader. number_of (graph_of basis) (sink reader)) readers) →
      map (graph_of basis).node (map (λ reader. number_of (graph_of basis) (sink reader)) readers) ≡ map sink readers
  numbers_told sink [] few = refl
  numbers_told sink (reader ∷ readers) few =
      ap (λ first. first ∷ map (graph_of basis).node (map (λ reader. number_of (graph_of basis) (sink reader)) readers))
      (number_there (graph_of basis) (sink reader) (few 0 0 (omega arith)))
      ∙ ap (λ rest. sink reader ∷ rest)
      (numbers_told sink readers (All-tail (λ number. number < (graph_of basis).count) (number_of (graph_of basis) (sink reader)) (map (λ reader. number_of (graph_of basis) (sink reader)) readers) few))

  sinks_told : (sink : ℕ → Node) (readers : List ℕ) (global : Bool) → All (λ number. number < (graph_of basis).count) (cond global [] (map (λ reader. number_of (graph_of basis) (sink reader)) readers)) →
      map (graph_of basis).node (cond global [] (map (λ reader. number_of (graph_of basis) (sink reader)) readers)) ≡ cond global [] (map sink readers)
  sinks_told sink readers global few = grind (arith, numbers_told)

  module _ (packed : PackedCircuit) (places : List Place) where
    net_told : (net : BlockNet) (tree : Tree) → IsNet (wiring_of basis) (net_to_route basis packed places net) → IsWithin (wiring_of basis) tree →
        IsTreeFor (wiring_of basis) (net_to_route basis packed places net).source (net_to_route basis packed places net).sinks tree →
        IsRouted basis.arch basis.strip (net_source packed places net) (net_sinks packed places net) (told tree)
    net_told net tree is within routed =
        let number : Net = net_to_route basis packed places net in
        subst (λ source. IsRouted basis.arch basis.strip source (net_sinks packed places net) (told tree)) (number_there (graph_of basis) (net_source packed places net) is.source_in)
        (subst (λ sinks. IsRouted basis.arch basis.strip ((graph_of basis).node number.source) sinks (told tree))
        (sinks_told (λ reader. sink_at (block_at packed reader) (place_of places reader)) net.readers net.global is.sinks_in)
        (routed_told tree within number.source number.sinks routed))

    all_told : (nets : List BlockNet) (trees : List Tree) → All (IsNet (wiring_of basis)) (map (net_to_route basis packed places) nets) → All (HoldsWithin (wiring_of basis)) trees →
        AllZip (λ net tree. IsTreeFor (wiring_of basis) net.source net.sinks tree) (map (net_to_route basis packed places) nets) trees →
        AllZip (λ net paths. IsRouted basis.arch basis.strip (net_source packed places net) (net_sinks packed places net) paths) nets (map told trees)
    all_told [] [] each within zip = tt
    all_told [] (tree ∷ trees) each within zip = absurd zip
    all_told (net ∷ nets) [] each within zip = absurd zip
    all_told (net ∷ nets) (tree ∷ trees) each within zip =
        let here : HoldsWithin (wiring_of basis) tree = within 0 tree (omega arith) in (
          net_told net tree (each 0 (net_to_route basis packed places net) (omega arith)) (λ node c. here node (any_from node (concat tree) c)) zip.0,
          all_told nets trees (All-tail (IsNet (wiring_of basis)) (net_to_route basis packed places net) (map (net_to_route basis packed places) nets) each)
              (All-tail (HoldsWithin (wiring_of basis)) tree trees within) zip.1,
        )

  -- ---- the number of nets that use a node

  held_told : (node : Node) (xs : List ℕ) → ((x : ℕ) → Contains xs x → x < (graph_of basis).count) →
      list_any (is_same_node node) (map (graph_of basis).node xs) ≡ list_any (λ other. eqb other (number_of (graph_of basis) node)) xs
  held_told node [] within = refl
  held_told node (x ∷ xs) within =
      ap (λ first. first || list_any (is_same_node node) (map (graph_of basis).node xs)) (is_number (graph_of basis) lawful.ordered node x (within x (in_first x xs)))
      ∙ ap (λ rest. eqb x (number_of (graph_of basis) node) || rest) (held_told node xs (λ y c. within y (in_later x y xs c)))

  counts_told : (node : Node) (trees : List Tree) → All (HoldsWithin (wiring_of basis)) trees →
      count_by (λ paths. list_any (is_same_node node) (path_nodes paths)) (map told trees) ≡ occupancy trees (number_of (graph_of basis) node)
  counts_told node [] within = refl
  counts_told node (tree ∷ trees) within =
      let number = number_of (graph_of basis) node in
      let here : HoldsWithin (wiring_of basis) tree = within 0 tree (omega arith) in
      let same : list_any (is_same_node node) (path_nodes (told tree)) ≡ list_any (λ other. eqb other number) (concat tree) =
      ap (λ nodes. list_any (is_same_node node) nodes) (nodes_told (graph_of basis).node tree) ∙ held_told node (concat tree) (λ x c. here x (any_from x (concat tree) c)) in
      let rest = counts_told node trees (All-tail (HoldsWithin (wiring_of basis)) tree trees within) in
      sum_by-cons (λ paths. cond (list_any (is_same_node node) (path_nodes paths)) 1 0) (told tree) (map told trees)
      ∙ (ap (λ b. cond b 1 0 + count_by (λ paths. list_any (is_same_node node) (path_nodes paths)) (map told trees)) same
      ∙ (ap (λ k. cond (list_any (λ other. eqb other number) (concat tree)) 1 0 + k) rest ∙ sym (occupancy-cons tree trees number)))

  -- ---- all nets

  pub legal_told : (packed : PackedCircuit) (places : List Place) (trees : List Tree) → AreNets (wiring_of basis) (nets_to_route basis packed places) → All (HoldsWithin (wiring_of basis)) trees →
      AreLegal (wiring_of basis) (nets_to_route basis packed places) trees → IsLegal basis.arch basis.strip packed places (routes_by_node (graph_of basis) trees)
  unfolding nets_to_route
  legal_told packed places trees are within legal = record {
    routed = all_told packed places (block_nets packed) trees are.each within legal.routes;
    carried = λ node.
        let number = number_of (graph_of basis) node in
        let same = counts_told node trees within in
        elim (cases_lt number (graph_of basis).count) [
          | inl lt ↦ (let few : occupancy trees number ≤ (wiring_of basis).capacity number = legal.carried number in
              let most : (wiring_of basis).capacity number ≡ capacity_of basis.arch basis.strip node = ap (capacity_of basis.arch basis.strip) (number_there (graph_of basis) node lt) in
              omega (arith, same, few, most))
          | inr ge ↦ omega (arith, same, beyond (wiring_of basis) trees number within ge)
        ];
  }

  -- trees of the graph's numbers lead over nodes of the strip
  abbrev IsNumber : ℕ → Type 0
  IsNumber number = number < (graph_of basis).count

  abbrev IsThere : Node → Type 0
  IsThere node = is_node basis.arch basis.strip node ≡ true

  pub all_there : (trees : List Tree) → All (All (All IsNumber)) trees → All (All (All IsThere)) (routes_by_node (graph_of basis) trees)
  all_there trees within = grind (arith, all_mapped (All (All IsNumber)) (All (All IsThere)) (map (map (graph_of basis).node)) (all_mapped (All IsNumber) (All IsThere) (map (graph_of basis).node) (all_mapped IsNumber IsThere (graph_of basis).node lawful.nodes)) trees within)

  -- finished routes are legal
  pub done_told : IsWiring (wiring_of basis) → LeastPathLaws → (packed : PackedCircuit) (places : List Place) (nets : List Net) → nets ≡ nets_to_route basis packed places → AreNets (wiring_of basis) nets → (iterations : ℕ) →
      (routed_after (wiring_of basis) nets iterations).standing ≡ Done → IsLegal basis.arch basis.strip packed places (routes_by_node (graph_of basis) (routed_after (wiring_of basis) nets iterations).trees)
  done_told law paths packed places nets same are iterations done = grind (arith, legal_told, done_sound (wiring_of basis) law paths nets are iterations done)
