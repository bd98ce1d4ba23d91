-- What is wrong by the numbers of nodes is wrong with the paths.
use Rattle.layout_check.proofs.Prelude.{◌≡◌, ◌≢◌, ℕ, ◌<◌, Bool, true, false, List, [], ◌∷◌, map, sym, ap, refl, ◌∙◌, subst, arith, inl, inr, ◌⊎◌, All, Contains, false≢true, All-contains, from_map, to_map, Node, Opin, is_edge, Basis, IsRoutingGraph, graph_of, IsLeaf, IsRoute, pairs_of, path_nodes, HasOnePin, number_of, wiring_of, RouteFault, HopFault, IntoRoot, TwoHops, NoEdge, IntoSource, TwoWays, NoSource, NotReached, NoPin, TwoPins, NoSink, LeadsOn, EndsAt, IsSetOf, is_in, AreHops, AreNodes, IsNumbered, AreOneWay, IsClosed, IsHopFault, AreAllReached, AreEdges, AreEnds, AreNumbers, IsFaultOf, told_fault}
use Rattle.layout_check.proofs.Numbers.{hop_small, number_again}
use Rattle.layout_check.proofs.ByNumber.{back_to, from_hop, from_number, never_reached, not_listed, to_hop, to_number, tree_by_number}

module _ (basis : Basis) (lawful : IsRoutingGraph basis (graph_of basis)) where
  -- different numbers are those of different nodes
  pub differ : (i j : ℕ) → i < (graph_of basis).count → j < (graph_of basis).count → i ≢ j → (graph_of basis).node i ≢ (graph_of basis).node j
  differ i j i_in j_in apart same = apart (sym (number_again basis lawful i i_in) ∙ ap (number_of (graph_of basis)) same ∙ number_again basis lawful j j_in)

  pub gap_told : (root : ℕ) (sinks nodes : List ℕ) (hops : List (ℕ × ℕ)) (a b : ℕ) → Contains hops (a, b) → is_edge basis.arch basis.strip ((graph_of basis).node a) ((graph_of basis).node b) ≡ false →
      IsFaultOf basis root sinks nodes hops (NoEdge ((graph_of basis).node a) ((graph_of basis).node b))
  gap_told root sinks nodes hops a b c none paths ends so are = (from_hop basis lawful paths nodes hops so a b c, none)

  pub into_told : (root : ℕ) (sinks nodes : List ℕ) (hops : List (ℕ × ℕ)) (a : ℕ) → Contains hops (a, root) → IsFaultOf basis root sinks nodes hops (IntoSource ((graph_of basis).node a))
  into_told root sinks nodes hops a c paths ends so are = from_hop basis lawful paths nodes hops so a root c

  pub two_told : (root : ℕ) (sinks nodes : List ℕ) (hops : List (ℕ × ℕ)) → AreHops basis hops → (a b node : ℕ) → Contains hops (a, node) → Contains hops (b, node) → a ≢ b →
      IsFaultOf basis root sinks nodes hops (TwoWays ((graph_of basis).node a) ((graph_of basis).node b) ((graph_of basis).node node))
  two_told root sinks nodes hops small a b node c d apart paths ends so are = grind (arith, differ, hop_small, from_hop basis lawful paths nodes hops so a node c, from_hop basis lawful paths nodes hops so b node d, differ a b (hop_small (graph_of basis).count hops small a node c).0 (hop_small (graph_of basis).count hops small b node d).0 apart, hop_small (graph_of basis).count hops small a node c, hop_small (graph_of basis).count hops small b node d)

  pub source_told : (root : ℕ) (sinks nodes : List ℕ) (hops : List (ℕ × ℕ)) → root < (graph_of basis).count → (marks : List Bool) → IsSetOf nodes marks → is_in marks root ≡ false → IsFaultOf basis root sinks nodes hops NoSource
  source_told root sinks nodes hops small marks exact out paths ends so are =
      not_listed basis lawful (path_nodes paths) nodes so.numbers so.inside root small (λ c. false≢true (sym out ∙ (exact root).1 c))

  pub reached_told : (root : ℕ) (sinks nodes : List ℕ) (hops : List (ℕ × ℕ)) → root < (graph_of basis).count → AreNodes basis nodes → (marks : List Bool) → IsClosed hops marks → is_in marks root ≡ true → (node : ℕ) → Contains nodes node →
      is_in marks node ≡ false → IsFaultOf basis root sinks nodes hops (NotReached ((graph_of basis).node node))
  reached_told root sinks nodes hops small within marks closed root_in node c out paths ends so are = (
    from_number basis lawful (path_nodes paths) nodes so.numbers so.inside node c,
    never_reached basis lawful paths nodes hops so root node small (All-contains (λ number. number < (graph_of basis).count) nodes node within c) marks closed root_in out,
  )

  pub no_pin_told : (root : ℕ) (sinks nodes : List ℕ) (hops : List (ℕ × ℕ)) → ((node : ℕ) → Contains nodes node → ((graph_of basis).node node).kind ≡ Opin → ⊥) → IsFaultOf basis root sinks nodes hops NoPin
  no_pin_told root sinks nodes hops none paths ends so are = λ node c is.
      none (number_of (graph_of basis) node) (to_number basis lawful (path_nodes paths) nodes so.numbers so.inside node c)
      (ap (λ (n : Node). n.kind) (back_to basis lawful (path_nodes paths) nodes so.numbers so.inside node c) ∙ is)

  pub two_pins_told : (root : ℕ) (sinks nodes : List ℕ) (hops : List (ℕ × ℕ)) → AreNodes basis nodes → (pin other : ℕ) → Contains nodes pin → Contains nodes other → ((graph_of basis).node pin).kind ≡ Opin →
      ((graph_of basis).node other).kind ≡ Opin → (other ≡ pin → ⊥) → IsFaultOf basis root sinks nodes hops (TwoPins ((graph_of basis).node pin) ((graph_of basis).node other))
  two_pins_told root sinks nodes hops within pin other c d is also apart paths ends so are = (
    from_number basis lawful (path_nodes paths) nodes so.numbers so.inside pin c,
    from_number basis lawful (path_nodes paths) nodes so.numbers so.inside other d,
    is,
    also,
    differ pin other (All-contains (λ number. number < (graph_of basis).count) nodes pin within c) (All-contains (λ number. number < (graph_of basis).count) nodes other within d) (λ same. apart (sym same)),
  )

  pub no_sink_told : (root : ℕ) (sinks nodes : List ℕ) (hops : List (ℕ × ℕ)) → AreNodes basis sinks → (marks : List Bool) → IsSetOf nodes marks → (sink : ℕ) → Contains sinks sink → is_in marks sink ≡ false →
      IsFaultOf basis root sinks nodes hops (NoSink ((graph_of basis).node sink))
  no_sink_told root sinks nodes hops within marks exact sink c out paths ends so are = (
    from_number basis lawful ends sinks are.numbers_are are.inside sink c,
    not_listed basis lawful (path_nodes paths) nodes so.numbers so.inside sink (All-contains (λ number. number < (graph_of basis).count) sinks sink within c) (λ d. false≢true (sym out ∙ (exact sink).1 d)),
  )

  pub leads_on_told : (root : ℕ) (sinks nodes : List ℕ) (hops : List (ℕ × ℕ)) → (marks : List Bool) → IsSetOf (map (λ hop. hop.0) hops) marks → (sink : ℕ) → Contains sinks sink → is_in marks sink ≡ true →
      IsFaultOf basis root sinks nodes hops (LeadsOn ((graph_of basis).node sink))
  leads_on_told root sinks nodes hops marks exact sink c is paths ends so are =
      let q = from_map (λ (hop : ℕ × ℕ). hop.0) hops sink ((exact sink).0 is) in (
        from_number basis lawful ends sinks are.numbers_are are.inside sink c,
        (graph_of basis).node q.0.1,
        from_hop basis lawful paths nodes hops so sink q.0.1 (subst (λ k. Contains hops (k, q.0.1)) q.2 q.1),
      )

  pub ends_at_told : (root : ℕ) (sinks nodes : List ℕ) (hops : List (ℕ × ℕ)) → AreNodes basis nodes → (marks wanted : List Bool) → IsSetOf (map (λ hop. hop.0) hops) marks → IsSetOf sinks wanted → (node : ℕ) →
      Contains nodes node → is_in marks node ≡ false → is_in wanted node ≡ false → IsFaultOf basis root sinks nodes hops (EndsAt ((graph_of basis).node node))
  ends_at_told root sinks nodes hops within marks wanted starts exact node c out unwanted paths ends so are =
      let small = All-contains (λ number. number < (graph_of basis).count) nodes node within c in (
        from_number basis lawful (path_nodes paths) nodes so.numbers so.inside node c,
        (λ next d.
            let hop = to_hop basis lawful paths nodes hops so ((graph_of basis).node node) next d in
            let first = to_map (λ (hop : ℕ × ℕ). hop.0) hops (number_of (graph_of basis) ((graph_of basis).node node), number_of (graph_of basis) next) hop in
            false≢true (sym out ∙ (starts node).1 (subst (λ k. Contains (map (λ (hop : ℕ × ℕ). hop.0) hops) k) (number_again basis lawful node small) first))),
        not_listed basis lawful ends sinks are.numbers_are are.inside node small (λ d. false≢true (sym unwanted ∙ (exact node).1 d)),
      )

  pub hop_told : (root : ℕ) (sinks nodes : List ℕ) (hops : List (ℕ × ℕ)) → AreHops basis hops → (fault : HopFault) → IsHopFault hops root fault → IsFaultOf basis root sinks nodes hops (told_fault basis fault)
  hop_told root sinks nodes hops small (IntoRoot from) c = into_told root sinks nodes hops from c
  hop_told root sinks nodes hops small (TwoHops from other to) (c, d, apart) = two_told root sinks nodes hops small from other to c d apart

  pub at_fault : (root : ℕ) (sinks nodes : List ℕ) (hops : List (ℕ × ℕ)) (x y : RouteFault) → x ≡ y → IsFaultOf basis root sinks nodes hops y → IsFaultOf basis root sinks nodes hops x
  at_fault root sinks nodes hops x y same is = subst (λ f. IsFaultOf basis root sinks nodes hops f) (sym same) is

  -- a fault that names one node, or two
  pub at_one : (root : ℕ) (sinks nodes : List ℕ) (hops : List (ℕ × ℕ)) (fault : Node → RouteFault) (x y : Node) → x ≡ y → IsFaultOf basis root sinks nodes hops (fault y) → IsFaultOf basis root sinks nodes hops (fault x)
  at_one root sinks nodes hops fault x y same is = subst (λ n. IsFaultOf basis root sinks nodes hops (fault n)) (sym same) is

  pub at_two : (root : ℕ) (sinks nodes : List ℕ) (hops : List (ℕ × ℕ)) (fault : Node → Node → RouteFault) (x y z w : Node) → x ≡ y → z ≡ w → IsFaultOf basis root sinks nodes hops (fault y w) → IsFaultOf basis root sinks nodes hops (fault x z)
  at_two root sinks nodes hops fault x y z w same also is = grind arith

  -- the ends by number
  pub ends_are : (sinks nodes : List ℕ) (hops : List (ℕ × ℕ)) (inside marks wanted : List Bool) → IsSetOf nodes inside → IsSetOf (map (λ hop. hop.0) hops) marks → IsSetOf sinks wanted →
      ((k : ℕ) → Contains sinks k → is_in inside k ≡ true) → ((k : ℕ) → Contains sinks k → is_in marks k ≡ false) → ((k : ℕ) → Contains nodes k → is_in marks k ≡ false → is_in wanted k ≡ true) → AreEnds sinks nodes hops
  ends_are sinks nodes hops inside marks wanted nodes_are starts sinks_are there last loose node = (
    (λ both. (sinks_are node).0 (loose node both.0 (leaf both.1 (is_in marks node) refl))),
    (λ c. (
      (nodes_are node).0 (there node c),
      λ next d. false≢true (sym (last node c) ∙ (starts node).1 (to_map (λ (hop : ℕ × ℕ). hop.0) hops (node, next) d)),
    )),
  )
    where
      leaf : IsLeaf hops node → (b : Bool) → is_in marks node ≡ b → is_in marks node ≡ false
      leaf none false is = is
      leaf none true is =
          let q = from_map (λ (hop : ℕ × ℕ). hop.0) hops node ((starts node).0 is) in
          absurd (none q.0.1 (subst (λ k. Contains hops (k, q.0.1)) q.2 q.1))

  -- the tree by number is the net's route
  pub route_told : (root : ℕ) (sinks nodes : List ℕ) (hops : List (ℕ × ℕ)) → root < (graph_of basis).count → AreEdges basis hops → AreOneWay hops root → AreAllReached root nodes hops → HasOnePin (wiring_of basis) nodes → AreEnds sinks nodes hops →
      (paths : List (List Node)) (ends : List Node) → IsNumbered basis paths nodes hops → AreNumbers basis ends sinks → IsRoute basis.arch basis.strip ((graph_of basis).node root) ends paths
  route_told root sinks nodes hops small edges ways reached pin sinks_are paths ends so are = record {
    is_tree = tree_by_number basis lawful paths nodes hops so root small edges ways reached.root_in reached.reached;
    one_opin = (
      (graph_of basis).node pin.0,
      from_number basis lawful (path_nodes paths) nodes so.numbers so.inside pin.0 pin.1,
      pin.2,
      λ node c is.
          let onto = back_to basis lawful (path_nodes paths) nodes so.numbers so.inside node c in
          sym onto ∙ ap (graph_of basis).node (pin.3 (number_of (graph_of basis) node) (to_number basis lawful (path_nodes paths) nodes so.numbers so.inside node c) (ap (λ (n : Node). n.kind) onto ∙ is)),
    );
    leaves = λ node. (
      (λ both.
          let onto = back_to basis lawful (path_nodes paths) nodes so.numbers so.inside node both.0 in
          let there = to_number basis lawful (path_nodes paths) nodes so.numbers so.inside node both.0 in
          let leaf : IsLeaf hops (number_of (graph_of basis) node) = λ next d.
          both.1 ((graph_of basis).node next) (subst (λ n. Contains (pairs_of paths) (n, (graph_of basis).node next)) onto (from_hop basis lawful paths nodes hops so (number_of (graph_of basis) node) next d)) in
          subst (λ n. Contains ends n) onto (from_number basis lawful ends sinks are.numbers_are are.inside (number_of (graph_of basis) node) ((sinks_are (number_of (graph_of basis) node)).0 (there, leaf)))),
      (λ c.
          let onto = back_to basis lawful ends sinks are.numbers_are are.inside node c in
          let back = (sinks_are (number_of (graph_of basis) node)).1 (to_number basis lawful ends sinks are.numbers_are are.inside node c) in (
            subst (λ n. Contains (path_nodes paths) n) onto (from_number basis lawful (path_nodes paths) nodes so.numbers so.inside (number_of (graph_of basis) node) back.0),
            λ next d. back.1 (number_of (graph_of basis) next) (to_hop basis lawful paths nodes hops so node next d),
          )),
    );
  }
