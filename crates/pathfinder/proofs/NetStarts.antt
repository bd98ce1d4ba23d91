-- A net's paths start at its source, at an output pin of its block or pad, or at wires.
use Rattle.pathfinder.proofs.Prelude.{◌≡◌, ℕ, refl, ◌<◌, ◌⊎◌, List, [], ◌∷◌, true, ◌∙◌, inl, inr, sym, ap, subst, eq-eqb, All, Contains, concat, false≢true, Source, Opin, Node, is_together, joins, Basis, IsRoutingGraph, graph_of, edge_joins, IsStart, is_same_spot, Wiring, IsEdge, IsWiring, wiring_of, Tree, is_branching, starts_of, pairs_of, LeadsOver, IsNumberTree, IsSoFar, IsGrown, terminals_of}
use Rattle.pathfinder.proofs.Steps.{in_none, in_cases}
use Rattle.pathfinder.proofs.Growing.{all_by_member, in_filter}

-- ---- the output pin of a tree

last_pair : (pairs : List (ℕ × ℕ)) (last node : ℕ) (rest : List ℕ) → LeadsOver pairs last node rest → (node ≡ last) ⊎ ((a : ℕ) × Contains pairs (a, last))
last_pair pairs last node [] l = inl l
last_pair pairs last node (next ∷ rest) l = elim (last_pair pairs last next rest l.1) [
  | inl e ↦ inr (node, subst (λ z. Contains pairs (node, z)) e l.0)
  | inr q ↦ inr q
]

kinds_apart : Source ≡ Opin → ⊥
kinds_apart e = cc

-- an edge leads from the source to each output pin of the tree
own_pin : (w : Wiring) (law : IsWiring w) (source : ℕ) (nodes : List ℕ) (pairs : List (ℕ × ℕ)) → w.kind source ≡ Source → IsNumberTree w source nodes pairs → (pin : ℕ) → Contains nodes pin → w.kind pin ≡ Opin → IsEdge w source pin
own_pin w law source nodes pairs is_source t pin c is_pin =
    let way = t.reached pin c in
    elim (last_pair pairs pin source way.0 way.1) [
      | inl e ↦ absurd (kinds_apart (sym is_source ∙ ap w.kind e ∙ is_pin))
      | inr q ↦
          (let edge = t.edges q.0 pin q.1 in
          let before = law.to_opin q.0 pin edge is_pin in
          let back = t.reached q.0 (t.joined q.0 pin q.1).0 in
          elim (last_pair pairs q.0 source back.0 back.1) [
            | inl e ↦ subst (λ z. IsEdge w z pin) (sym e) edge
            | inr r ↦ absurd (law.to_source r.0 q.0 (t.edges r.0 q.0 r.1) before)
          ])
    ]

-- ---- starts

same_spot : (a : Node) → is_same_spot a a ≡ true
same_spot a = rw (eq-eqb a.x a.x refl, eq-eqb a.y a.y refl, eq-eqb a.n a.n refl) refl

module _ (basis : Basis) (graph : IsRoutingGraph basis (graph_of basis)) (law : IsWiring (wiring_of basis)) (source sink : ℕ) (within : source < (graph_of basis).count) (is_source : ((graph_of basis).node source).kind ≡ Source) where
  -- an output pin to which an edge leads from the source is of the source's block or pad
  together : (pin : ℕ) → ((graph_of basis).node pin).kind ≡ Opin → IsEdge (wiring_of basis) source pin → is_together basis.strip ((graph_of basis).node source) ((graph_of basis).node pin) ≡ true
  together pin is_pin edge =
      let a = (graph_of basis).node source in
      let b = (graph_of basis).node pin in
      let is = ((graph.pairs source pin within).0 edge.to).1 in
      let joined : joins basis.arch basis.strip a.kind b.kind a b ≡ true = edge_joins basis.arch basis.strip a b is in
      subst (λ k. joins basis.arch basis.strip Source k a b ≡ true) is_pin (subst (λ k. joins basis.arch basis.strip k b.kind a b ≡ true) is_source joined)

  of_tree : (done : List ℕ) (nodes : List ℕ) (pairs : List (ℕ × ℕ)) → IsGrown (wiring_of basis) source done nodes pairs → (x : ℕ) → Contains nodes x → is_branching ((graph_of basis).node x).kind ≡ true → IsStart basis (terminals_of basis source sink) x
  of_tree done nodes pairs t x c b = record {
    within = t.within x c;
    source = λ e. absurd (false≢true (subst (λ k. is_branching k ≡ true) e b));
    output = λ e. together x e (own_pin (wiring_of basis) law source nodes pairs is_source t.is_tree x c e);
  }

  pub net_starts : (done : List ℕ) (tree : Tree) → IsSoFar (wiring_of basis) source done tree → All (IsStart basis (terminals_of basis source sink)) (starts_of (wiring_of basis) source tree)
  net_starts done [] s = all_by_member (IsStart basis (terminals_of basis source sink)) (source ∷ []) (λ x c. elim (in_cases source x [] c) [
    | inl e ↦ subst (λ y. IsStart basis (terminals_of basis source sink) y) e (record {
      within = within;
      source = λ _. same_spot ((graph_of basis).node source);
      output = λ k. absurd (kinds_apart (sym is_source ∙ k));
    })
    | inr d ↦ absurd (in_none x d)
  ])
  net_starts done (p ∷ ps) s = all_by_member (IsStart basis (terminals_of basis source sink)) (starts_of (wiring_of basis) source (p ∷ ps)) (λ x c.
      let from = in_filter (λ node. is_branching ((wiring_of basis).kind node)) (concat (p ∷ ps)) x c in
      of_tree done (concat (p ∷ ps)) (pairs_of (p ∷ ps)) s x from.0 from.1)
