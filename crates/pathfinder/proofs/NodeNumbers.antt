-- The number of a node.
use Rattle.pathfinder.proofs.Prelude.{◌≡◌, ℕ, ◌<◌, Bool, true, false, eqb, get_or, refl, sym, ap, subst, ◌∙◌, inl, inr, arith, eq-eqb, range_with_len, and_parts, cases_Bool, eqb-true, false≢true, ne_eqb, length-range_with_len, get_or-range_with_len, passes_at_first, position_or_len_is, Node, IsBefore, rank_of, RoutingGraph, is_same_node, number_of}

not_before : (a b : Node) → a.x ≡ b.x → rank_of a.kind ≡ rank_of b.kind → a.y ≡ b.y → a.n ≡ b.n → IsBefore a b → ⊥
not_before a b x k y n h5 = grind arith

same_itself : (a : Node) → is_same_node a a ≡ true
same_itself a = rw (eq-eqb a.x a.x refl, eq-eqb (rank_of a.kind) (rank_of a.kind) refl, eq-eqb a.y a.y refl, eq-eqb a.n a.n refl) refl

-- nodes in order have different numbers
pub number_found : (g : RoutingGraph) → ((i j : ℕ) → i < j → j < g.count → IsBefore (g.node i) (g.node j)) → (i : ℕ) (node : Node) → i < g.count → g.node i ≡ node → number_of g node ≡ i
number_found g ordered i node within is =
    let numbers = range_with_len 0 g.count in
    let test : ℕ → Bool = λ number. is_same_node (g.node number) node in
    let at : (k : ℕ) → k < g.count → get_or numbers k 0 ≡ k = λ k l. get_or-range_with_len 0 g.count k 0 l ∙ omega arith in
    position_or_len_is test numbers i 0 (omega (arith, length-range_with_len 0 g.count, within))
    (λ k l.
    ap test (at k (omega (arith, l, within)))
    ∙ elim (test k) as (λ b. test k ≡ b → b ≡ false) [
      | true ↦ λ e.
          (let parts = and_parts (eqb (g.node k).x node.x) _ e in
          let more = and_parts (eqb (rank_of (g.node k).kind) (rank_of node.kind)) _ parts.1 in
          let last = and_parts (eqb (g.node k).y node.y) _ more.1 in
          absurd (not_before (g.node k) node (eqb-true _ _ parts.0) (eqb-true _ _ more.0) (eqb-true _ _ last.0) (eqb-true _ _ last.1) (subst (λ (n : Node). IsBefore (g.node k) n) is (ordered k i l within))))
      | false ↦ λ e. refl
    ] refl)
    (λ l. ap test (at i within) ∙ ap (λ (n : Node). is_same_node n node) is ∙ same_itself node)

-- nodes that pass the test are equal
pub same_node : (a b : Node) → is_same_node a b ≡ true → a ≡ b
same_node a b is = grind (arith, and_parts)

-- a number that a node has in the graph is its own
pub number_there : (g : RoutingGraph) (node : Node) → number_of g node < g.count → g.node (number_of g node) ≡ node
number_there g node few =
    let numbers = range_with_len 0 g.count in
    let passes = passes_at_first (λ number. is_same_node (g.node number) node) numbers 0 (omega (arith, length-range_with_len 0 g.count, few)) in
    let at : get_or numbers (number_of g node) 0 ≡ number_of g node = get_or-range_with_len 0 g.count (number_of g node) 0 few ∙ omega arith in
    same_node (g.node (number_of g node)) node (subst (λ k. is_same_node (g.node k) node ≡ true) at passes)

-- whether a number is that of a node
pub is_number : (g : RoutingGraph) → ((i j : ℕ) → i < j → j < g.count → IsBefore (g.node i) (g.node j)) → (node : Node) (i : ℕ) → i < g.count → is_same_node node (g.node i) ≡ eqb i (number_of g node)
is_number g ordered node i few = elim (cases_Bool (is_same_node node (g.node i))) [
  | inl is ↦ is ∙ sym (eq-eqb i (number_of g node) (sym (number_found g ordered i node few (sym (same_node node (g.node i) is)))))
  | inr isn't ↦ isn't ∙ sym (ne_eqb i (number_of g node) (λ e.
      let there : g.node i ≡ node = ap g.node e ∙ number_there g node (subst (λ k. k < g.count) e few) in
      false≢true (sym isn't ∙ subst (λ other. is_same_node node other ≡ true) (sym there) (same_itself node))))
]
