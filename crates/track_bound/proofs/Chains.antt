-- A net that leads from one side of a column to the other uses a horizontal wire over the column.
use Rattle.track_bound.proofs.Prelude.{ℕ, ◌≡◌, ◌*◌, ◌<◌, ◌⊎◌, true, List, [], ◌∷◌, inl, inr, arith, ap, subst, sym, ◌∙◌, Contains, cases_order, Contains-append_cases, Contains-append_left, Contains-append_right, Arch, Strip, NodeKind, Ipin, ChanX, Node, across_of, is_edge, is_node, LeadsOver, pairs_of, path_nodes, steps_of, in_cases, in_first, in_later, in_none}
use Rattle.track_bound.proofs.Edges.{across, arrives, end_there, leads_nowhere, skips_left, skips_right, stays}

-- the end of a step is on the path
end_on_path : {X : Type 0} (path : List X) (a b : X) → Contains (steps_of path) (a, b) → Contains path b
end_on_path [] a b c = absurd (in_none (a, b) c)
end_on_path (x ∷ []) a b c = absurd (in_none (a, b) c)
end_on_path {X} (x ∷ y ∷ path) a b c = elim (in_cases (x, y) (a, b) (steps_of (y ∷ path)) c) [
  | inl e ↦ subst (λ (p : X × X). Contains (x ∷ y ∷ path) p.1) e (in_later x y (y ∷ path) (in_first y path))
  | inr d ↦ in_later x b (y ∷ path) (end_on_path (y ∷ path) a b d)
]

end_on_paths : (paths : List (List Node)) (a b : Node) → Contains (pairs_of paths) (a, b) → Contains (path_nodes paths) b
end_on_paths [] a b c = absurd (in_none (a, b) c)
end_on_paths (path ∷ paths) a b c = elim (Contains-append_cases (steps_of path) (pairs_of paths) (a, b) c) [
  | inl here ↦ Contains-append_left path (path_nodes paths) b (end_on_path path a b here)
  | inr later ↦ Contains-append_right path (path_nodes paths) b (end_on_paths paths a b later)
]

-- the node is a horizontal wire over the column, and on one of the paths
pub record IsOver (arch : Arch) (strip : Strip) (paths : List (List Node)) (column : ℕ) (node : Node) : Type 0 where
  pub kind : node.kind ≡ ChanX
  pub x : node.x ≡ column
  pub on_path : Contains (path_nodes paths) node
  pub there : is_node arch strip node ≡ true

-- two nodes are on different sides of a column
abbrev pub AreApart : ℕ → Node → Node → Type 0
AreApart column a b = ((across a < 2 * column) × (2 * column < across b)) ⊎ ((2 * column < across a) × (across b < 2 * column))

module _ (arch : Arch) (strip : Strip) (paths : List (List Node)) (edges : (a b : Node) → Contains (pairs_of paths) (a, b) → is_edge arch strip a b ≡ true) where
  -- from an input pin pairs lead only to a sink of its block
  rests : (last node : Node) (rest : List Node) → node.kind ≡ Ipin → LeadsOver (pairs_of paths) last node rest → across last ≡ across node
  rests last node [] pin l = sym (ap across l)
  rests last node (sink ∷ []) pin l = sym (ap across l.1) ∙ (stays arch strip node sink (edges node sink l.0) pin).1
  rests last node (sink ∷ next ∷ rest) pin l =
      absurd (leads_nowhere arch strip sink next (edges sink next l.1.0) (stays arch strip node sink (edges node sink l.0) pin).0)

  over_at : (column : ℕ) (a node : Node) → Contains (pairs_of paths) (a, node) → across node ≡ 2 * column → node.kind ≡ ChanX → IsOver arch strip paths column node
  over_at column a node pair on kind =
      let at : 2 * node.x ≡ 2 * column = sym (ap (λ (k : NodeKind). across_of k node.x) kind) ∙ on in
      record { kind = kind; x = omega (arith, at); on_path = end_on_paths paths a node pair; there = end_there arch strip a node (edges a node pair) }

  pub leads_across : (column : ℕ) (last node : Node) (rest : List Node) → AreApart column node last → LeadsOver (pairs_of paths) last node rest → (wire : Node) × IsOver arch strip paths column wire
  leads_across column last node [] apart l = elim apart [
    | inl h ↦ absurd (omega (arith, h.0, h.1, ap across l))
    | inr h ↦ absurd (omega (arith, h.0, h.1, ap across l))
  ]
  leads_across column last node (next ∷ rest) apart l =
      let edge = edges node next l.0 in
      let off : across node ≡ 2 * column → ⊥ = λ on. elim apart [ inl h ↦ omega (arith, h.0, on) | inr h ↦ omega (arith, h.0, on) ] in
      let past : across last ≡ 2 * column → ⊥ = λ on. elim apart [ inl h ↦ omega (arith, h.1, on) | inr h ↦ omega (arith, h.1, on) ] in
      elim (cases_order (across next) (2 * column)) [
        | inl on ↦ elim (arrives arch strip node next edge column off on) [
          | inl kind ↦ (next, over_at column node next l.0 on kind)
          | inr pin ↦ absurd (past (rests last next rest pin l.1 ∙ on))
        ]
        | inr (inl left) ↦ elim apart [
          | inl h ↦ leads_across column last next rest (inl (left, h.1)) l.1
          | inr h ↦ absurd (skips_left arch strip node next edge column h.0 left)
        ]
        | inr (inr right) ↦ elim apart [
          | inl h ↦ absurd (skips_right arch strip node next edge column h.0 right)
          | inr h ↦ leads_across column last next rest (inr (right, h.1)) l.1
        ]
      ]
