-- The edges of a strip beside a column.
use Rattle.track_bound.proofs.Prelude.{ℕ, ◌≡◌, ◌*◌, ◌<◌, ◌⊎◌, true, refl, inl, inr, arith, ap, subst, sym, ◌∙◌, and_parts, false≢true, Arch, Strip, NodeKind, Source, Sink, Opin, Ipin, ChanX, ChanY, Node, across_of, is_edge, is_node, joins, IsReached, joins_reached}

-- where a node is across the strip, in half columns
abbrev pub across : Node → ℕ
across node = across_of node.kind node.x

-- ---- by kinds

-- an edge does not lead from one side of a column to the other
skips_by : (from to : NodeKind) (a b : Node) (column : ℕ) → IsReached from to a b → across_of from a.x < 2 * column → 2 * column < across_of to b.x → ⊥
skips_by Source Source a b column is left right = omega (arith, is.left, is.right, left, right)
skips_by Sink Source a b column is left right = omega (arith, is.left, is.right, left, right)
skips_by Opin Source a b column is left right = omega (arith, is.left, is.right, left, right)
skips_by Ipin Source a b column is left right = omega (arith, is.left, is.right, left, right)
skips_by ChanX Source a b column is left right = omega (arith, is.left, is.right, left, right)
skips_by ChanY Source a b column is left right = omega (arith, is.left, is.right, left, right)
skips_by from to a b column is left right = omega (arith, is.left, is.right, left, right)

-- an edge to a column, and not from it, leads to a horizontal wire or to an input pin
arrives_by : (arch : Arch) (strip : Strip) (from to : NodeKind) (a b : Node) (column : ℕ) → joins arch strip from to a b ≡ true → IsReached from to a b →
    (across_of from a.x ≡ 2 * column → ⊥) → across_of to b.x ≡ 2 * column → (to ≡ ChanX) ⊎ (to ≡ Ipin)
arrives_by arch strip from ChanX a b column h is off on = inl refl
arrives_by arch strip from Ipin a b column h is off on = inr refl
arrives_by arch strip from ChanY a b column h is off on = absurd (omega (arith, on))
arrives_by arch strip Source Opin a b column h is off on = absurd (off (omega (arith, is.left, is.right, on)))
arrives_by arch strip Ipin Sink a b column h is off on = absurd (off (omega (arith, is.left, is.right, on)))
arrives_by arch strip Source Source a b column h is off on = absurd (false≢true h)
arrives_by arch strip from to a b column h is off on = absurd (false≢true h)

-- an edge from an input pin leads to a sink of its block
stays_by : (arch : Arch) (strip : Strip) (to : NodeKind) (a b : Node) → joins arch strip Ipin to a b ≡ true → IsReached Ipin to a b → (to ≡ Sink) × (across_of to b.x ≡ 2 * a.x)
stays_by arch strip Sink a b h is = (refl, omega (arith, is.left, is.right))
stays_by arch strip to a b h is = absurd (false≢true h)

-- ---- by nodes

module _ (arch : Arch) (strip : Strip) (a b : Node) (edge : is_edge arch strip a b ≡ true) where
  joined : joins arch strip a.kind b.kind a b ≡ true
  joined = (and_parts _ _ (and_parts _ _ edge).1).1

  reached : IsReached a.kind b.kind a b
  reached = joins_reached arch strip a.kind b.kind a b refl refl joined

  pub end_there : is_node arch strip b ≡ true
  end_there = (and_parts _ _ (and_parts _ _ edge).1).0

  pub skips_right : (column : ℕ) → across a < 2 * column → 2 * column < across b → ⊥
  skips_right column left right = skips_by a.kind b.kind a b column reached left right

  pub skips_left : (column : ℕ) → 2 * column < across a → across b < 2 * column → ⊥
  skips_left column right left =
      let back : IsReached b.kind a.kind b a = record { left = reached.right; right = reached.left; below = reached.above; above = reached.below } in
      skips_by b.kind a.kind b a column back left right

  pub arrives : (column : ℕ) → (across a ≡ 2 * column → ⊥) → across b ≡ 2 * column → (b.kind ≡ ChanX) ⊎ (b.kind ≡ Ipin)
  arrives column off on = arrives_by arch strip a.kind b.kind a b column joined reached off on

  pub stays : a.kind ≡ Ipin → (b.kind ≡ Sink) × (across b ≡ across a)
  stays is =
      let from : joins arch strip Ipin b.kind a b ≡ true = subst (λ kind. joins arch strip kind b.kind a b ≡ true) is joined in
      let here : across a ≡ 2 * a.x = ap (λ kind. across_of kind a.x) is in
      let end = stays_by arch strip b.kind a b from (joins_reached arch strip Ipin b.kind a b (sym is) refl from) in
      (end.0, end.1 ∙ sym here)

  pub leads_nowhere : a.kind ≡ Sink → ⊥
  leads_nowhere is = false≢true (subst (λ kind. joins arch strip kind b.kind a b ≡ true) is joined)
