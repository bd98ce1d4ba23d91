-- Of two paths, the one whose nodes come first leaves its start first.
use Rattle.fabric_planes.proofs.Prelude.{◌≡◌, ℕ, ◌<◌, ◌≤◌, ◌⊎◌, List, ◌∷◌, refl, sym, ◌∙◌, subst, inl, inr, arith, nat_cmp, slice_cmp, Less, NodeKind, Source, Opin, Node, IsBefore, IsWire, Basis, IsBasis, graph_of, Head, IsWireOf, offset_of, place_of, IsWireHead, IsPinHead, IsSourceHead, IsHeadOf, ComesFirst, IsWireAt}
use Rattle.fabric_planes.proofs.Offsets.{low_of, high_of, below_stride, kinds_apart, columns_apart}
use Rattle.fabric_planes.proofs.Strips.{lawful, wire_row}

-- ---- lists

-- the first numbers decide, or the others do
first_less : (a b : ℕ) (xs ys : List ℕ) → slice_cmp nat_cmp (a ∷ xs) (b ∷ ys) ≡ Less → (a < b) ⊎ ((a ≡ b) × (slice_cmp nat_cmp xs ys ≡ Less))
first_less a b xs ys h = grind arith

-- ---- wires

-- the offset of a wire is among those of its kind
wire_in : (basis : Basis) (kind : NodeKind) (v : Node) → IsWire kind → v.y ≤ basis.strip.rows → (low_of basis kind ≤ offset_of basis kind v) × (offset_of basis kind v < high_of basis kind)
wire_in basis kind v w r = grind arith

module _ {basis : Basis} (is : IsBasis basis) where
  abbrev node : ℕ → Node
  node = (graph_of basis).node

  abbrev offset : ℕ → ℕ
  offset i = offset_of basis (node i).kind (node i)

  abbrev IsAhead : ℕ → ℕ → Type 0
  IsAhead i j = (place_of basis (node i) < place_of basis (node j)) ⊎ ((place_of basis (node i) ≡ place_of basis (node j)) × ((node i).n < (node j).n))

  in_kind : (i : ℕ) → IsWireAt basis i → (low_of basis (node i).kind ≤ offset i) × (offset i < high_of basis (node i).kind)
  in_kind i w = wire_in basis (node i).kind (node i) w.wire (wire_row is i w.within w.wire)

  in_column_order : (i j : ℕ) → (node i).x ≡ (node j).x → offset i < offset j → place_of basis (node i) < place_of basis (node j)
  in_column_order i j x o = grind arith

  by_node : (i j : ℕ) → IsWireAt basis i → IsWireAt basis j → IsBefore (node i) (node j) → IsAhead i j
  by_node i j wi wj (inl x) = inl (columns_apart basis (node i).x (node j).x (offset i) (offset j) x (omega (arith, (in_kind i wi).1, below_stride basis (node i).kind)))
  by_node i j wi wj (inr (x, inl r)) = inl (in_column_order i j x (omega (arith, (in_kind i wi).1, (in_kind j wj).0, kinds_apart basis (node i).kind (node j).kind r)))
  by_node i j wi wj (inr (x, inr (r, inl y))) = grind arith
  by_node i j wi wj (inr (x, inr (r, inr (y, n)))) = grind arith

  -- wires are in the order of their places, and then of their tracks
  pub wire_order : (i j : ℕ) → i < j → IsWireAt basis i → IsWireAt basis j → IsAhead i j
  wire_order i j l wi wj = by_node i j wi wj ((lawful is).ordered i j l wj.within)

  -- ---- heads

  -- a wire that comes before another one, at places and on tracks
  wires_first : (p q m n i j : ℕ) → IsWireOf basis p i → IsWireOf basis q j → (node i).n ≡ m → (node j).n ≡ n → i < j → (p < q) ⊎ ((p ≡ q) × (m < n))
  wires_first p q m n i j wi wj ni nj l = grind (arith, wire_order i j l wi.wire wj.wire)

  abbrev Comes : Head → Head → Type 0
  Comes q h = (q.track ≡ h.track) ⊎ ComesFirst q h

  wire_no_pin : (k : NodeKind) → IsWire k → k ≡ Opin → ⊥
  wire_no_pin k w e = subst IsWire e w

  wire_no_source : (k : NodeKind) → IsWire k → k ≡ Source → ⊥
  wire_no_source k w e = subst IsWire e w

  -- the nodes after the same start, or after the same pin
  after_pin : (q h : Head) (i j : ℕ) (xs ys : List ℕ) → q.start ≡ h.start → q.pin ≡ h.pin → IsWireOf basis q.place i → IsWireOf basis h.place j → (node i).n ≡ q.track → (node j).n ≡ h.track
      → slice_cmp nat_cmp (i ∷ xs) (j ∷ ys) ≡ Less → Comes q h
  after_pin q h i j xs ys s p wi wj ni nj less = grind (arith, wires_first)

  -- the first nodes decide, if the two begin with different kinds
  other_kind : (q h : Head) (a b : NodeKind) (xs ys : List ℕ) → (node q.start).kind ≡ a → (node h.start).kind ≡ b → (a ≡ b → ⊥) → slice_cmp nat_cmp (q.start ∷ xs) (h.start ∷ ys) ≡ Less → Comes q h
  other_kind q h a b xs ys ka kb differ less = grind arith

  pin_pin : (q h : Head) (nodes known : List ℕ) (a : IsPinHead basis q nodes) (b : IsPinHead basis h known) → slice_cmp nat_cmp (q.start ∷ a.wire ∷ a.rest) (h.start ∷ b.wire ∷ b.rest) ≡ Less → Comes q h
  pin_pin q h nodes known a b less = elim (first_less q.start h.start (a.wire ∷ a.rest) (b.wire ∷ b.rest) less) [
    | inl l ↦ inr (inl l)
    | inr (e, more) ↦ after_pin q h a.wire b.wire a.rest b.rest e (a.pin ∙ (e ∙ sym b.pin)) a.wire_is b.wire_is a.track b.track more
  ]

  source_source : (q h : Head) (nodes known : List ℕ) (a : IsSourceHead basis q nodes) (b : IsSourceHead basis h known) → slice_cmp nat_cmp (q.start ∷ q.pin ∷ a.wire ∷ a.rest) (h.start ∷ h.pin ∷ b.wire ∷ b.rest) ≡ Less → Comes q h
  source_source q h nodes known a b less = elim (first_less q.start h.start (q.pin ∷ a.wire ∷ a.rest) (h.pin ∷ b.wire ∷ b.rest) less) [
    | inl l ↦ inr (inl l)
    | inr (e, more) ↦ elim (first_less q.pin h.pin (a.wire ∷ a.rest) (b.wire ∷ b.rest) more) [
      | inl l ↦ inr (inr (e, inl l))
      | inr (p, last) ↦ after_pin q h a.wire b.wire a.rest b.rest e p a.wire_is b.wire_is a.track b.track last
    ]
  ]

  -- the two lists as they begin
  begun : (xs us ys vs : List ℕ) → xs ≡ us → ys ≡ vs → slice_cmp nat_cmp xs ys ≡ Less → slice_cmp nat_cmp us vs ≡ Less
  begun xs us ys vs e f less = subst (λ (v : List ℕ). slice_cmp nat_cmp v vs ≡ Less) e (subst (λ (v : List ℕ). slice_cmp nat_cmp xs v ≡ Less) f less)

  opin_source : Opin ≡ Source → ⊥
  opin_source e = cc

  pub heads_order : (q h : Head) (nodes known : List ℕ) → IsHeadOf basis q nodes → IsHeadOf basis h known → slice_cmp nat_cmp nodes known ≡ Less → Comes q h
  heads_order q h nodes known (inl a) (inl b) less = grind arith
  heads_order q h nodes known (inl a) (inr (inl b)) less =
      other_kind q h (node q.start).kind Opin a.rest (b.wire ∷ b.rest) refl b.kind (wire_no_pin (node q.start).kind a.wire_is.wire.wire) (begun nodes (q.start ∷ a.rest) known (h.start ∷ b.wire ∷ b.rest) a.begins b.begins less)
  heads_order q h nodes known (inl a) (inr (inr b)) less =
      other_kind q h (node q.start).kind Source a.rest (h.pin ∷ b.wire ∷ b.rest) refl b.kind (wire_no_source (node q.start).kind a.wire_is.wire.wire) (begun nodes (q.start ∷ a.rest) known (h.start ∷ h.pin ∷ b.wire ∷ b.rest) a.begins b.begins less)
  heads_order q h nodes known (inr (inl a)) (inl b) less =
      other_kind q h Opin (node h.start).kind (a.wire ∷ a.rest) b.rest a.kind refl (λ e. wire_no_pin (node h.start).kind b.wire_is.wire.wire (sym e)) (begun nodes (q.start ∷ a.wire ∷ a.rest) known (h.start ∷ b.rest) a.begins b.begins less)
  heads_order q h nodes known (inr (inl a)) (inr (inl b)) less =
      pin_pin q h nodes known a b (begun nodes (q.start ∷ a.wire ∷ a.rest) known (h.start ∷ b.wire ∷ b.rest) a.begins b.begins less)
  heads_order q h nodes known (inr (inl a)) (inr (inr b)) less =
      other_kind q h Opin Source (a.wire ∷ a.rest) (h.pin ∷ b.wire ∷ b.rest) a.kind b.kind opin_source (begun nodes (q.start ∷ a.wire ∷ a.rest) known (h.start ∷ h.pin ∷ b.wire ∷ b.rest) a.begins b.begins less)
  heads_order q h nodes known (inr (inr a)) (inl b) less =
      other_kind q h Source (node h.start).kind (q.pin ∷ a.wire ∷ a.rest) b.rest a.kind refl (λ e. wire_no_source (node h.start).kind b.wire_is.wire.wire (sym e)) (begun nodes (q.start ∷ q.pin ∷ a.wire ∷ a.rest) known (h.start ∷ b.rest) a.begins b.begins less)
  heads_order q h nodes known (inr (inr a)) (inr (inl b)) less =
      other_kind q h Source Opin (q.pin ∷ a.wire ∷ a.rest) (b.wire ∷ b.rest) a.kind b.kind (λ e. opin_source (sym e)) (begun nodes (q.start ∷ q.pin ∷ a.wire ∷ a.rest) known (h.start ∷ b.wire ∷ b.rest) a.begins b.begins less)
  heads_order q h nodes known (inr (inr a)) (inr (inr b)) less =
      source_source q h nodes known a b (begun nodes (q.start ∷ q.pin ∷ a.wire ∷ a.rest) known (h.start ∷ h.pin ∷ b.wire ∷ b.rest) a.begins b.begins less)

  -- a path from a wire that comes before another one on another track begins at a lesser number
  pub wire_first : (q h : Head) (nodes known : List ℕ) → IsWireHead basis q nodes → IsHeadOf basis h known → slice_cmp nat_cmp nodes known ≡ Less → (q.track ≡ h.track) ⊎ (q.start < h.start)
  wire_first q h nodes known a b less = search arith
