-- The wires of a row have consecutive numbers, track by track, and places in their order.
use Rattle.fabric_planes.proofs.Prelude.{◌≡◌, ℕ, zero, suc, ◌+◌, ◌<◌, refl, sym, ap, ◌∙◌, subst, inl, inr, arith, true, cases_eq, cases_lt, NodeKind, Node, IsBefore, rank_of, IsWire, is_node, Basis, IsBasis, graph_of, make_node, Terminals, place_of, place_count}
use Rattle.fabric_planes.proofs.Wires.{each_track}
use Rattle.fabric_planes.proofs.Strips.{lawful, low, place_order, before_number, track_low, wire_shows}

-- nothing is between two wires of a row whose tracks follow one another
nothing_between : (a b c : Node) → a.x ≡ c.x → rank_of a.kind ≡ rank_of c.kind → a.y ≡ c.y → a.n + 1 ≡ c.n → IsBefore a b → IsBefore b c → ⊥
nothing_between a b c x k y n before after = grind arith

-- a node does not come after one with a greater number
not_after : (a b : Node) → a.x ≡ b.x → rank_of a.kind ≡ rank_of b.kind → a.y ≡ b.y → a.n < b.n → IsBefore b a → ⊥
not_after a b x k y n before = omega (arith, before_number b a (sym x) (sym k) (sym y) before, n)

not_itself : (a : Node) → IsBefore a a → ⊥
not_itself a before = omega (arith, before_number a a refl refl refl before)

-- the first wire of a row, and the distance to a given one
pub record IsFirstOf (basis : Basis) (number : ℕ) (wire : Node) : Type 0 where
  pub first : ℕ
  pub within : first < (graph_of basis).count
  pub is : (graph_of basis).node first ≡ make_node wire.x wire.kind wire.y 0
  pub apart : first + wire.n ≡ number

module _ {basis : Basis} (is : IsBasis basis) where
  abbrev node : ℕ → Node
  node = (graph_of basis).node

  pub same_number : (i j : ℕ) → i < (graph_of basis).count → j < (graph_of basis).count → node i ≡ node j → i ≡ j
  same_number i j bi bj e = elim (cases_eq i j) [
    | inl same ↦ same
    | inr other ↦ elim (cases_lt i j) [
      | inl l ↦ absurd (not_itself (node j) (subst (λ (v : Node). IsBefore v (node j)) e ((lawful is).ordered i j l bj)))
      | inr l ↦ (let m : j < i = omega (arith, l, other) in absurd (not_itself (node j) (subst (λ (v : Node). IsBefore (node j) v) e ((lawful is).ordered j i m bi))))
    ]
  ]

  first_by : (kind : NodeKind) (x y n number : ℕ) → IsWire kind → number < (graph_of basis).count → node number ≡ make_node x kind y n → IsFirstOf basis number (make_node x kind y n)
  first_by kind x y zero number w b e = record { first = number; within = b; is = e; apart = omega arith }
  first_by kind x y (suc m) number w b e =
      let few : suc m < basis.arch.tracks = subst (λ (v : Node). v.n < basis.arch.tracks) e (track_low is number (record { within = b; wire = subst (λ (v : Node). IsWire v.kind) (sym e) w })) in
      let there = each_track basis kind x y (suc m) m w (omega (arith, few)) (subst (λ (v : Node). is_node basis.arch basis.strip v ≡ true) e ((lawful is).nodes number b)) in
      let found = (lawful is).all (make_node x kind y m) there in
      let k = found.0 in
      let before = first_by kind x y m k w found.1 found.2 in
      let next : k + 1 ≡ number = elim (cases_lt k number) [
        | inl less ↦ elim (cases_eq (k + 1) number) [
          | inl same ↦ same
          | inr other ↦
              let between : k + 1 < number = omega (arith, less, other) in
              absurd (nothing_between (make_node x kind y m) (node (k + 1)) (make_node x kind y (suc m)) refl refl refl (omega arith)
              (subst (λ (v : Node). IsBefore v (node (k + 1))) found.2 ((lawful is).ordered k (k + 1) (omega arith) (omega (arith, between, b))))
              (subst (λ (v : Node). IsBefore (node (k + 1)) v) e ((lawful is).ordered (k + 1) number between b)))
        ]
        | inr more ↦ elim (cases_eq k number) [
          | inl same ↦ absurd (omega (arith, ap (λ (v : Node). v.n) (sym found.2 ∙ (ap node same ∙ e))))
          | inr other ↦
              let down : number < k = omega (arith, more, other) in
              absurd (not_after (make_node x kind y m) (make_node x kind y (suc m)) refl refl refl (omega arith)
              (subst (λ (v : Node). IsBefore v (make_node x kind y m)) e (subst (λ (v : Node). IsBefore (node number) v) found.2 ((lawful is).ordered number k down found.1))))
        ]
      ] in
      record { first = before.first; within = before.within; is = before.is; apart = omega (arith, before.apart, next) }

  -- the wire of track 0 in the row of a wire
  pub first_of : (number : ℕ) → number < (graph_of basis).count → IsWire (node number).kind → IsFirstOf basis number (node number)
  first_of number b w = first_by (node number).kind (node number).x (node number).y (node number).n number w b refl

  -- wires of a track have places in their order
  pub wires_order : (i j : ℕ) → i < j → j < (graph_of basis).count → IsWire (node i).kind → IsWire (node j).kind → (node i).n ≡ (node j).n → place_of basis (node i) < place_of basis (node j)
  wires_order i j l b wi wj e =
      let t : Terminals = record { source = node i; sink = node i } in
      place_order is t (node j).n i j l (omega (arith, l, b)) b (wire_shows basis.strip t (node j).n (node i).kind (node i) wi e) (wire_shows basis.strip t (node j).n (node j).kind (node j) wj refl) ((lawful is).ordered i j l b)

  -- wires have places of the plane
  pub wire_low : (i : ℕ) → i < (graph_of basis).count → IsWire (node i).kind → place_of basis (node i) < place_count basis
  wire_low i b w =
      let t : Terminals = record { source = node i; sink = node i } in
      low is t (node i).n i b (wire_shows basis.strip t (node i).n (node i).kind (node i) w refl)
