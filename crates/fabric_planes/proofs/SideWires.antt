-- The wires at the sides of a sink's block or pad, by place.
use Rattle.fabric_planes.proofs.Prelude.{◌≡◌, ℕ, ◌+◌, ◌-◌, ◌<◌, ◌≤◌, true, false, List, cond, refl, ap, subst, sym, ◌∙◌, inl, inr, arith, leb, slice_index, cases_lt, leb-true, Arch, Strip, NodeKind, ChanX, ChanY, Node, IsWire, is_node, Basis, IsBasis, graph_of, AreSides, IsPinPlace, IsWireOf, band_of, level_at, upright_at, stride_of, in_column, offset_of, place_of, place_count, IsInStrip, side_places, IsAtSide}
use Rattle.fabric_planes.proofs.Strips.{lawful}
use Rattle.fabric_planes.proofs.Found.{place_low}
use Rattle.fabric_planes.proofs.Lowered.{by_four}
use Rattle.fabric_planes.proofs.Offsets.{columns_apart, place_below}

-- ---- places are apart

-- a place determines its column and offset
pub parts_of : (basis : Basis) (x y p q : ℕ) → p < stride_of basis → q < stride_of basis → in_column basis x p ≡ in_column basis y q → (x ≡ y) × (p ≡ q)
parts_of basis x y p q few more e = elim (cases_lt x y) [
  | inl less ↦ absurd (let l = columns_apart basis x y p q less few in omega (arith, l, e))
  | inr no_less ↦ elim (cases_lt y x) [
    | inl less ↦ absurd (let l = columns_apart basis y x q p less more in omega (arith, l, e))
    | inr no_more ↦
        (let same : x ≡ y = omega (arith, no_less, no_more) in
        let e' : in_column basis y p ≡ in_column basis y q = subst (λ x. in_column basis x p ≡ in_column basis y q) same e in
        (same, omega (arith, e')))
  ]
]

wire_row : (arch : Arch) (strip : Strip) (v : Node) → IsWire v.kind → is_node arch strip v ≡ true → v.y ≤ strip.rows
wire_row arch strip v w there = grind arith

-- a horizontal wire, and a vertical one, by their places
level_wire : (basis : Basis) (v : Node) (kind : NodeKind) → IsWire kind → v.y ≤ basis.strip.rows → (x r : ℕ) → r < band_of basis → in_column basis x (level_at basis + r) ≡ in_column basis v.x (offset_of basis kind v) → (kind ≡ ChanX) × (v.x ≡ x) × (v.y ≡ r)
level_wire basis v ChanX w low x r few e =
    let p = parts_of basis x v.x (level_at basis + r) (level_at basis + v.y) (omega (arith, few)) (omega (arith, low)) e in
    (refl, sym p.0, omega (arith, p.1))
level_wire basis v ChanY w low x r few e =
    let p = parts_of basis x v.x (level_at basis + r) (upright_at basis + v.y) (omega (arith, few)) (omega (arith, low)) e in
    absurd (omega (arith, p.1, few))
level_wire basis v _ w low x r few e = absurd w

upright_wire : (basis : Basis) (v : Node) (kind : NodeKind) → IsWire kind → v.y ≤ basis.strip.rows → (x r : ℕ) → r < band_of basis → in_column basis x (upright_at basis + r) ≡ in_column basis v.x (offset_of basis kind v) → (kind ≡ ChanY) × (v.x ≡ x) × (v.y ≡ r)
upright_wire basis v ChanX w low x r few e =
    let p = parts_of basis x v.x (upright_at basis + r) (level_at basis + v.y) (omega (arith, few)) (omega (arith, low)) e in
    absurd (omega (arith, p.1, low))
upright_wire basis v ChanY w low x r few e =
    let p = parts_of basis x v.x (upright_at basis + r) (upright_at basis + v.y) (omega (arith, few)) (omega (arith, low)) e in
    (refl, sym p.0, omega (arith, p.1))
upright_wire basis v _ w low x r few e = absurd w

-- the place of a wire of a kind
place_by : (basis : Basis) (v : Node) (kind : NodeKind) → v.kind ≡ kind → place_of basis v ≡ in_column basis v.x (offset_of basis kind v)
place_by basis v kind e = ap (λ k. in_column basis v.x (offset_of basis k v)) e

same_place : (basis : Basis) (x y p q : ℕ) → x ≡ y → p ≡ q → in_column basis x p ≡ in_column basis y q
same_place basis x y p q e f = ap (λ x. in_column basis x p) e ∙ ap (λ p. in_column basis y p) f

-- a place of wires is not one of pins
no_pin_at : (basis : Basis) (x p y q : ℕ) → level_at basis ≤ p → p < stride_of basis → IsPinPlace basis y q → in_column basis x p ≡ in_column basis y q → ⊥
no_pin_at basis x p y q from few pin e = grind (arith, parts_of basis x y p q few (omega (arith, pin.few)) e)

no_pin_past : (basis : Basis) (y q : ℕ) → IsPinPlace basis y q → place_count basis ≡ in_column basis y q → ⊥
no_pin_past basis y q pin e = let l = place_below basis y q pin.column (omega (arith, pin.few)) in omega (arith, l, e)

module _ (basis : Basis) (is : IsBasis basis) (sink : Node) (inside : IsInStrip basis sink) where
  abbrev node : ℕ → Node
  node = (graph_of basis).node

  at_level : (place number : ℕ) → IsWireOf basis place number → (x r : ℕ) → r < band_of basis → in_column basis x (level_at basis + r) ≡ place → ((node number).kind ≡ ChanX) × ((node number).x ≡ x) × ((node number).y ≡ r)
  at_level place number w x r few e = level_wire basis (node number) (node number).kind w.wire.wire (wire_row basis.arch basis.strip (node number) w.wire.wire ((lawful is).nodes number w.wire.within)) x r few (e ∙ sym w.is_at)

  at_upright : (place number : ℕ) → IsWireOf basis place number → (x r : ℕ) → r < band_of basis → in_column basis x (upright_at basis + r) ≡ place → ((node number).kind ≡ ChanY) × ((node number).x ≡ x) × ((node number).y ≡ r)
  at_upright place number w x r few e = upright_wire basis (node number) (node number).kind w.wire.wire (wire_row basis.arch basis.strip (node number) w.wire.wire ((lawful is).nodes number w.wire.within)) x r few (e ∙ sym w.is_at)

  no_wire_past : (place number : ℕ) → IsWireOf basis place number → place_count basis ≡ place → ⊥
  no_wire_past place number w e = let l = place_low is place number w in omega (arith, l, e)

  below : sink.y < band_of basis
  below = omega (arith, inside.y)

  side_is : (side place number : ℕ) → IsWireOf basis place number → side < 4 → slice_index (side_places basis sink) side ≡ place → IsAtSide sink side (node number).kind (node number).x (node number).y
  side_is side place number w few e =
      by_four (λ side. slice_index (side_places basis sink) side ≡ place → IsAtSide sink side (node number).kind (node number).x (node number).y)
      (λ e. (let p = at_level place number w sink.x sink.y below e in record { few = omega arith; kind_is = p.0; column = omega (arith, p.1); row = omega (arith, p.2) }))
      (λ e. elim (leb 1 sink.y) as (λ b. leb 1 sink.y ≡ b → cond b (in_column basis sink.x (level_at basis + (sink.y - 1))) (place_count basis) ≡ place → IsAtSide sink 1 (node number).kind (node number).x (node number).y) [
        | true ↦ λ b e. (let p = at_level place number w sink.x (sink.y - 1) (omega (arith, below)) e in record { few = omega arith; kind_is = p.0; column = omega (arith, p.1); row = omega (arith, p.2, leb-true 1 sink.y b) })
        | false ↦ λ b e. absurd (no_wire_past place number w e)
      ] refl e)
      (λ e. (let p = at_upright place number w sink.x sink.y below e in record { few = omega arith; kind_is = p.0; column = omega (arith, p.1); row = omega (arith, p.2) }))
      (λ e. elim (leb 1 sink.x) as (λ b. leb 1 sink.x ≡ b → cond b (in_column basis (sink.x - 1) (upright_at basis + sink.y)) (place_count basis) ≡ place → IsAtSide sink 3 (node number).kind (node number).x (node number).y) [
        | true ↦ λ b e. (let p = at_upright place number w (sink.x - 1) sink.y below e in record { few = omega arith; kind_is = p.0; column = omega (arith, p.1, leb-true 1 sink.x b); row = omega (arith, p.2) })
        | false ↦ λ b e. absurd (no_wire_past place number w e)
      ] refl e)
      side few e

  side_all : (side place number : ℕ) → IsWireOf basis place number → IsAtSide sink side (node number).kind (node number).x (node number).y → slice_index (side_places basis sink) side ≡ place
  side_all side place number w at = search arith

  side_no_pin : (side x offset : ℕ) → side < 4 → IsPinPlace basis x offset → slice_index (side_places basis sink) side ≡ in_column basis x offset → ⊥
  side_no_pin side x offset few pin e =
      by_four (λ side. slice_index (side_places basis sink) side ≡ in_column basis x offset → ⊥)
      (λ e. no_pin_at basis sink.x (level_at basis + sink.y) x offset (omega arith) (omega (arith, below)) pin e)
      (λ e. elim (leb 1 sink.y) as (λ b. cond b (in_column basis sink.x (level_at basis + (sink.y - 1))) (place_count basis) ≡ in_column basis x offset → ⊥) [
        | true ↦ λ e. no_pin_at basis sink.x (level_at basis + (sink.y - 1)) x offset (omega arith) (omega (arith, below)) pin e
        | false ↦ λ e. no_pin_past basis x offset pin e
      ] e)
      (λ e. no_pin_at basis sink.x (upright_at basis + sink.y) x offset (omega arith) (omega (arith, below)) pin e)
      (λ e. elim (leb 1 sink.x) as (λ b. cond b (in_column basis (sink.x - 1) (upright_at basis + sink.y)) (place_count basis) ≡ in_column basis x offset → ⊥) [
        | true ↦ λ e. no_pin_at basis (sink.x - 1) (upright_at basis + sink.y) x offset (omega arith) (omega (arith, below)) pin e
        | false ↦ λ e. no_pin_past basis x offset pin e
      ] e)
      side few e

  pub are_sides : (sides : List ℕ) → sides ≡ side_places basis sink → AreSides basis sink sides
  are_sides sides same = subst (AreSides basis sink) (sym same) (record { four = refl; is_at = side_is; all = side_all; no_pin = side_no_pin })
