-- The wires up to a sink, by tables of distances.
use Rattle.fabric_planes.proofs.Prelude.{◌≡◌, ℕ, ◌-◌, ◌<◌, ◌≤◌, true, List, subst, sym, arith, NodeKind, Sink, ChanX, ChanY, Node, IsWire, is_node, Basis, IsBasis, graph_of, AreAheads, wires_to, AreFar, wires_by, Target, Level, Block, IsInStrip, IsAtSide, IsWireAt}
use Rattle.fabric_planes.proofs.Lowered.{by_four}
use Rattle.fabric_planes.proofs.PinsRowed.{pin_facts}
use Rattle.fabric_planes.proofs.Strips.{lawful, wire_row}

-- the distance from a wire at a side
abbrev IsFarFrom : Target → ℕ → ℕ → NodeKind → ℕ → ℕ → NodeKind → ℕ → ℕ → Type 0
IsFarFrom target u v ka xa ya kb xb yb = wires_to target ka xa ya u v ≤ wires_by ka xa ya kb xb yb

at_is : (target : Target) (u v : ℕ) (ka : NodeKind) (xa ya : ℕ) (kb kc : NodeKind) (xb xc yb yc : ℕ) → kb ≡ kc → xb ≡ xc → yb ≡ yc → IsFarFrom target u v ka xa ya kc xc yc → IsFarFrom target u v ka xa ya kb xb yb
at_is target u v ka xa ya kb kc xb xc yb yc k x y h = subst (λ k. IsFarFrom target u v ka xa ya k xb yb) (sym k) (subst (λ x. IsFarFrom target u v ka xa ya kc x yb) (sym x) (subst (λ y. IsFarFrom target u v ka xa ya kc xc y) (sym y) h))

-- a block has wires at all sides
block_far : (sink : Node) (ka : NodeKind) (xa ya : ℕ) (side : ℕ) (kb : NodeKind) (xb yb : ℕ) → IsAtSide sink side kb xb yb → IsFarFrom Block sink.x sink.y ka xa ya kb xb yb
block_far sink ka xa ya side kb xb yb at =
    by_four (λ side. IsAtSide sink side kb xb yb → IsFarFrom Block sink.x sink.y ka xa ya kb xb yb)
    (λ at. at_is Block sink.x sink.y ka xa ya kb ChanX xb sink.x yb sink.y at.kind_is (omega (arith, at.column)) (omega (arith, at.row)) (omega arith))
    (λ at. at_is Block sink.x sink.y ka xa ya kb ChanX xb sink.x yb (sink.y - 1) at.kind_is (omega (arith, at.column)) (omega (arith, at.row)) (omega arith))
    (λ at. at_is Block sink.x sink.y ka xa ya kb ChanY xb sink.x yb sink.y at.kind_is (omega (arith, at.column)) (omega (arith, at.row)) (omega arith))
    (λ at. at_is Block sink.x sink.y ka xa ya kb ChanY xb (sink.x - 1) yb sink.y at.kind_is (omega (arith, at.column)) (omega (arith, at.row)) (omega arith))
    side at.few at

-- a pad has a wire above it, or one below it
level_far : (sink : Node) (v : ℕ) (ka : NodeKind) (xa ya : ℕ) (kb : NodeKind) (xb yb : ℕ) → kb ≡ ChanX → xb ≡ sink.x → yb ≡ v → IsFarFrom Level sink.x v ka xa ya kb xb yb
level_far sink v ka xa ya kb xb yb k x y = at_is Level sink.x v ka xa ya kb ChanX xb sink.x yb v k x y (omega arith)

-- a node of the graph is one of the strip
pub node_there : {basis : Basis} → IsBasis basis → (number : ℕ) → number < (graph_of basis).count → (v : Node) → (graph_of basis).node number ≡ v → is_node basis.arch basis.strip v ≡ true
node_there {basis} is number within v e = subst (λ (v : Node). is_node basis.arch basis.strip v ≡ true) e ((lawful is).nodes number within)

-- a source or a sink is in a column and row of the strip
pub terminal_inside : {basis : Basis} → IsBasis basis → (v : Node) → (IsWire v.kind → ⊥) → is_node basis.arch basis.strip v ≡ true → IsInStrip basis v
terminal_inside is v no_wire there = let pin = pin_facts is v no_wire there in record { x = pin.to; y = omega (arith, pin.row) }

pub sink_inside : {basis : Basis} → IsBasis basis → (v : Node) → v.kind ≡ Sink → is_node basis.arch basis.strip v ≡ true → IsInStrip basis v
sink_inside is v kind there = terminal_inside is v (subst (λ (k : NodeKind). IsWire k → ⊥) (sym kind) (λ w. w)) there

module _ (basis : Basis) (is : IsBasis basis) (sink : Node) where
  abbrev node : ℕ → Node
  node = (graph_of basis).node

  row_from : (number : ℕ) → IsWireAt basis number → (node number).kind ≡ ChanY → 1 ≤ (node number).y
  row_from number w e = grind (arith, lawful is)

  -- if the target is at most as far as each wire at a side
  ahead_by : (target : Target) (u v : ℕ) (table : List ℕ) → AreFar basis target u v table
      → ((from side last : ℕ) → IsWireAt basis last → IsAtSide sink side (node last).kind (node last).x (node last).y → IsFarFrom target u v (node from).kind (node from).x (node from).y (node last).kind (node last).x (node last).y)
      → AreAheads basis sink table
  ahead_by target u v table are near = record {
    long = are.long;
    wires = λ place number side last w at_last at. omega (arith, are.far place number w, near number side last at_last at);
    none = are.none;
  }

  pub block_aheads : (table : List ℕ) → AreFar basis Block sink.x sink.y table → AreAheads basis sink table
  block_aheads table are = ahead_by Block sink.x sink.y table are (λ from side last w at. block_far sink (node from).kind (node from).x (node from).y side (node last).kind (node last).x (node last).y at)

  pub top_aheads : (table : List ℕ) → sink.y ≡ 0 → AreFar basis Level sink.x 0 table → AreAheads basis sink table
  top_aheads table e are = ahead_by Level sink.x 0 table are (λ from side last w at.
      by_four (λ side. IsAtSide sink side (node last).kind (node last).x (node last).y → IsFarFrom Level sink.x 0 (node from).kind (node from).x (node from).y (node last).kind (node last).x (node last).y)
      (λ at. level_far sink 0 (node from).kind (node from).x (node from).y (node last).kind (node last).x (node last).y at.kind_is (omega (arith, at.column)) (omega (arith, at.row, e)))
      (λ at. absurd (omega (arith, at.row, e)))
      (λ at. absurd (omega (arith, at.row, e, row_from last w at.kind_is)))
      (λ at. absurd (omega (arith, at.row, e, row_from last w at.kind_is)))
      side at.few at)

  pub bottom_aheads : (table : List ℕ) → basis.strip.rows < sink.y → AreFar basis Level sink.x (sink.y - 1) table → AreAheads basis sink table
  bottom_aheads table l are = ahead_by Level sink.x (sink.y - 1) table are (λ from side last w at.
      let low = wire_row is last w.within w.wire in
      by_four (λ side. IsAtSide sink side (node last).kind (node last).x (node last).y → IsFarFrom Level sink.x (sink.y - 1) (node from).kind (node from).x (node from).y (node last).kind (node last).x (node last).y)
      (λ at. absurd (omega (arith, at.row, l, low)))
      (λ at. level_far sink (sink.y - 1) (node from).kind (node from).x (node from).y (node last).kind (node last).x (node last).y at.kind_is (omega (arith, at.column)) (omega (arith, at.row)))
      (λ at. absurd (omega (arith, at.row, l, low)))
      (λ at. absurd (omega (arith, at.row, l, low)))
      side at.few at)
