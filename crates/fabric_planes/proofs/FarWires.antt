-- The wires up to each side of a sink's block or pad.
use Rattle.fabric_planes.proofs.Prelude.{◌≡◌, ℕ, ◌-◌, ◌<◌, ◌≤◌, List, min, refl, subst, sym, ◌∙◌, arith, slice_index, le-ltb, lt-ltb, NodeKind, ChanX, ChanY, Node, Basis, graph_of, Target, Level, Upright, AreFars, MOST_FAR, wires_to, wires_by, AreFar, side_kind, rows_less, columns_less}

module _ (basis : Basis) (sink : Node) (side : ℕ) (list : List ℕ) where
  -- the wires at the side are of this kind
  fars_by : (target : Target) (kind : NodeKind) → side_kind side ≡ kind → ((ka : NodeKind) (xa ya x y : ℕ) → min MOST_FAR (wires_to target ka xa ya x y) ≤ wires_by ka xa ya kind x y)
      → AreFar basis target (sink.x - columns_less side) (sink.y - rows_less side) list → AreFars basis sink side list
  fars_by target kind kind_is low are = record {
    long = are.long;
    wires = λ place number last w is_last at.
        let a = (graph_of basis).node number in
        let b = (graph_of basis).node last in
        let x : sink.x - columns_less side ≡ b.x = omega (arith, at.column) in
        let y : sink.y - rows_less side ≡ b.y = omega (arith, at.row) in
        subst (λ k. slice_index list place ≤ wires_by a.kind a.x a.y k b.x b.y) (sym (at.kind_is ∙ kind_is))
        (subst (λ u. slice_index list place ≤ wires_by a.kind a.x a.y kind u b.y) x
        (subst (λ v. slice_index list place ≤ wires_by a.kind a.x a.y kind (sink.x - columns_less side) v) y
        (omega (arith, are.far place number w, low a.kind a.x a.y (sink.x - columns_less side) (sink.y - rows_less side)))));
  }

  pub level_fars : side < 2 → AreFar basis Level (sink.x - columns_less side) (sink.y - rows_less side) list → AreFars basis sink side list
  level_fars few = fars_by Level ChanX (rw (lt-ltb side 2 few) refl) (λ ka xa ya x y. omega arith)

  pub upright_fars : 2 ≤ side → AreFar basis Upright (sink.x - columns_less side) (sink.y - rows_less side) list → AreFars basis sink side list
  upright_fars some = fars_by Upright ChanY (rw (le-ltb side 2 some) refl) (λ ka xa ya x y. omega arith)
