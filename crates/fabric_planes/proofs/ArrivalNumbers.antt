-- The rows of the ends of wires at sides, by number.
use Rattle.fabric_planes.proofs.Prelude.{ℕ, ◌≡◌, ◌+◌, ◌-◌, ◌*◌, ◌^◌, ◌<◌, ◌≤◌, ◌⊎◌, true, Bool, List, [], map, min, inl, inr, refl, sym, ap, subst, ◌∙◌, arith, slice_index, slice_index_or, cases_eq, cases_lt, eq-eqb, ne_eqb, length-map-range_with_len, get_or-map-range_with_len, mul-le, mul-add-lt, div-mul-add, mod-mul-add, NodeKind, Sink, Node, IsWire, is_node, is_slot, node_at_offset, Basis, IsBasis, graph_of, make_node, index_of, column_of, wire_beside, arrival_if, arrival_for, arrival_at, row_count, first_row, first_rows, AreRowsBelow, base_of, row_of, seen_from, shown_ends, Terminals, band_of, AreArrivals, ends_in, IsAtSide, columns_less, IsWireAt, Listed, View}
use Rattle.fabric_planes.proofs.Alike.{columns_alike, node_moved, not_moved, wire_row_moved}
use Rattle.fabric_planes.proofs.PinsRowed.{IsPin, pin_facts, sink_few}
use Rattle.fabric_planes.proofs.Strips.{node_slot, lawful, track_low}

-- at most one column less
pub column_few : (side x : ℕ) → 1 ≤ x → columns_less side ≤ x
column_few side x l = grind arith

-- ---- columns

-- the column with the rows of a column, and how far it is
record IsLike (width x : ℕ) : Type 0 where
  few : index_of width x < 4
  apart : ℕ
  column : column_of width (index_of width x) + apart ≡ x
  inner : (apart ≡ 0) ⊎ ((column_of width (index_of width x) ≡ 3) × (x < width))

like : (width x : ℕ) → 1 ≤ x → x ≤ width → IsLike width x
like width x some low = elim (cases_eq x width) [
  | inl last ↦
      let index : index_of width x ≡ 3 = rw (eq-eqb x width last) refl in
      let column : column_of width (index_of width x) ≡ width = ap (column_of width) index in
      record { few = omega (arith, index); apart = 0; column = omega (arith, column, last); inner = inl refl }
  | inr other ↦
      let index : index_of width x ≡ min (x - 1) 2 = rw (ne_eqb x width other) refl in
      let lower : min (x - 1) 2 ≡ 3 → ⊥ = λ e. omega (arith, e) in
      let column : column_of width (index_of width x) ≡ min (x - 1) 2 + 1 = ap (column_of width) index ∙ rw (ne_eqb (min (x - 1) 2) 3 lower) refl in
      elim (cases_lt x 3) [
        | inl first ↦ record { few = omega (arith, index); apart = 0; column = omega (arith, column, some, first); inner = inl refl }
        | inr inside ↦ record { few = omega (arith, index); apart = x - 3; column = omega (arith, column, inside); inner = inr (omega (arith, column, inside), omega (arith, low, other)) }
      ]
]

-- ---- numbers

-- the parts of a row's number
number_back : (basis : Basis) (y n index side track : ℕ) → n < basis.strip.io_rat → index < 4 → side < 4 → track < basis.arch.tracks
    → arrival_at basis ((((y * basis.strip.io_rat + n) * 4 + index) * 4 + side) * basis.arch.tracks + track) ≡ arrival_for basis (make_node (column_of basis.strip.width index) Sink y n) side track
number_back basis y n index side track few_n few four low = grind (arith, div-mul-add, mod-mul-add)

module _ {basis : Basis} (is : IsBasis basis) (sink : Node) (there : is_node basis.arch basis.strip sink ≡ true) (kind : sink.kind ≡ Sink) where
  facts : IsPin is sink
  facts = pin_facts is sink (subst (λ (k : NodeKind). IsWire k → ⊥) (sym kind) (λ w. w)) there

  few : sink.n < basis.strip.io_rat
  few = sink_few is sink (subst (λ (k : NodeKind). is_slot basis.arch basis.strip k sink.y sink.n ≡ true) kind (node_slot basis sink there))

  column : IsLike basis.strip.width sink.x
  column = like basis.strip.width sink.x facts.from facts.to

  row_number : ℕ → ℕ → ℕ
  row_number side track = first_row basis sink side + track

  low_number : (side track : ℕ) → side < 4 → track < basis.arch.tracks → row_number side track < row_count basis
  unfolding row_number
  low_number side track four low =
      let t : ℕ = basis.arch.tracks in
      let sites : ℕ = basis.strip.io_rat * band_of basis in
      let q : ℕ = ((sink.y * basis.strip.io_rat + sink.n) * 4 + index_of basis.strip.width sink.x) * 4 + side in
      let below : q + 1 ≤ sites * 16 = omega (arith, mul-add-lt sink.y basis.strip.io_rat sink.n (band_of basis) facts.row few, column.few, four) in
      let m : (q + 1) * t ≤ sites * 16 * t = mul-le (q + 1) t (sites * 16) t below (omega arith) in
      let e : (q + 1) * t ≡ q * t + t = grind arith in
      let f : sites * 16 * t ≡ row_count basis = grind arith in
      omega (arith, m, e, f, low)

  few_rows : row_count basis ≤ 2 ^ 20
  few_rows = grind arith

  first_is : (side : ℕ) → side < 4 → slice_index (first_rows basis sink) side ≡ first_row basis sink side
  first_is side four = get_or-map-range_with_len (first_row basis sink) 0 4 side side 0 four (omega arith)

  -- ---- the row of a wire at a side

  -- the sink in the column that has the rows
  abbrev model : Node
  model = make_node (column_of basis.strip.width (index_of basis.strip.width sink.x)) Sink sink.y sink.n

  sink_is : sink ≡ node_at_offset column.apart model
  sink_is = ap (λ (k : NodeKind). make_node sink.x k sink.y sink.n) kind ∙ ap (λ (x : ℕ). make_node x Sink sink.y sink.n) (sym column.column)

  column_some : 1 ≤ model.x
  column_some = grind arith

  arrival_is : (side track : ℕ) → side < 4 → track < basis.arch.tracks → arrival_at basis (row_number side track) ≡ arrival_if true model side track
  unfolding row_number
  arrival_is side track four low =
      let own : is_node basis.arch basis.strip model ≡ true = sym (node_moved is column.apart model column_some (omega (arith, column.column, facts.to))) ∙ (ap (is_node basis.arch basis.strip) (sym sink_is) ∙ there) in
      number_back basis sink.y sink.n (index_of basis.strip.width sink.x) side track few column.few four low ∙ ap (λ (b : Bool). arrival_if b model side track) own

  module _ (side : ℕ) (wire : Node) (at : IsAtSide sink side wire.kind wire.x wire.y) where
    abbrev beside : Node
    beside = wire_beside model side wire.n

    beside_x : beside.x + column.apart ≡ wire.x
    beside_x = omega (arith, at.column, column.column, column_few side model.x column_some)

    wire_is : node_at_offset column.apart beside ≡ wire
    wire_is = grind (arith, beside_x)

    -- the strip has the wire
    inside : (column.apart ≡ 0) ⊎ ((2 ≤ beside.x) × (beside.x + column.apart < basis.strip.width))
    inside = elim column.inner [
      | inl own ↦ inl own
      | inr inner ↦ inr (omega (arith, inner.0, column_few side 1 (omega arith)), omega (arith, beside_x, at.column, inner.1))
    ]

    beside_there : is_node basis.arch basis.strip wire ≡ true → is_node basis.arch basis.strip beside ≡ true
    beside_there h = elim inside [
      | inl own ↦ ap (is_node basis.arch basis.strip) (sym (not_moved column.apart beside own) ∙ wire_is) ∙ h
      | inr inner ↦ sym (node_moved is column.apart beside (omega (arith, inner.0)) (omega (arith, inner.1))) ∙ (ap (is_node basis.arch basis.strip) wire_is ∙ h)
    ]

  row_is : (rows : List (List ℕ)) → AreRowsBelow basis (arrival_at basis) (row_count basis) rows → (t : Terminals) → t.sink ≡ sink → (side number : ℕ) → IsWireAt basis number → IsAtSide sink side ((graph_of basis).node number).kind ((graph_of basis).node number).x ((graph_of basis).node number).y
      → ends_in rows (row_number side ((graph_of basis).node number).n) (base_of basis number) ≡ shown_ends basis t ((graph_of basis).node number).n number
  row_is rows are t own side number w at =
      let wire = (graph_of basis).node number in
      let low = track_low is number w in
      let found = (lawful is).all (beside side wire at) (beside_there side wire at ((lawful is).nodes number w.within)) in
      let i = found.0 in
      let made : arrival_at basis (row_number side wire.n) ≡ arrival_if true model side wire.n = arrival_is side wire.n at.few low in
      let view : View = record { track = wire.n; node = model } in
      let row : slice_index_or rows (row_number side wire.n) [] ≡ row_of basis view i =
      are.rows_are (row_number side wire.n) (low_number side wire.n at.few low) i found.1 (found.2 ∙ sym (ap (λ (a : Listed). a.node) made)) ∙ ap (λ (a : Listed). row_of basis a.view i) made in
      let kind : IsWire ((graph_of basis).node i).kind = subst (λ (v : Node). IsWire v.kind) (sym found.2) (subst IsWire at.kind_is w.wire) in
      let to : wire ≡ node_at_offset column.apart ((graph_of basis).node i) = sym (wire_is side wire at) ∙ ap (node_at_offset column.apart) (sym found.2) in
      ap (map (λ (v : ℕ). v + base_of basis number)) row
      ∙ wire_row_moved is view t wire.n i number found.1 w.within
      (columns_alike is (seen_from model) t wire.n i number column.apart found.1 kind to (own ∙ sink_is)
      (subst (λ (v : Node). (column.apart ≡ 0) ⊎ ((2 ≤ v.x) × (v.x + column.apart < basis.strip.width))) (sym found.2) (inside side wire at)))

  pub are_arrivals : (rows : List (List ℕ)) → AreRowsBelow basis (arrival_at basis) (row_count basis) rows → AreArrivals basis sink rows (first_rows basis sink)
  unfolding row_number
  are_arrivals rows are = record {
    four = length-map-range_with_len (first_row basis sink) 0 4;
    few = λ side four. omega (arith, first_is side four, low_number side 0 four is.arch.tracks.0, few_rows);
    within = λ side track four low. omega (arith, are.long, first_is side four, low_number side track four low);
    ends = λ t own side number w at.
        ap (λ (first : ℕ). ends_in rows (first + ((graph_of basis).node number).n) (base_of basis number)) (first_is side at.few) ∙ row_is rows are t own side number w at;
  }
