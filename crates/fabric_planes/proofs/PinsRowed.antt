-- The rows of a pin are its ends in each plane.
use Rattle.fabric_planes.proofs.Prelude.{◌≡◌, ℕ, ◌+◌, ◌-◌, ◌*◌, ◌^◌, ◌<◌, ◌≤◌, List, [], ◌∷◌, length, map, sym, ap, ◌∙◌, subst, arith, true, ◌||◌, nat_le, slice_index_or, if◌then◌else◌, and_parts, eqb-true, leb-true, nat_tests, div-mul-add, mod-mul-add, mul-add-lt, few_pins, clock_count, Pin, NodeKind, Source, Sink, Opin, Ipin, ChanX, ChanY, Node, IsWire, is_node, is_slot, is_chan_y, is_block_row, joins, node_at_offset, Basis, IsBasis, graph_of, make_node, member_bounds, Listed, View, PinAt, AreRowsBelow, base_of, row_of, seen_from, shown_ends, plane_of, family_of, Terminals, pins_of, band_of, place_of, shows, labels_of, planes_of, AreTerminals, IsNetSearch, kind_at, rows_per_track, listed_by, listed_at, pin_number, IsShownPin, HasEnds, ends_in}
use Rattle.fabric_planes.specs.PinRows.{index_of, row_count, first_row}
use Rattle.fabric_planes.proofs.Alike.{node_moved, pins_alike, wire_row_moved}
use Rattle.fabric_planes.proofs.Joins.{IsReached, reached}
use Rattle.fabric_planes.proofs.Numbers.{same_shows}
use Rattle.fabric_planes.proofs.PlaneEnds.{plane_shows}
use Rattle.fabric_planes.proofs.Strips.{lawful, node_column, slot_facts}

-- ---- numbers of rows

kind_back : (kind : NodeKind) (track : ℕ) → (IsWire kind → ⊥) → kind_at (index_of kind + rows_per_track kind * track) ≡ kind
kind_back kind track pin = grind arith

index_low : (kind : NodeKind) (track tracks : ℕ) → track < tracks → index_of kind + rows_per_track kind * track < tracks + 3
index_low kind track tracks low = grind arith

per_track_few : (kind : NodeKind) → rows_per_track kind ≤ 1
per_track_few kind = grind arith

-- a pin is not left of the first column
pin_column : (kind : NodeKind) (x : ℕ) → (IsWire kind → ⊥) → (nat_le 1 x || is_chan_y kind) ≡ true → 1 ≤ x
pin_column kind x pin h = grind arith

pins_some : (pins : List Pin) → clock_count pins ≡ 1 → 1 ≤ length pins
pins_some [] e = cc
pins_some (pin ∷ pins) e = omega arith

module _ {basis : Basis} (is : IsBasis basis) where
  -- a sink has the number of a pad, or 0
  pub sink_few : (v : Node) → is_slot basis.arch basis.strip Sink v.y v.n ≡ true → v.n < basis.strip.io_rat
  sink_few v h = grind arith

  -- the number of a pin is one of those in the table
  number_few : (kind : NodeKind) (v : Node) → (IsWire kind → ⊥) → is_slot basis.arch basis.strip kind v.y v.n ≡ true → v.n < pins_of basis
  number_few Source v pin h = grind (arith, pins_some)
  number_few Sink v pin h = omega (arith, sink_few v h)
  number_few Opin v pin h = slot_facts basis Opin v h
  number_few Ipin v pin h = slot_facts basis Ipin v h
  number_few ChanX v pin h = absurd (pin tt)
  number_few ChanY v pin h = absurd (pin tt)

  -- what is known of a source, a sink or a pin
  pub record IsPin (v : Node) : Type 0 where
    pub from : 1 ≤ v.x
    pub to : v.x ≤ basis.strip.width
    pub row : v.y < band_of basis
    pub few : v.n < pins_of basis

  pub pin_facts : (v : Node) → (IsWire v.kind → ⊥) → is_node basis.arch basis.strip v ≡ true → IsPin v
  pin_facts v pin there = grind (arith, and_parts, pin_column, node_column, member_bounds, number_few)

  pub sink_column : (v : Node) → v.kind ≡ Sink → is_node basis.arch basis.strip v ≡ true → 1 ≤ v.x
  sink_column v kind there = (pin_facts v (subst (λ (k : NodeKind). IsWire k → ⊥) (sym kind) (λ w. w)) there).from

  pub number_low : (v : Node) → IsPin v → pin_number basis v.y v.n < pins_of basis * band_of basis
  number_low v p = mul-add-lt v.y (pins_of basis) v.n (band_of basis) p.row p.few

  row_low : (v : Node) → IsPin v → (index : ℕ) → index < basis.arch.tracks + 3 → pin_number basis v.y v.n * (basis.arch.tracks + 3) + index < row_count basis
  row_low v p index low = grind (arith, mul-add-lt (pin_number basis v.y v.n) (basis.arch.tracks + 3) index (pins_of basis * band_of basis) (number_low v p) low)

  rows_few : row_count basis ≤ 2 ^ 20
  rows_few = grind (arith, few_pins)

  -- the parts of a row's number
  number_back : (y n index : ℕ) → n < pins_of basis → index < basis.arch.tracks + 3 → listed_at basis (pin_number basis y n * (basis.arch.tracks + 3) + index) ≡ listed_by basis.strip (kind_at index) y n (index - 3)
  number_back y n index few low = grind (arith, div-mul-add, mod-mul-add)

  -- ---- the ends that are shown

  module _ (t : Terminals) (i : ℕ) (shown : IsShownPin basis t i) where
    abbrev v : Node
    v = (graph_of basis).node i

    abbrev own : ℕ
    own = if is_block_row basis.strip v.y then 0 else v.n

    pin : IsPin v
    pin = pin_facts v shown.no_wire ((lawful is).nodes i shown.within)

    record IsOwnSink : Type 0 where
      x : t.sink.x ≡ v.x
      y : t.sink.y ≡ v.y
      n : t.sink.n ≡ own

    own_sink : (goal : ℕ) → AreTerminals basis goal t → v.kind ≡ Ipin → IsOwnSink
    own_sink goal terminals kind = grind (arith, and_parts, eqb-true, leb-true, lawful is)

    own_track : (track : ℕ) → v.kind ≡ Opin → track ≡ index_of v.kind + rows_per_track v.kind * track - 3
    own_track track kind = rw kind (omega arith)

    -- the index of a pin's row among those of its number
    abbrev index : ℕ → ℕ
    index track = index_of v.kind + rows_per_track v.kind * track

    shows_same : (goal : ℕ) → AreTerminals basis goal t → (d track : ℕ) → v.x ≡ 1 + d → (kb : NodeKind) (p : Node) → IsReached basis.strip v.kind kb (make_node 1 v.kind v.y v.n) p
        → shows basis.strip t track kb (node_at_offset d p) ≡ shows basis.strip (seen_from (make_node 1 v.kind v.y own)) (index track - 3) kb p
    shows_same goal terminals d track x kb p r = search (own_sink, nat_tests, arith)

    row_is : (goal : ℕ) → AreTerminals basis goal t → (rows : List (List ℕ)) → AreRowsBelow basis (listed_at basis) (row_count basis) rows → (track : ℕ) → track < basis.arch.tracks
        → ends_in rows (first_row basis v + rows_per_track v.kind * track) (base_of basis i) ≡ shown_ends basis t track i
    row_is goal terminals rows are track low =
        let a : Node = make_node 1 v.kind v.y v.n in
        let d : ℕ = v.x - 1 in
        let x : 1 + d ≡ v.x = omega (arith, pin.from) in
        let is_v : node_at_offset d a ≡ v = ap (λ (x : ℕ). make_node x v.kind v.y v.n) x in
        let there : is_node basis.arch basis.strip a ≡ true = sym (node_moved is d a (omega arith) (omega (arith, x, pin.to))) ∙ (ap (is_node basis.arch basis.strip) is_v ∙ (lawful is).nodes i shown.within) in
        let found = (lawful is).all a there in
        let j = found.0 in
        let number : ℕ = pin_number basis v.y v.n * (basis.arch.tracks + 3) + index track in
        let same : first_row basis v + rows_per_track v.kind * track ≡ number = omega arith in
        let few : index track < basis.arch.tracks + 3 = index_low v.kind track basis.arch.tracks low in
        let made : listed_at basis number ≡ listed_by basis.strip v.kind v.y v.n (index track - 3) =
        number_back v.y v.n (index track) pin.few few ∙ ap (λ (k : NodeKind). listed_by basis.strip k v.y v.n (index track - 3)) (kind_back v.kind track shown.no_wire) in
        let view : View = record { track = index track - 3; node = make_node 1 v.kind v.y own } in
        let row : slice_index_or rows number [] ≡ row_of basis view j =
        are.rows_are number (row_low v pin (index track) few) j found.1 (found.2 ∙ sym (ap (λ (l : Listed). l.node) made)) ∙ ap (λ (l : Listed). row_of basis l.view j) made in
        let to : v ≡ node_at_offset d ((graph_of basis).node j) = sym is_v ∙ ap (node_at_offset d) (sym found.2) in
        let first : ((graph_of basis).node j).x ≡ 1 = ap (λ (v : Node). v.x) found.2 in
        ap (λ (k : ℕ). ends_in rows k (base_of basis i)) same
        ∙ (ap (map (λ (v : ℕ). v + base_of basis i)) row
        ∙ wire_row_moved is view t track j i found.1 shown.within
        (pins_alike is (seen_from view.node) t view.track track j i d found.1 to (λ w. shown.no_wire (subst (λ (v : Node). IsWire v.kind) found.2 w)) (omega (arith, first)) (omega (arith, first, x, pin.to))
        (λ p h. shows_same goal terminals d track (sym x) p.kind p (reached basis.arch basis.strip v.kind p.kind a p (subst (λ (w : Node). joins basis.arch basis.strip w.kind p.kind w p ≡ true) found.2 h)))))

  -- a pin as it is made
  pub record IsMade (pin : PinAt) (v : Node) : Type 0 where
    pub place : pin.place ≡ place_of basis v
    pub row : pin.row ≡ first_row basis v
    pub per_track : pin.per_track ≡ rows_per_track v.kind
    pub base : pin.base ≡ base_of basis pin.number

  pub has_ends : (rows : List (List ℕ)) → AreRowsBelow basis (listed_at basis) (row_count basis) rows → (cost : ℕ → ℕ) (starts : List ℕ) (goal : ℕ) (t : Terminals) → IsNetSearch basis cost starts goal t
      → (pin : PinAt) → IsMade pin ((graph_of basis).node pin.number) → IsShownPin basis t pin.number → HasEnds (planes_of basis cost starts goal t) rows pin
  unfolding family_of labels_of
  has_ends rows are cost starts goal t search pin made shown =
      let i = pin.number in
      let v = (graph_of basis).node i in
      let p = pin_facts v shown.no_wire ((lawful is).nodes i shown.within) in
      let at : (track : ℕ) → pin.row + pin.per_track * track ≡ pin_number basis v.y v.n * (basis.arch.tracks + 3) + (index_of v.kind + rows_per_track v.kind * track) = λ track. rw (made.row, made.per_track) (omega arith) in
      let low : (track : ℕ) → track < basis.arch.tracks → pin.row + pin.per_track * track < row_count basis = λ track l.
      omega (arith, at track, row_low v p (index_of v.kind + rows_per_track v.kind * track) (index_low v.kind track basis.arch.tracks l)) in
      record {
        few = omega (arith, low 0 is.arch.tracks.0, rows_few);
        per_track = omega (arith, made.per_track, per_track_few v.kind);
        within = λ track l. omega (arith, low track l, are.long);
        ends = λ track l.
            rw (made.row, made.per_track, made.base) (row_is t i shown goal search.terminals rows are track l)
            ∙ (sym (plane_shows is t cost starts goal search i track shown.within (same_shows basis.strip t 0 track v.kind v shown.no_wire shown.shown))
            ∙ ap (plane_of (labels_of basis cost starts goal t) track).ends (sym made.place));
      }
