-- The ends of the edges of the places of a net's planes, as the tables list them.
use Rattle.fabric_planes.proofs.Prelude.{◌≡◌, ℕ, ◌+◌, ◌-◌, ◌*◌, ◌<◌, ◌≤◌, List, [], length, get_or, map, refl, sym, ap, ◌∙◌, subst, inl, inr, arith, true, slice_index, slice_index_or, slice_get, Contains, get_or_from_slice_get, IsNonDecreasing, IsStrictlyIncreasing, and_parts, cases_Bool, cases_eq, length-map, get_or-map, get_or_default, AllPairs-from_increasing, NodeKind, Ipin, Node, joins, sides_at, runs_along, meets_track, flexibility_of, Basis, IsBasis, graph_of, make_node, AreAheads, shown_ends, row_of, base_of, is_there, family_of, IsWireOf, Terminals, place_of, place_count, stride_of, shows, labels_of, planes_of, IsNetSearch, IsAside, ArePins, AreArrivals, HaveEnds, IsAtSide, AreSteps, NO_CLASS, step_view, PinAt, Steps, AreFirsts}
use Rattle.std.specs.Prelude.{Some}
use Rattle.fabric_planes.proofs.Alike.{IsEnd, on_track, tracks_alike, wire_row_moved}
use Rattle.fabric_planes.proofs.Found.{IsFirstFor, first_for}
use Rattle.fabric_planes.proofs.Nearer.{no_wires}
use Rattle.fabric_planes.proofs.NetRoads.{tracks_of}
use Rattle.fabric_planes.proofs.Numbers.{IsWireThere, there_cases, none_listed}
use Rattle.fabric_planes.proofs.PlaneEnds.{plane_shows, shown_rise}
use Rattle.fabric_planes.proofs.SideWays.{along_side, wire_meets}
use Rattle.fabric_planes.proofs.StepRows.{class_some}
use Rattle.fabric_planes.proofs.Strips.{together_parts}

module _ (basis : Basis) (sink : Node) where
  abbrev node : ℕ → Node
  node = (graph_of basis).node

  -- a place before which wires are ahead is not at a side
  pub is_aside : (aheads : List ℕ) → AreAheads basis sink aheads → (place : ℕ) → (slice_index aheads place ≡ 0 → ⊥) → IsAside basis sink place
  is_aside aheads are place some = λ side number w at.
      let none : slice_index aheads place ≤ 0 = subst (λ d. slice_index aheads place ≤ d) (no_wires (node number)) (are.wires place number side number w w.wire at) in
      some (omega (arith, none))

-- numbers that rise after a base is added to each rise before
pub rising_before : (base : ℕ) (list xs : List ℕ) → map (λ end. end + base) list ≡ xs → IsStrictlyIncreasing xs → IsNonDecreasing list
rising_before base list xs e rises i j d le b =
    let long : length xs ≡ length list = ap length (sym e) ∙ length-map list (λ end. end + base) in
    let at : (k : ℕ) → k < length list → get_or xs k 0 ≡ get_or list k d + base = λ k c.
    ap (λ (ys : List ℕ). get_or ys k 0) (sym e) ∙ (get_or-map (λ end. end + base) list k 0 0 c ∙ ap (λ (v : ℕ). v + base) (get_or_default list k 0 d c)) in
    elim (cases_eq i j) [
      | inl same ↦ rw same (omega arith)
      | inr other ↦
          let less : get_or xs i 0 < get_or xs j 0 = AllPairs-from_increasing xs rises i j 0 (omega (arith, le, other)) (omega (arith, b, long)) in
          omega (arith, less, at i (omega (arith, le, b)), at j b)
    ]

module _ {basis : Basis} (is : IsBasis basis) (t : Terminals) (cost : ℕ → ℕ) (starts : List ℕ) (goal : ℕ) (search : IsNetSearch basis cost starts goal t) (firsts : List ℕ) (told : AreFirsts basis firsts) where
  -- the ends of a wire, by its place
  ends_there : (track place : ℕ) (w : IsWireThere is t cost starts goal search firsts told track place) → ((planes_of basis cost starts goal t).plane track).ends place ≡ shown_ends basis t track w.number
  unfolding family_of
  ends_there track place w = grind (arith, plane_shows)

  -- a wire that is not at a side meets no pin of the sink
  no_pins : (track place number : ℕ) → IsWireOf basis place number → IsAside basis t.sink place → (q : Node) → IsEnd is t track number q → q.kind ≡ Ipin → ⊥
  no_pins track place number w aside q e pin =
      let wire = (graph_of basis).node number in
      let met = wire_meets basis.arch basis.strip wire.kind wire q w.wire.wire (subst (λ (k : NodeKind). joins basis.arch basis.strip wire.kind k wire q ≡ true) pin e.joined) refl in
      let own = together_parts basis.strip q t.sink (subst (λ (k : NodeKind). shows basis.strip t track k q ≡ true) pin e.shown) in
      let sides = sides_at basis.arch basis.strip q in
      let runs = (and_parts (runs_along sides q wire.kind wire.x wire.y) (meets_track (flexibility_of basis.arch basis.strip q) basis.arch.tracks q.n wire.n) met).0 in
      let along = along_side sides q t.sink wire.kind wire.x wire.y own.0 own.1 runs in
      aside along.side number w along.at

  -- the steps of a wire that is not at a side
  pub steps_are : (track place base : ℕ) (list : List ℕ) (w : IsWireThere is t cost starts goal search firsts told track place) → track < basis.arch.tracks → IsAside basis t.sink place
      → base ≡ place - 2 * stride_of basis → (f : IsFirstFor is place w.number) → list ≡ row_of basis (step_view ((graph_of basis).node f.first)) f.first
      → map (λ end. end + base) list ≡ ((planes_of basis cost starts goal t).plane track).ends place
  steps_are track place base list w few aside b f e =
      let first = (graph_of basis).node f.first in
      let wire = (graph_of basis).node w.number in
      let same : base ≡ base_of basis w.number = b ∙ ap (λ (p : ℕ). p - 2 * stride_of basis) (sym w.wire.is_at) in
      let to : wire ≡ on_track track first = ap (make_node wire.x wire.kind wire.y) w.track_is ∙ sym (ap (on_track track) f.same) in
      ap (λ (steps : List ℕ). map (λ end. end + base) steps) e
      ∙ (ap (λ (v : ℕ). map (λ end. end + v) (row_of basis (step_view first) f.first)) same
      ∙ (wire_row_moved is (step_view first) t track f.first w.number f.at.within w.wire.wire.within
      (tracks_alike is t track f.first w.number f.at.within w.wire.wire.within few f.at.first.wire f.at.first.first to (no_pins track place w.number w.wire aside))
      ∙ sym (ends_there track place w)))

  -- the ends of each place rise
  pub plane_rises : (track place : ℕ) → IsStrictlyIncreasing (((planes_of basis cost starts goal t).plane track).ends place)
  unfolding family_of labels_of shown_ends
  plane_rises track place = grind (arith, shown_rise)

  -- the row of a wire at a side
  pub arrivals_are : (track place side base : ℕ) (rows : List (List ℕ)) (row_firsts list : List ℕ) (w : IsWireThere is t cost starts goal search firsts told track place) → AreArrivals basis t.sink rows row_firsts
      → IsAtSide t.sink side ((graph_of basis).node w.number).kind ((graph_of basis).node w.number).x ((graph_of basis).node w.number).y → base ≡ place - 2 * stride_of basis
      → slice_get rows (slice_index row_firsts side + track) ≡ Some list → map (λ end. end + base) list ≡ ((planes_of basis cost starts goal t).plane track).ends place
  arrivals_are track place side base rows row_firsts list w are at b got =
      let wire = (graph_of basis).node w.number in
      let first = slice_index row_firsts side in
      let same : base ≡ place_of basis wire - 2 * stride_of basis = b ∙ ap (λ (p : ℕ). p - 2 * stride_of basis) (sym w.wire.is_at) in
      let row : list ≡ slice_index_or rows (first + wire.n) [] =
      sym (get_or_from_slice_get rows (first + track) list [] got) ∙ ap (λ (n : ℕ). slice_index_or rows (first + n) []) (sym w.track_is) in
      ap (λ (xs : List ℕ). map (λ end. end + base) xs) row
      ∙ (ap (λ (v : ℕ). map (λ end. end + v) (slice_index_or rows (first + wire.n) [])) same
      ∙ (are.ends t refl side w.number w.wire.wire at ∙ (ap (λ (k : ℕ). shown_ends basis t k w.number) w.track_is ∙ sym (ends_there track place w))))

  -- the row of a pin
  pub pin_within : (rows : List (List ℕ)) (pins : List PinAt) → HaveEnds (planes_of basis cost starts goal t) rows pins → (track : ℕ) (pin : PinAt) → track < basis.arch.tracks → Contains pins pin → pin.row + pin.per_track * track < length rows
  pin_within rows pins have track pin few c = (have pin c).within track (subst (λ (n : ℕ). track < n) (sym (tracks_of basis cost starts goal t)) few)

  pub pin_ends_are : (rows : List (List ℕ)) (pins : List PinAt) → HaveEnds (planes_of basis cost starts goal t) rows pins → (track place : ℕ) (pin : PinAt) (list : List ℕ) → track < basis.arch.tracks → Contains pins pin → pin.place ≡ place
      → slice_get rows (pin.row + pin.per_track * track) ≡ Some list → map (λ end. end + pin.base) list ≡ ((planes_of basis cost starts goal t).plane track).ends place
  pin_ends_are rows pins have track place pin list few c at got =
      ap (λ (xs : List ℕ). map (λ end. end + pin.base) xs) (sym (get_or_from_slice_get rows (pin.row + pin.per_track * track) list [] got))
      ∙ ((have pin c).ends track (subst (λ (n : ℕ). track < n) (sym (tracks_of basis cost starts goal t)) few) ∙ ap ((planes_of basis cost starts goal t).plane track).ends at)

  -- nothing is at the place
  pub no_ends : (pins : List PinAt) → ArePins basis t pins → (steps : Steps) → AreSteps basis steps → (track place : ℕ) → place < place_count basis → slice_index steps.classes.items place ≡ NO_CLASS
      → ((k : ℕ) (d : PinAt) → k < length pins → (slice_index_or pins k d).place ≡ place → ⊥) → [] ≡ ((planes_of basis cost starts goal t).plane track).ends place
  unfolding family_of
  no_ends pins are_pins steps are track place b none unlisted = elim (cases_Bool (is_there (labels_of basis cost starts goal t) track place)) [
    | inl there ↦ absurd (elim (there_cases is t cost starts goal search firsts told track place there b) [
      | inl w ↦ class_some is steps are place (first_for is place w.number w.wire).first (first_for is place w.number w.wire).at none
      | inr p ↦ none_listed is t cost starts goal search firsts told pins are_pins track place unlisted p
    ])
    | inr nothing ↦ rw nothing refl
  ]
