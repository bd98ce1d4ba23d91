-- What is at a place of a plane, as the tables tell it.
use Rattle.fabric_planes.proofs.Prelude.{◌≡◌, ℕ, ◌+◌, ◌*◌, ◌<◌, ◌≤◌, ◌⊎◌, List, length, refl, sym, ap, ◌∙◌, subst, inl, inr, arith, true, false, Contains, slice_index, slice_index_or, cases_Bool, cases_eq, cases_lt, false≢true, NodeKind, Source, Sink, Opin, Ipin, ChanX, ChanY, Node, IsWire, Basis, IsBasis, graph_of, make_node, few_nodes, IsPlace, PinAt, Steps, IsPinPlace, is_there, node_at, family_of, IsWireOf, Terminals, pins_of, level_at, stride_of, in_column, offset_of, place_of, place_count, shows, labels_of, planes_of, IsNetSearch, IsShownPin, ArePins, ArePrices, IsWireOn, AreSteps, NO_CLASS, IsFirstAt, AreFirsts, NO_WIRE}
use Rattle.fabric_planes.proofs.Bounded.{IsShownThere, shown_there}
use Rattle.fabric_planes.proofs.Wires.{each_track}
use Rattle.fabric_planes.proofs.Found.{cases_wire, first_for, firsts_cases, told_at, same_offset}
use Rattle.fabric_planes.proofs.Labeled.{shown_at, at_place, there_of}
use Rattle.fabric_planes.proofs.Offsets.{columns_apart}
use Rattle.fabric_planes.proofs.Strips.{lawful, are_labels, offset_few, wire_shows}

-- the offset of a wire is not one of a pin
wire_offset : (basis : Basis) (kind : NodeKind) (v : Node) → IsWire kind → level_at basis ≤ offset_of basis kind v
wire_offset basis kind v w = grind arith

-- pins are shown in all planes, or in none
pub same_shows : (strip : _) (t : Terminals) (track other : ℕ) (kind : NodeKind) (v : Node) → (IsWire kind → ⊥) → shows strip t track kind v ≡ true → shows strip t other kind v ≡ true
same_shows strip t track other kind v n s = grind arith

module _ {basis : Basis} (is : IsBasis basis) where
  abbrev node : ℕ → Node
  node = (graph_of basis).node

  -- no wire is at the place of a pin
  wire_or_pin : (place number x offset : ℕ) → IsWireOf basis place number → IsPinPlace basis x offset → place ≡ in_column basis x offset → ⊥
  wire_or_pin place number x offset w pin at =
      let o : ℕ = offset_of basis (node number).kind (node number) in
      let high : level_at basis ≤ o = wire_offset basis (node number).kind (node number) w.wire.wire in
      let low : o < stride_of basis = offset_few is number w.wire.within in
      let e : in_column basis (node number).x o ≡ in_column basis x offset = w.is_at ∙ at in
      elim (cases_eq (node number).x x) [
        | inl same ↦
            let f : in_column basis x o ≡ in_column basis x offset = subst (λ (v : ℕ). in_column basis v o ≡ in_column basis x offset) same e in
            omega (arith, f, high, pin.few)
        | inr other ↦ elim (cases_lt (node number).x x) [
          | inl l ↦ omega (arith, columns_apart basis (node number).x x o offset l low, e)
          | inr l ↦
              let m : x < (node number).x = omega (arith, l, other) in
              omega (arith, columns_apart basis x (node number).x offset o m (omega (arith, pin.few)), e)
        ]
      ]

  pub first_wire : (place number : ℕ) → IsFirstAt basis place number → IsWireOf basis place number
  first_wire place number at = record { wire = record { within = at.within; wire = at.first.wire }; is_at = at.is_at }

  -- the table has a number for the place of a wire, and none for that of a pin
  pub number_some : (firsts : List ℕ) → AreFirsts basis firsts → (place number : ℕ) → IsWireOf basis place number → slice_index firsts place ≡ NO_WIRE → ⊥
  number_some firsts told place number w e = grind (arith, first_for, few_nodes, told_at is firsts told place number w, first_for is place number w, few_nodes basis is)

  number_none : (firsts : List ℕ) → AreFirsts basis firsts → (place x offset : ℕ) → place < place_count basis → IsPinPlace basis x offset → place ≡ in_column basis x offset → slice_index firsts place ≡ NO_WIRE
  number_none firsts told place x offset b pin at = elim (firsts_cases is firsts told place b) [
    | inl none ↦ none
    | inr first ↦
        let number : ℕ = slice_index firsts place in
        let w = first_wire place number first in
        absurd (wire_or_pin place number x offset w pin at)
  ]

  -- if a wire is at the place, one of each track is
  pub track_there : (place number track : ℕ) → track < basis.arch.tracks → IsWireOf basis place number → (k : ℕ) × IsWireOn basis place track k
  track_there place number track few w =
      let kind = (node number).kind in
      let there = each_track basis kind (node number).x (node number).y (node number).n track w.wire.wire few ((lawful is).nodes number w.wire.within) in
      let found = (lawful is).all (make_node (node number).x kind (node number).y track) there in
      let same : place_of basis (node found.0) ≡ place_of basis (node number) =
      ap (λ (v : Node). place_of basis v) found.2 ∙ ap (λ (o : ℕ). ((node number).x + 2) * stride_of basis + o) (same_offset basis kind (node number).x (node number).y track (node number).n w.wire.wire) in (
        found.0,
        record {
          wire = record { wire = record { within = found.1; wire = subst IsWire (sym (ap (λ (v : Node). v.kind) found.2)) w.wire.wire }; is_at = same ∙ w.is_at };
          on_track = ap (λ (v : Node). v.n) found.2;
        },
      )

  module _ (t : Terminals) (cost : ℕ → ℕ) (starts : List ℕ) (goal : ℕ) (search : IsNetSearch basis cost starts goal t) (firsts : List ℕ) (told : AreFirsts basis firsts) where
    -- a wire of the track is at the place
    pub record IsWireThere (track place : ℕ) : Type 0 where
      pub number : ℕ
      pub wire : IsWireOf basis place number
      pub track_is : (node number).n ≡ track
      pub at : node_at (labels_of basis cost starts goal t) track place ≡ number
      pub there : is_there (labels_of basis cost starts goal t) track place ≡ true

    pub wire_shown_at : (track place number : ℕ) → IsWireOf basis place number → (node number).n ≡ track → IsWireThere track place
    unfolding labels_of
    wire_shown_at track place number w n =
        let l = labels_of basis cost starts goal t in
        let are = are_labels is cost starts goal t search in
        let shown = wire_shows basis.strip t track (node number).kind (node number) w.wire.wire n in
        record {
          number = number;
          wire = w;
          track_is = n;
          at = ap (node_at l track) (sym w.is_at) ∙ at_place l are track number w.wire.within shown;
          there = subst (λ (p : ℕ). is_there l track p ≡ true) w.is_at (there_of l are track number w.wire.within shown);
        }

    -- if a wire of the first track is at the place, one of each track is
    other_track : (track place number : ℕ) → track < basis.arch.tracks → IsWireOf basis place number → IsWireThere track place
    other_track track place number few w =
        let found = track_there place number track few w in
        wire_shown_at track place found.0 found.1.wire found.1.on_track

    -- a pin is at the place
    pub record IsPinThere (track place : ℕ) : Type 0 where
      pub shown : IsShownPin basis t (node_at (labels_of basis cost starts goal t) track place)
      pub is_at : place_of basis (node (node_at (labels_of basis cost starts goal t) track place)) ≡ place
      pub none : slice_index firsts place ≡ NO_WIRE

    pub there_cases : (track place : ℕ) → is_there (labels_of basis cost starts goal t) track place ≡ true → place < place_count basis → IsWireThere track place ⊎ IsPinThere track place
    unfolding labels_of
    there_cases track place there b =
        let l = labels_of basis cost starts goal t in
        let are = are_labels is cost starts goal t search in
        let s = shown_at l are track place there in
        let number = node_at l track place in
        elim (cases_wire (node number).kind) [
          | inl w ↦
              let at = shown_there is t track place number s.within (node number).kind refl s.shown s.is in
              let of : IsWireOf basis place number = record { wire = record { within = s.within; wire = w }; is_at = s.is } in
              inl (wire_shown_at track place number of (track_of (node number).kind number w at))
          | inr n ↦
              let at = shown_there is t track place number s.within (node number).kind refl s.shown s.is in
              inr (record {
                shown = record { within = s.within; no_wire = n; shown = same_shows basis.strip t track 0 (node number).kind (node number) n s.shown };
                is_at = s.is;
                none = nothing (node number).kind number n at;
              })
        ]
      where
        track_of : (kind : NodeKind) (number : ℕ) → IsWire kind → IsShownThere is t track place kind number → (node number).n ≡ track
        track_of Source number w s = absurd w
        track_of Sink number w s = absurd w
        track_of Opin number w s = absurd w
        track_of Ipin number w s = absurd w
        track_of ChanX number w s = s.1
        track_of ChanY number w s = s.1

        nothing : (kind : NodeKind) (number : ℕ) → (IsWire kind → ⊥) → IsShownThere is t track place kind number → slice_index firsts place ≡ NO_WIRE
        nothing Source number n s = number_none firsts told place (node number).x 0 b s.0 s.1
        nothing Sink number n s = number_none firsts told place (node number).x 1 b s.0 s.1
        nothing Opin number n s = number_none firsts told place (node number).x (2 + (node number).n) b s.0 s.1
        nothing Ipin number n s = number_none firsts told place (node number).x (2 + pins_of basis + (node number).n) b s.0 s.1
        nothing ChanX number n s = absurd (n tt)
        nothing ChanY number n s = absurd (n tt)

    -- the table has a number for the place, so a wire is there
    pub wire_there : (track place : ℕ) → track < basis.arch.tracks → place < place_count basis → (slice_index firsts place ≡ NO_WIRE → ⊥) → IsWireThere track place
    wire_there track place few b some = elim (firsts_cases is firsts told place b) [
      | inl none ↦ absurd (some none)
      | inr first ↦ other_track track place (slice_index firsts place) few (first_wire place (slice_index firsts place) first)
    ]

    -- the table has a class for the place, so a wire is there
    pub class_there : (steps : Steps) → AreSteps basis steps → (track place : ℕ) → track < basis.arch.tracks → place < place_count basis → (slice_index steps.classes.items place ≡ NO_CLASS → ⊥) → IsWireThere track place
    class_there steps are track place few b some = elim (firsts_cases is firsts told place b) [
      | inl none ↦ absurd (some (are.others place b (λ first at. number_some firsts told place first (first_wire place first at) none)))
      | inr first ↦ other_track track place (slice_index firsts place) few (first_wire place (slice_index firsts place) first)
    ]

    -- the table has no number for the place, so if something is there, it is a pin
    pub pin_there : (track place : ℕ) → place < place_count basis → slice_index firsts place ≡ NO_WIRE → is_there (labels_of basis cost starts goal t) track place ≡ true → IsPinThere track place
    pin_there track place b none there = grind (arith, number_some, there_cases track place there b)

    module _ (pins : List PinAt) (are_pins : ArePins basis t pins) where
      -- a listed pin is at its place
      pub listed_there : (track place number : ℕ) → (pin : PinAt) × Contains pins pin × (pin.place ≡ place) × (pin.number ≡ number)
          → (node_at (labels_of basis cost starts goal t) track place ≡ number) × (is_there (labels_of basis cost starts goal t) track place ≡ true) × (number < (graph_of basis).count)
      unfolding labels_of
      listed_there track place number (pin, c, p, n) =
          let l = labels_of basis cost starts goal t in
          let are = are_labels is cost starts goal t search in
          let s = are_pins.shown pin c in
          let at : place_of basis (node pin.number) ≡ place = are_pins.place pin c ∙ p in
          let shown = same_shows basis.strip t 0 track (node pin.number).kind (node pin.number) s.no_wire s.shown in (
            ap (node_at l track) (sym at) ∙ at_place l are track pin.number s.within shown ∙ n,
            subst (λ (p : ℕ). is_there l track p ≡ true) at (there_of l are track pin.number s.within shown),
            subst (λ (v : ℕ). v < (graph_of basis).count) n s.within,
          )

      -- no pin is listed for the place, so none is there
      pub none_listed : (track place : ℕ) → ((k : ℕ) (d : PinAt) → k < length pins → (slice_index_or pins k d).place ≡ place → ⊥) → IsPinThere track place → ⊥
      none_listed track place none p = are_pins.all (node_at (labels_of basis cost starts goal t) track place) p.shown (λ k d b e. none k d b (e ∙ p.is_at))

      -- ---- in the planes

      places_low : (track place : ℕ) → IsPlace (planes_of basis cost starts goal t) track place → (place < place_count basis) × (is_there (labels_of basis cost starts goal t) track place ≡ true)
      unfolding family_of labels_of
      places_low track place p = (p.within, p.there)

      pub place_few : (track place : ℕ) → IsPlace (planes_of basis cost starts goal t) track place → place < place_count basis
      place_few track place p = (places_low track place p).0

      is_number : (track place number : ℕ) → node_at (labels_of basis cost starts goal t) track place ≡ number → (planes_of basis cost starts goal t).number track place ≡ number
      unfolding family_of labels_of
      is_number track place number e = e

      pub wire_is : (track place r : ℕ) → track < basis.arch.tracks → place < place_count basis → (slice_index firsts place ≡ NO_WIRE → ⊥)
          → ((number : ℕ) → IsWireOf basis place number → (node number).n ≡ track → r ≡ number) → r ≡ (planes_of basis cost starts goal t).number track place
      wire_is track place r few b some r_is = let w = wire_there track place few b some in r_is w.number w.wire w.track_is ∙ sym (is_number track place w.number w.at)

      pub pin_is : (track place number : ℕ) → (pin : PinAt) × Contains pins pin × (pin.place ≡ place) × (pin.number ≡ number) → number ≡ (planes_of basis cost starts goal t).number track place
      pin_is track place number found = sym (is_number track place number (listed_there track place number found).0)

      pub nothing_is : (track place : ℕ) → IsPlace (planes_of basis cost starts goal t) track place → slice_index firsts place ≡ NO_WIRE → ((k : ℕ) (d : PinAt) → k < length pins → (slice_index_or pins k d).place ≡ place → ⊥) → ⊥
      nothing_is track place p none unlisted = none_listed track place unlisted (pin_there track place (places_low track place p).0 none (places_low track place p).1)

      cost_there : (track place number : ℕ) → node_at (labels_of basis cost starts goal t) track place ≡ number → is_there (labels_of basis cost starts goal t) track place ≡ true → ((planes_of basis cost starts goal t).plane track).cost place ≡ cost number
      unfolding family_of labels_of
      cost_there track place number e there = rw there (ap cost e)

      cost_nothing : (track place : ℕ) → is_there (labels_of basis cost starts goal t) track place ≡ false → ((planes_of basis cost starts goal t).plane track).cost place ≡ 1
      unfolding family_of labels_of
      cost_nothing track place nothing = rw nothing refl

      pub wire_few : (track place r : ℕ) → track < basis.arch.tracks → place < place_count basis → (slice_index firsts place ≡ NO_WIRE → ⊥)
          → ((number : ℕ) → IsWireOf basis place number → (node number).n ≡ track → r ≡ number) → r < (graph_of basis).count
      wire_few track place r few b some r_is = let w = wire_there track place few b some in subst (λ (v : ℕ). v < (graph_of basis).count) (sym (r_is w.number w.wire w.track_is)) w.wire.wire.within

      pub wire_cost : (track place r : ℕ) → track < basis.arch.tracks → place < place_count basis → (slice_index firsts place ≡ NO_WIRE → ⊥)
          → ((number : ℕ) → IsWireOf basis place number → (node number).n ≡ track → r ≡ number) → cost r ≡ ((planes_of basis cost starts goal t).plane track).cost place
      wire_cost track place r few b some r_is = let w = wire_there track place few b some in ap cost (r_is w.number w.wire w.track_is) ∙ sym (cost_there track place w.number w.at w.there)

      pub pin_cost : (track place number : ℕ) → (pin : PinAt) × Contains pins pin × (pin.place ≡ place) × (pin.number ≡ number) → cost number ≡ ((planes_of basis cost starts goal t).plane track).cost place
      pin_cost track place number found = let l = listed_there track place number found in sym (cost_there track place number l.0 l.1)

      pub pin_low : (track place number : ℕ) → (pin : PinAt) × Contains pins pin × (pin.place ≡ place) × (pin.number ≡ number) → number < (graph_of basis).count
      pin_low track place number found = (listed_there track place number found).2

      pub no_cost : (track place : ℕ) → place < place_count basis → slice_index firsts place ≡ NO_WIRE → ((k : ℕ) (d : PinAt) → k < length pins → (slice_index_or pins k d).place ≡ place → ⊥) → 1 ≡ ((planes_of basis cost starts goal t).plane track).cost place
      no_cost track place b none unlisted = grind (arith, pin_there, cost_nothing)

      -- a price that is told
      pub price_is : (prices : List ℕ) → ArePrices basis cost prices → (track place : ℕ) → track < basis.arch.tracks → place < place_count basis → (slice_index prices (track * place_count basis + place) ≡ 255 → ⊥)
          → slice_index prices (track * place_count basis + place) ≡ ((planes_of basis cost starts goal t).plane track).cost place
      price_is prices are track place few b some = elim (cases_Bool (is_there (labels_of basis cost starts goal t) track place)) [
        | inl there ↦ elim (there_cases track place there b) [
          | inl w ↦
              let e : (node w.number).n * place_count basis + place ≡ track * place_count basis + place = ap (λ (n : ℕ). n * place_count basis + place) w.track_is in
              ap (slice_index prices) (sym e) ∙ (are.told place w.number w.wire (λ q. some (ap (slice_index prices) (sym e) ∙ q)) ∙ sym (cost_there track place w.number w.at w.there))
          | inr p ↦ absurd (some (are.others track place few b (λ number w n. number_some firsts told place number w p.none)))
        ]
        | inr nothing ↦ absurd (some (are.others track place few b (λ number w n. false≢true (sym nothing ∙ (wire_shown_at track place number w n).there))))
      ]
