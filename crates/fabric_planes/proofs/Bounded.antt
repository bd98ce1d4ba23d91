-- Lower bounds of ways in a plane, from what is known of the places before the sink.
use Rattle.fabric_planes.proofs.Prelude.{◌≡◌, ℕ, ◌+◌, ◌*◌, ◌<◌, ◌≤◌, ◌⊎◌, List, [], ◌∷◌, min, refl, sym, ap, ◌∙◌, subst, inl, inr, arith, true, sum_by, slice_index, eqb-true, sum_by-cons, NodeKind, Source, Sink, Opin, Ipin, ChanX, ChanY, Node, IsWire, Basis, IsBasis, graph_of, Leads, AreAheads, AreSides, AreLeast, HaveBounds, IsPinPlace, wires_apart, node_at, family_of, IsWireOf, Terminals, pins_of, in_column, offset_of, place_of, place_count, shows, labels_of, planes_of, IsNetSearch, IsAtSide, IsBySide}
use Rattle.fabric_planes.proofs.Labeled.{shown_at}
use Rattle.fabric_planes.proofs.Nearer.{no_wires}
use Rattle.fabric_planes.proofs.PlaneWays.{way_there, wire_way}
use Rattle.fabric_planes.proofs.Strips.{IsSlot, lawful, are_labels, slot_facts, node_slot, node_column}

-- ---- sides

-- a wire is at one side only
different : ChanX ≡ ChanY → ⊥
different e = cc

pub one_side : (sink : Node) (s r : ℕ) (kind : NodeKind) (x y : ℕ) → IsAtSide sink s kind x y → IsAtSide sink r kind x y → s ≡ r
one_side sink s r kind x y a b = search arith

-- the wires are one, or a way has one more
apart_cases : (a b : Node) → ((a.kind ≡ b.kind) × (a.x ≡ b.x) × (a.y ≡ b.y)) ⊎ (1 ≤ wires_apart a b)
apart_cases a b = grind arith

module _ (basis : Basis) (sink : Node) where
  abbrev node : ℕ → Node
  node = (graph_of basis).node

  -- from a wire at a side
  pub side_low : (pins lasts least sides : List ℕ) (track side place number sum r : ℕ) → AreSides basis sink sides → AreLeast basis.arch.tracks lasts least → track < basis.arch.tracks → side < 4 → slice_index sides side ≡ place
      → IsWireOf basis place number → (node number).n ≡ track
      → IsBySide basis number sink (λ side. slice_index pins side) (λ side track. slice_index lasts (side * basis.arch.tracks + track)) sum
      → r ≡ min (slice_index pins side) (slice_index least track) + 1 → r ≤ sum
  side_low pins lasts least sides track side place number sum r are low few four at w track_is by e =
      let here = are.is_at side place number w four at in
      let mine : IsAtSide sink by.side (node number).kind (node number).x (node number).y → r ≤ sum = λ own.
      let same : by.side ≡ side = one_side sink by.side side (node number).kind (node number).x (node number).y own here in
      let pin : slice_index pins side + 1 ≤ sum = subst (λ s. slice_index pins s + 1 ≤ sum) same by.pin in
      omega (arith, e, pin) in
      elim by.far [
        | inl own ↦ mine own
        | inr far ↦ elim (apart_cases (node number) (node by.last)) [
          | inl same ↦ mine (rw (same.0, same.1, same.2) by.at)
          | inr more ↦
              let least_low : slice_index least track ≤ slice_index lasts (by.side * basis.arch.tracks + track) = low.low by.side track by.at.few few in
              let last : slice_index least track ≤ slice_index lasts (by.side * basis.arch.tracks + (node number).n) = subst (λ n. slice_index least track ≤ slice_index lasts (by.side * basis.arch.tracks + n)) (sym track_is) least_low in
              omega (arith, e, far, more, last)
        ]
      ]

  -- from a wire that is not at a side
  pub far_low : (pins lasts least aheads : List ℕ) (track place number sum : ℕ) → AreAheads basis sink aheads → AreLeast basis.arch.tracks lasts least → track < basis.arch.tracks → (slice_index aheads place ≡ 0 → ⊥)
      → IsWireOf basis place number → (node number).n ≡ track
      → IsBySide basis number sink (λ side. slice_index pins side) (λ side track. slice_index lasts (side * basis.arch.tracks + track)) sum
      → slice_index aheads place + slice_index least track ≤ sum
  far_low pins lasts least aheads track place number sum are low few some w track_is by = grind (arith, no_wires (node number))

-- ---- places of pins

module _ {basis : Basis} (is : IsBasis basis) (t : Terminals) where
  -- what is at a place of a plane
  abbrev pub IsShownThere : ℕ → ℕ → NodeKind → ℕ → Type 0
  IsShownThere track place Source number = IsPinPlace basis ((graph_of basis).node number).x 0 × (place ≡ in_column basis ((graph_of basis).node number).x 0)
  IsShownThere track place Sink number = IsPinPlace basis ((graph_of basis).node number).x 1 × (place ≡ in_column basis ((graph_of basis).node number).x 1)
  IsShownThere track place Opin number = IsPinPlace basis ((graph_of basis).node number).x (2 + ((graph_of basis).node number).n) × (place ≡ in_column basis ((graph_of basis).node number).x (2 + ((graph_of basis).node number).n))
  IsShownThere track place Ipin number = IsPinPlace basis ((graph_of basis).node number).x (2 + pins_of basis + ((graph_of basis).node number).n) × (place ≡ in_column basis ((graph_of basis).node number).x (2 + pins_of basis + ((graph_of basis).node number).n))
  IsShownThere track place ChanX number = IsWireOf basis place number × (((graph_of basis).node number).n ≡ track)
  IsShownThere track place ChanY number = IsWireOf basis place number × (((graph_of basis).node number).n ≡ track)

  slot_at : (number : ℕ) → number < (graph_of basis).count → (kind : NodeKind) → ((graph_of basis).node number).kind ≡ kind → IsSlot basis kind ((graph_of basis).node number)
  slot_at number b kind k = grind (arith, node_slot, lawful, slot_facts basis ((graph_of basis).node number).kind ((graph_of basis).node number) (node_slot basis ((graph_of basis).node number) ((lawful is).nodes number b)), node_slot basis ((graph_of basis).node number) ((lawful is).nodes number b), lawful is)

  column_at : (number : ℕ) → number < (graph_of basis).count → ((graph_of basis).node number).x ≤ basis.strip.width
  column_at number b = node_column basis ((graph_of basis).node number) ((lawful is).nodes number b)

  wire_at : (track place number : ℕ) (kind : NodeKind) → number < (graph_of basis).count → IsWire kind → ((graph_of basis).node number).kind ≡ kind → ((graph_of basis).node number).n ≡ track → place_of basis ((graph_of basis).node number) ≡ place
      → IsWireOf basis place number × (((graph_of basis).node number).n ≡ track)
  wire_at track place number kind b w k n e = (record { wire = record { within = b; wire = subst IsWire (sym k) w }; is_at = e }, n)

  pub shown_there : (track place number : ℕ) → number < (graph_of basis).count → (kind : NodeKind) → ((graph_of basis).node number).kind ≡ kind → shows basis.strip t track kind ((graph_of basis).node number) ≡ true
      → place_of basis ((graph_of basis).node number) ≡ place → IsShownThere track place kind number
  shown_there track place number b Source k s e =
      (record { column = column_at number b; few = omega arith }, sym e ∙ ap (λ (kind : NodeKind). in_column basis ((graph_of basis).node number).x (offset_of basis kind ((graph_of basis).node number))) k)
  shown_there track place number b Sink k s e =
      (record { column = column_at number b; few = omega (arith, positive) }, sym e ∙ ap (λ (kind : NodeKind). in_column basis ((graph_of basis).node number).x (offset_of basis kind ((graph_of basis).node number))) k)
    where
      positive : 1 ≤ pins_of basis
      positive = omega (arith, is.strip.io_rat.0)
  shown_there track place number b Opin k s e =
      let few = slot_at number b Opin k in
      (record { column = column_at number b; few = omega (arith, few) }, sym e ∙ ap (λ (kind : NodeKind). in_column basis ((graph_of basis).node number).x (offset_of basis kind ((graph_of basis).node number))) k)
  shown_there track place number b Ipin k s e =
      let few = slot_at number b Ipin k in
      (record { column = column_at number b; few = omega (arith, few) }, sym e ∙ ap (λ (kind : NodeKind). in_column basis ((graph_of basis).node number).x (offset_of basis kind ((graph_of basis).node number))) k)
  shown_there track place number b ChanX k s e = wire_at track place number ChanX b tt k (eqb-true ((graph_of basis).node number).n track s) e
  shown_there track place number b ChanY k s e = wire_at track place number ChanY b tt k (eqb-true ((graph_of basis).node number).n track s) e

  module _ (cost : ℕ → ℕ) (starts : List ℕ) (goal : ℕ) (search : IsNetSearch basis cost starts goal t) (pins lasts : List ℕ) (bounds : HaveBounds basis cost t.sink pins lasts) where
    abbrev pub Sum : ℕ → List ℕ → ℕ
    Sum track rest = sum_by ((planes_of basis cost starts goal t).plane track).cost rest

    -- a bound that is one for each wire and each pin
    pub low_by_cases : (track place r : ℕ) → track < basis.arch.tracks → (rest : List ℕ) → Leads ((planes_of basis cost starts goal t).plane track) (planes_of basis cost starts goal t).exit place rest
        → ((number sum : ℕ) → IsWireOf basis place number → ((graph_of basis).node number).n ≡ track
        → IsBySide basis number t.sink (λ side. slice_index pins side) (λ side track. slice_index lasts (side * basis.arch.tracks + track)) sum → r ≤ sum)
        → ((x offset : ℕ) → IsPinPlace basis x offset → place ≡ in_column basis x offset → r ≤ Sum track rest)
        → r ≤ Sum track rest
    unfolding family_of labels_of
    low_by_cases track place r few rest way on_wire on_pin =
        let l = labels_of basis cost starts goal t in
        let are = are_labels is cost starts goal t search in
        let there = way_there l are track few place rest way in
        let s = shown_at l are track place there in
        let number = node_at l track place in
        by_kind ((graph_of basis).node number).kind number (shown_there track place number s.within ((graph_of basis).node number).kind refl s.shown s.is) s.shown s.within
      where
        to_sink : (number sum : ℕ) → IsBySide basis number ((graph_of basis).node goal) (λ side. slice_index pins side) (λ side track. slice_index lasts (side * basis.arch.tracks + track)) sum
            → IsBySide basis number t.sink (λ side. slice_index pins side) (λ side track. slice_index lasts (side * basis.arch.tracks + track)) sum
        to_sink number sum by = subst (λ (sink : Node). IsBySide basis number sink (λ side. slice_index pins side) (λ side track. slice_index lasts (side * basis.arch.tracks + track)) sum) search.terminals.goal_is by

        bounds_at : HaveBounds basis cost ((graph_of basis).node goal) pins lasts
        bounds_at = subst (λ (sink : Node). HaveBounds basis cost sink pins lasts) (sym search.terminals.goal_is) bounds

        on_wire_at : (number : ℕ) → IsWireOf basis place number → ((graph_of basis).node number).n ≡ track → (labels_of basis cost starts goal t).is_shown track number ≡ true → r ≤ Sum track rest
        on_wire_at number w n shown =
            on_wire number (Sum track rest) w n
            (to_sink number (Sum track rest) (wire_way is search track place number few (record { wire = w.wire; track_is = n; is_at = w.is_at; shown = shown }) (λ side. slice_index pins side) (λ side track. slice_index lasts (side * basis.arch.tracks + track)) bounds_at rest way))

        by_kind : (kind : NodeKind) (number : ℕ) → IsShownThere track place kind number → (labels_of basis cost starts goal t).is_shown track number ≡ true → number < (graph_of basis).count → r ≤ Sum track rest
        by_kind Source number s shown b = on_pin ((graph_of basis).node number).x 0 s.0 s.1
        by_kind Sink number s shown b = on_pin ((graph_of basis).node number).x 1 s.0 s.1
        by_kind Opin number s shown b = on_pin ((graph_of basis).node number).x (2 + ((graph_of basis).node number).n) s.0 s.1
        by_kind Ipin number s shown b = on_pin ((graph_of basis).node number).x (2 + pins_of basis + ((graph_of basis).node number).n) s.0 s.1
        by_kind ChanX number s shown b = on_wire_at number s.0 s.1 shown
        by_kind ChanY number s shown b = on_wire_at number s.0 s.1 shown

    -- a way from another place than the goal's costs something
    pub some_cost : (track place : ℕ) → track < basis.arch.tracks → (rest : List ℕ) → Leads ((planes_of basis cost starts goal t).plane track) (planes_of basis cost starts goal t).exit place rest
        → place < place_count basis → (place ≡ (planes_of basis cost starts goal t).exit → ⊥) → 1 ≤ Sum track rest
    unfolding family_of labels_of
    some_cost track place few [] way b other = absurd (other way)
    some_cost track place few (x ∷ xs) way b other = grind (arith, sum_by-cons ((planes_of basis cost starts goal t).plane track).cost x xs)

    exit_place : (exit : ℕ) → exit ≡ place_of basis t.sink → exit ≡ (planes_of basis cost starts goal t).exit
    unfolding family_of labels_of
    exit_place exit e = e ∙ ap (λ (v : Node). place_of basis v) (sym search.terminals.goal_is)

    module _ (least : List ℕ) (low : AreLeast basis.arch.tracks lasts least) (exit : ℕ) (exit_is : exit ≡ place_of basis t.sink) (track place : ℕ) (few : track < basis.arch.tracks)
        (rest : List ℕ) (way : Leads ((planes_of basis cost starts goal t).plane track) exit place rest) where
      way_on : Leads ((planes_of basis cost starts goal t).plane track) (planes_of basis cost starts goal t).exit place rest
      way_on = subst (λ (e : ℕ). Leads ((planes_of basis cost starts goal t).plane track) e place rest) (exit_place exit exit_is) way

      -- a place of which the table tells the wires ahead
      pub far_bound : (aheads : List ℕ) → AreAheads basis t.sink aheads → (slice_index aheads place ≡ 0 → ⊥) → slice_index aheads place + slice_index least track ≤ Sum track rest
      far_bound aheads are some =
          low_by_cases track place (slice_index aheads place + slice_index least track) few rest way_on
          (λ number sum w n by. far_low basis t.sink pins lasts least aheads track place number sum are low few some w n by)
          (λ x offset pin at. absurd (some (ap (slice_index aheads) at ∙ are.none x offset pin)))

      -- another place than the goal's
      pub near_bound : (r : ℕ) → place < place_count basis → (place ≡ exit → ⊥)
          → ((number sum : ℕ) → IsWireOf basis place number → ((graph_of basis).node number).n ≡ track
          → IsBySide basis number t.sink (λ side. slice_index pins side) (λ side track. slice_index lasts (side * basis.arch.tracks + track)) sum → r ≤ sum)
          → ((x offset : ℕ) → IsPinPlace basis x offset → place ≡ in_column basis x offset → r ≡ 1) → r ≤ Sum track rest
      near_bound r b other on_wire on_pin =
          low_by_cases track place r few rest way_on on_wire
          (λ x offset pin at. omega (arith, on_pin x offset pin at, some_cost track place few rest way_on b (λ e. other (e ∙ sym (exit_place exit exit_is)))))
