-- Lists of the starts of a track.
use Rattle.fabric_planes.proofs.Prelude.{◌≡◌, ℕ, ◌+◌, ◌<◌, ◌⊎◌, List, [], ◌∷◌, ◌++◌, length, sym, ap, ◌∙◌, subst, inl, inr, true, arith, Contains, slice_index, slice_index_or, NodeKind, Node, IsWire, Basis, IsBasis, graph_of, Family, AreStarts, IsTooFar, places_of, Start, NetStarts, StartWire, IsWireOf, Terminals, place_of, shows, planes_of, IsNetSearch, AddsWires, AreSomeStarts, HasStarts, IsStartOf, IsStartWire, KeepsStarts}
use Rattle.fabric_planes.proofs.ListedStarts.{IsShownIn, entry_of, entry_start, place_kept, place_last}
use Rattle.fabric_planes.proofs.Found.{cases_wire}
use Rattle.fabric_planes.proofs.StartLists.{pin_in, wire_from, wire_in, wire_of, wire_of_start}
use Rattle.fabric_planes.proofs.WireBounds.{wire_shown}

-- a wire is shown in its own track's plane alone
pub shown_track : (strip : _) (t : Terminals) (track : ℕ) (kind : NodeKind) (v : Node) → IsWire kind → shows strip t track kind v ≡ true → v.n ≡ track
shown_track strip t track kind v w s = grind arith

pub start_wire_of : (basis : Basis) (wire : StartWire) → IsStartWire basis wire → IsWireOf basis wire.place wire.number
start_wire_of basis wire s = record { wire = wire_of_start basis wire s; is_at = sym s.place }

module _ (basis : Basis) (t : Terminals) (cost : ℕ → ℕ) (starts : List ℕ) (goal : ℕ) where
  abbrev node : ℕ → Node
  node = (graph_of basis).node

  abbrev F : Family
  F = planes_of basis cost starts goal t

  -- the places of the first pins that are shown are in the list
  abbrev pub HasPins : List ℕ → ℕ → ℕ → List Start → Type 0
  HasPins pins track count list = (k : ℕ) → k < count → IsShownIn basis t cost starts goal track (slice_index pins k) → Contains (places_of list) (place_of basis (node (slice_index pins k)))

  pub pins_skip : (pins : List ℕ) (track count : ℕ) (list : List Start) → HasPins pins track count list → (IsShownIn basis t cost starts goal track (slice_index pins count) → ⊥) → HasPins pins track (count + 1) list
  pins_skip pins track count list has none k b s = grind arith

  pub pins_more : (pins : List ℕ) (track count : ℕ) (list : List Start) (start : Start) → HasPins pins track count list → start.place ≡ place_of basis (node (slice_index pins count)) → HasPins pins track (count + 1) (list ++ start ∷ [])
  pins_more pins track count list start has at k b s = grind (arith, place_kept, place_last)

  -- ---- wires

  pub wires_skip : (wires : List StartWire) (track most count : ℕ) (list : List Start) (wire : StartWire) → AddsWires F track most count wires list → ((other : StartWire) → slice_index_or wires count other ≡ wire)
      → (wire.track ≡ track → IsTooFar F track most wire.place) → AddsWires F track most (count + 1) wires list
  wires_skip wires track most count list wire adds is far k other b e on = grind arith

  pub wires_more : (wires : List StartWire) (track most count : ℕ) (list : List Start) (wire : StartWire) (start : Start) → AddsWires F track most count wires list → ((other : StartWire) → slice_index_or wires count other ≡ wire)
      → start.place ≡ wire.place → AddsWires F track most (count + 1) wires (list ++ start ∷ [])
  wires_more wires track most count list wire start adds is at k other b e on = grind (arith, place_kept, place_last)

  -- a wire among the starts is at an entry
  pub wire_entry : IsBasis basis → IsNetSearch basis cost starts goal t → (net : NetStarts) → HasStarts basis starts net → (track : ℕ) (wire : StartWire) (start : Start) → Contains net.wires.items wire → IsStartOf F track wire start
      → Contains (F.entries track) start.place
  wire_entry is search net has track wire start inside of =
      let own = wire_of basis starts net has wire inside in
      let shown = wire_shown basis.strip t track (node wire.number).kind (node wire.number) (wire_of_start basis wire own).wire (sym own.track ∙ of.track_is) in
      subst (Contains (F.entries track)) (sym (of.place_is ∙ own.place)) (entry_of is t cost starts goal search track wire.number (wire_from basis starts net has wire inside) shown)

  pub all_starts : IsBasis basis → IsNetSearch basis cost starts goal t → (net : NetStarts) → HasStarts basis starts net → (track most : ℕ) (mid list : List Start) → AreSomeStarts F track list
      → ((number : ℕ) → Contains net.pins.items number → IsShownIn basis t cost starts goal track number → Contains (places_of mid) (place_of basis (node number))) → KeepsStarts mid list
      → AddsWires F track most (length net.wires.items) net.wires.items list → AreStarts F track most list
  all_starts is search net has track most mid list some pins kept wires = record {
    among = some.among;
    bounded = some.bounded;
    all = λ entry c.
        let s = entry_start is t cost starts goal search track entry c in
        elim (cases_wire (node s.number).kind) [
          | inr n ↦ inl (subst (Contains (places_of list)) s.at (kept (place_of basis (node s.number)) (pins s.number (pin_in basis starts net has s.number s.contained n) s.shown)))
          | inl w ↦
              let (wire, inside, e) = wire_in basis starts net has s.number s.contained w in
              let own = wire_of basis starts net has wire inside in
              let on : wire.track ≡ track = own.track ∙ (ap (λ (v : ℕ). (node v).n) e ∙ shown_track basis.strip t track (node s.number).kind (node s.number) w s.shown) in
              let at : wire.place ≡ entry = own.place ∙ (ap (λ (v : ℕ). place_of basis (node v)) e ∙ s.at) in
              subst (λ (p : ℕ). Contains (places_of list) p ⊎ IsTooFar F track most p) at (wires inside.0 wire inside.1 inside.2 on)
        ];
  }
