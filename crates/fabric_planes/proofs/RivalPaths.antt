-- Paths that come before a known one cost at least the bounds.
use Rattle.fabric_planes.proofs.Prelude.{◌≡◌, ℕ, ◌+◌, ◌<◌, ◌≤◌, List, length, map, refl, sym, ap, ◌∙◌, subst, inl, inr, arith, true, Contains, slice_index, sum_by, and_parts, All-contains, Arch, Strip, NodeKind, Source, Opin, Node, IsWire, joins, meets, meets_track, flexibility_of, runs_along, sides_at, is_together, Basis, IsBasis, graph_of, edge_joins, Leads, Family, IsPlaneBound, IsRivalBound, IsMetAt, Terminals, IsStart, IsNetSearch, place_of, planes_of, shows, IsShownPin, AreBounds, AreRivals, AreRivalsFrom, AreRivalsOver, ComesFirst, IsHeadOf, HasStarts, IsWireAt, NetStarts, StartWire, Head}
use Rattle.fabric_planes.proofs.HeadOrder.{heads_order, wire_first}
use Rattle.fabric_planes.proofs.Heads.{plane_head}
use Rattle.fabric_planes.proofs.Joins.{IsReached}
use Rattle.fabric_planes.proofs.NetRoads.{is_track}
use Rattle.fabric_planes.proofs.PinPaths.{from_source}
use Rattle.fabric_planes.proofs.SideWays.{along_side}
use Rattle.fabric_planes.proofs.Found.{cases_wire}
use Rattle.fabric_planes.proofs.StartLists.{pin_in, wire_in}
use Rattle.fabric_planes.proofs.Strips.{lawful, edge_reached, together_spot}

-- a head in place of another with the same start, pin, place and track
first_same : (q r h : Head) → q.start ≡ r.start → q.pin ≡ r.pin → q.place ≡ r.place → q.track ≡ r.track → ComesFirst q h → ComesFirst r h
first_same q r h s p l t h5 = grind arith

-- an output pin meets the wires that its edges lead to
pin_meets : (arch : Arch) (strip : Strip) (kind : NodeKind) (pin wire : Node) → IsWire kind → joins arch strip Opin kind pin wire ≡ true → meets arch strip pin wire ≡ true
pin_meets arch strip kind pin wire w h = grind arith

module _ {basis : Basis} (is : IsBasis basis) where
  abbrev node : ℕ → Node
  node = (graph_of basis).node

  -- the wire is at a side of the pin's block or pad
  pub record IsMetSomewhere (pin wire : ℕ) : Type 0 where
    pub side : ℕ
    pub few : side < 4
    pub met : IsMetAt basis (node pin) side wire

  pub met_somewhere : (pin wire : ℕ) → pin < (graph_of basis).count → (node pin).kind ≡ Opin → IsWireAt basis wire → Contains ((graph_of basis).ends pin) wire → IsMetSomewhere pin wire
  met_somewhere pin wire b k w c =
      let edge = ((lawful is).pairs pin wire b).0 c in
      let joined : joins basis.arch basis.strip Opin (node wire).kind (node pin) (node wire) ≡ true = subst (λ (k : NodeKind). joins basis.arch basis.strip k (node wire).kind (node pin) (node wire) ≡ true) k (edge_joins basis.arch basis.strip (node pin) (node wire) edge.1) in
      let met = pin_meets basis.arch basis.strip (node wire).kind (node pin) (node wire) w.wire joined in
      let along = (and_parts (runs_along (sides_at basis.arch basis.strip (node pin)) (node pin) (node wire).kind (node wire).x (node wire).y) (meets_track (flexibility_of basis.arch basis.strip (node pin)) basis.arch.tracks (node pin).n (node wire).n) met).0 in
      let at = along_side (sides_at basis.arch basis.strip (node pin)) (node pin) (node pin) (node wire).kind (node wire).x (node wire).y refl refl along in
      record { side = at.side; few = at.at.few; met = record { wire_is = w; at = at.at; met = met } }

  module _ (t : Terminals) (cost : ℕ → ℕ) (starts : List ℕ) (goal : ℕ) (search : IsNetSearch basis cost starts goal t) where
    abbrev F : Family
    F = planes_of basis cost starts goal t

    start_in : (number : ℕ) → Contains starts number → IsStart basis t number
    start_in number c = All-contains (IsStart basis t) starts number search.starts_are c

    opin_wire : (k : NodeKind) → k ≡ Opin → IsWire k → ⊥
    opin_wire k e w = subst IsWire e w

    -- the pins after a start that is a source are shown
    pub source_pin : (start pin : ℕ) → Contains starts start → (node start).kind ≡ Source → Contains ((graph_of basis).ends start) pin → ((node pin).kind ≡ Opin) × IsShownPin basis t pin
    source_pin start pin c k edge =
        let s = start_in start c in
        let r = edge_reached is start pin s.within edge in
        let reached : IsReached basis.strip Source (node pin).kind (node start) (node pin) = subst (λ k. IsReached basis.strip k (node pin).kind (node start) (node pin)) k r.1 in
        let o : (node pin).kind ≡ Opin = from_source basis.strip (node pin).kind (node start) (node pin) reached in
        let own : is_together basis.strip (node start) (node pin) ≡ true = (subst (λ k. IsReached basis.strip Source k (node start) (node pin)) o reached).1 in
        let shown : is_together basis.strip t.source (node pin) ≡ true = together_spot basis.strip (node start) t.source (node pin) (s.source k) own in
        (o, record { within = r.0; no_wire = opin_wire (node pin).kind o; shown = subst (λ k. shows basis.strip t 0 k (node pin) ≡ true) (sym o) shown })

    module _ (head : Head) (known : List ℕ) (is_head : IsHeadOf basis head known) (bounds : List ℕ) (low : (number : ℕ) → Contains starts number → AreRivalsFrom basis cost F t head number bounds) (track : ℕ) (few : track < basis.arch.tracks) (other : track ≡ head.track → ⊥) where
      -- the bound of the track, over a wire
      over_wire : (start pin more wire : ℕ) (q : Head) (way : List ℕ) → AreRivalsOver basis cost F head start pin more bounds → pin < (graph_of basis).count → (node pin).kind ≡ Opin → IsWireAt basis wire → Contains ((graph_of basis).ends pin) wire
          → q.start ≡ start → q.pin ≡ pin → place_of basis (node wire) ≡ q.place → (node wire).n ≡ q.track → q.track ≡ track → ComesFirst q head → Leads (F.plane track) F.exit q.place way
          → slice_index bounds track ≤ more + (cost wire + sum_by (F.plane track).cost way)
      over_wire start pin more wire q way are b k w c s p l n on first leads = grind (arith, met_somewhere pin wire b k w c)

      -- a wire's own way
      from_wire : (start : ℕ) (q : Head) (way : List ℕ) → AreRivalsFrom basis cost F t head start bounds → IsWireAt basis start → start < head.start → place_of basis (node start) ≡ q.place → (node start).n ≡ track → Leads (F.plane track) F.exit q.place way
          → slice_index bounds track ≤ sum_by (F.plane track).cost way
      from_wire start q way are w l at n leads = grind arith

      pub rival_bound : IsRivalBound F track known (slice_index bounds track)
      rival_bound path p less = elim (plane_head is t cost starts goal search track few path p) [
        | inl (inl w) ↦ elim (wire_first is w.head head (map (F.number track) path) known w.is is_head less) [
          | inl e ↦ absurd (other (sym w.on ∙ e))
          | inr first ↦ omega (arith, w.sum, from_wire w.head.start w.head w.way (low w.head.start w.start) w.is.wire_is.wire first w.is.wire_is.is_at (w.is.track ∙ w.on) w.leads)
        ]
        | inl (inr o) ↦ omega (arith, (low o.start o.contained).other o.kind track few)
        | inr (inl q) ↦ elim (heads_order is q.head head (map (F.number track) path) known (inr (inl q.is)) is_head less) [
          | inl e ↦ absurd (other (sym q.on ∙ e))
          | inr first ↦
              let k : (node q.head.pin).kind ≡ Opin = ap (λ (v : ℕ). (node v).kind) q.is.pin ∙ q.is.kind in
              let b : q.head.pin < (graph_of basis).count = subst (λ (v : ℕ). v < (graph_of basis).count) (sym q.is.pin) (start_in q.head.start q.start).within in
              let are : AreRivalsOver basis cost F head q.head.start q.head.pin 0 bounds = subst (λ (v : ℕ). AreRivalsOver basis cost F head q.head.start v 0 bounds) (sym q.is.pin) ((low q.head.start q.start).output q.is.kind) in
              omega (arith, q.sum, over_wire q.head.start q.head.pin 0 q.is.wire q.head q.way are b k q.is.wire_is.wire q.edge refl refl q.is.wire_is.is_at q.is.track q.on first q.leads)
        ]
        | inr (inr q) ↦ elim (heads_order is q.head head (map (F.number track) path) known (inr (inr q.is)) is_head less) [
          | inl e ↦ absurd (other (sym q.on ∙ e))
          | inr first ↦
              let s = source_pin q.head.start q.head.pin q.start q.is.kind q.first in
              let are : AreRivalsOver basis cost F head q.head.start q.head.pin (cost q.head.pin) bounds = (low q.head.start q.start).source q.is.kind q.head.pin s.1 s.0 in
              omega (arith, q.sum, over_wire q.head.start q.head.pin (cost q.head.pin) q.is.wire q.head q.way are s.1.within s.0 q.is.wire_is.wire q.edge refl refl q.is.wire_is.is_at q.is.track q.on first q.leads)
        ]
      ]

    -- the bounds from all starts
    pub all_starts : (head : Head) (net : NetStarts) (bounds : List ℕ) → HasStarts basis starts net → ((number : ℕ) → Contains net.pins.items number → AreRivalsFrom basis cost F t head number bounds)
        → ((wire : StartWire) → Contains net.wires.items wire → AreRivalsFrom basis cost F t head wire.number bounds) → (number : ℕ) → Contains starts number → AreRivalsFrom basis cost F t head number bounds
    all_starts head net bounds has pins wires number c = elim (cases_wire (node number).kind) [
      | inl w ↦
          (let found = wire_in basis starts net has number c w in
          subst (λ (v : ℕ). AreRivalsFrom basis cost F t head v bounds) found.2 (wires found.0 found.1))
      | inr n ↦ pins number (pin_in basis starts net has number c n)
    ]

    -- ---- lists

    of_plane : (track bound : ℕ) (known : List ℕ) → IsPlaneBound F track bound → IsRivalBound F track known bound
    of_plane track bound known b path p less = b path p

    -- the bounds of all paths are ones of the paths that come before any known one
    pub from_all : (all bounds known : List ℕ) → bounds ≡ all → AreBounds F all → AreRivals F known bounds
    from_all all bounds known e are track few = subst (λ (xs : List ℕ). IsRivalBound F track known (slice_index xs track)) (sym e) (of_plane track (slice_index all track) known (are.each track few))

    -- the bound of the head's track is one of all its paths
    pub with_own : (head : Head) (known all old new : List ℕ) → AreBounds F all → length old ≡ basis.arch.tracks → ((track : ℕ) → track < basis.arch.tracks → (track ≡ head.track → ⊥) → IsRivalBound F track known (slice_index old track))
        → ((k : ℕ) → (k ≡ head.track → ⊥) → slice_index new k ≡ slice_index old k) → (head.track < length old → slice_index new head.track ≡ slice_index all head.track) → AreRivals F known new
    with_own head known all old new are long low other own track few = grind (arith, is_track basis cost starts goal t track few)
