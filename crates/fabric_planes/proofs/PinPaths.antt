-- Paths lead over a wire beside the start's block or pad, and one beside the sink's.
use Rattle.fabric_planes.proofs.Prelude.{◌≡◌, ℕ, ◌+◌, ◌<◌, ◌⊎◌, List, [], ◌∷◌, refl, sym, ap, ◌∙◌, subst, inl, inr, arith, Contains, sum_by, All, All-contains, sum_by-cons, Strip, NodeKind, Source, Sink, Opin, Ipin, ChanX, ChanY, Node, IsWire, Basis, IsBasis, graph_of, Leads, IsPath, graph_at, AreCosts, AreSideBounds, IsBySide, IsFromWire, IsFromPin, IsStartKind, IsWireAt}
use Rattle.fabric_planes.proofs.Joins.{IsReached}
use Rattle.fabric_planes.proofs.SideWays.{by_side}
use Rattle.fabric_planes.proofs.Strips.{edge_reached}

none_equal : Source ≡ Sink → ⊥
none_equal e = cc

-- an output pin leads to wires
pub from_output : (strip : Strip) (kb : NodeKind) (a b : Node) → IsReached strip Opin kb a b → IsWire kb
from_output strip kb a b r = grind arith

-- a source leads to output pins
pub from_source : (strip : Strip) (kb : NodeKind) (a b : Node) → IsReached strip Source kb a b → kb ≡ Opin
from_source strip kb a b r = grind arith

module _ {basis : Basis} (is : IsBasis basis) {cost : ℕ → ℕ} (costs : AreCosts basis cost) (goal : ℕ) (within : goal < (graph_of basis).count) (kind : ((graph_of basis).node goal).kind ≡ Sink)
    (pins : ℕ → ℕ) (lasts : ℕ → ℕ → ℕ) (bounds : AreSideBounds basis cost ((graph_of basis).node goal) pins lasts) where
  abbrev node : ℕ → Node
  node = (graph_of basis).node

  abbrev Pin : List ℕ → Type 0
  Pin path = IsFromPin basis cost (node goal) pins lasts path

  -- from an output pin
  pub record IsPinStart (pin : ℕ) (rest : List ℕ) : Type 0 where
    pub wire : ℕ
    pub way : ℕ
    pub edge : Contains ((graph_of basis).ends pin) wire
    pub wire_is : IsWireAt basis wire
    pub by : IsBySide basis wire (node goal) pins lasts way
    pub sum : sum_by cost rest ≡ cost wire + way

  pin_start : (rest : List ℕ) (pin : ℕ) → pin < (graph_of basis).count → (node pin).kind ≡ Opin → Leads (graph_at basis cost) goal pin rest → IsPinStart pin rest
  pin_start [] pin b k l = absurd (none (sym k ∙ (ap (λ v. (node v).kind) l ∙ kind)))
    where
      none : Opin ≡ Sink → ⊥
      none q = cc
  pin_start (j ∷ rest) pin b k l =
      let r = edge_reached is pin j b l.0 in
      let w : IsWireAt basis j = record { within = r.0; wire = from_output basis.strip (node j).kind (node pin) (node j) (subst (λ k. IsReached basis.strip k (node j).kind (node pin) (node j)) k r.1) } in
      record {
        wire = j;
        way = sum_by cost rest;
        edge = l.0;
        wire_is = w;
        by = by_side is costs goal within kind pins lasts bounds j rest w l.1;
        sum = sum_by-cons cost j rest;
      }

  from_pin_start : (start : ℕ) (rest : List ℕ) → (node start).kind ≡ Opin → IsPinStart start rest → Pin (start ∷ rest)
  from_pin_start start rest k p = record { pin = start; wire = p.wire; way = p.way; kind = k; edge = p.edge; wire_is = p.wire_is; by = p.by; sum = inl (refl, p.sum) }

  source_start : (start : ℕ) (rest : List ℕ) → start < (graph_of basis).count → (node start).kind ≡ Source → Leads (graph_at basis cost) goal start rest → Pin (start ∷ rest)
  source_start start [] b k l = absurd (none_equal (sym k ∙ (ap (λ v. (node v).kind) l ∙ kind)))
  source_start start (pin ∷ rest) b k l =
      let r = edge_reached is start pin b l.0 in
      let o = from_source basis.strip (node pin).kind (node start) (node pin) (subst (λ k. IsReached basis.strip k (node pin).kind (node start) (node pin)) k r.1) in
      let p = pin_start rest pin r.0 o l.1 in
      record { pin = pin; wire = p.wire; way = p.way; kind = o; edge = p.edge; wire_is = p.wire_is; by = p.by; sum = inr (omega (arith, sum_by-cons cost pin rest, p.sum)) }

  pub path_start : (starts : List ℕ) → All (λ start. (start < (graph_of basis).count) × IsStartKind (node start).kind) starts → (path : List ℕ) → IsPath (graph_at basis cost) starts goal path
      → IsFromWire basis cost (node goal) pins lasts path ⊎ IsFromPin basis cost (node goal) pins lasts path
  path_start starts are [] p = absurd p
  path_start starts are (start ∷ rest) p =
      let s = All-contains (λ (start : ℕ). (start < (graph_of basis).count) × IsStartKind (node start).kind) starts start are p.0 in
      by_kind (node start).kind refl s.0 s.1
    where
      on_wire : IsWireAt basis start → IsFromWire basis cost (node goal) pins lasts (start ∷ rest) ⊎ IsFromPin basis cost (node goal) pins lasts (start ∷ rest)
      on_wire w = inl (record { start = start; begins = refl; wire = w; by = by_side is costs goal within kind pins lasts bounds start rest w p.1 })

      by_kind : (k : NodeKind) → (node start).kind ≡ k → start < (graph_of basis).count → IsStartKind k → IsFromWire basis cost (node goal) pins lasts (start ∷ rest) ⊎ IsFromPin basis cost (node goal) pins lasts (start ∷ rest)
      by_kind Source e b s = inr (source_start start rest b e p.1)
      by_kind Sink e b s = absurd s
      by_kind Opin e b s = inr (from_pin_start start rest e (pin_start rest start b e p.1))
      by_kind Ipin e b s = absurd s
      by_kind ChanX e b s = on_wire (record { within = b; wire = subst IsWire (sym e) tt })
      by_kind ChanY e b s = on_wire (record { within = b; wire = subst IsWire (sym e) tt })
