-- Each way from a wire to a sink leads over a last wire and a pin.
use Rattle.fabric_planes.proofs.Prelude.{◌≡◌, ℕ, ◌+◌, ◌<◌, List, [], ◌∷◌, refl, sym, ap, ◌∙◌, subst, inl, inr, arith, true, Contains, sum_by, sum_by-cons, NodeKind, Source, Sink, Opin, Ipin, ChanX, ChanY, Node, IsWire, is_together, joins, Basis, IsBasis, graph_of, edge_joins, Leads, graph_at, AreCosts, wires_apart, IsWireAt, IsWayOver}
use Rattle.fabric_planes.proofs.Joins.{IsReached}
use Rattle.fabric_planes.proofs.Nearer.{no_wires, wires_fall}
use Rattle.fabric_planes.proofs.Strips.{lawful, edge_reached, sink_last}

-- an input pin leads only to a sink
from_pin : (strip : _) (kb : NodeKind) (a b : Node) → IsReached strip Ipin kb a b → (kb ≡ Sink) × (is_together strip a b ≡ true)
from_pin strip kb a b r = grind arith

module _ {basis : Basis} (is : IsBasis basis) {cost : ℕ → ℕ} (costs : AreCosts basis cost) (goal : ℕ) (kind : ((graph_of basis).node goal).kind ≡ Sink) where
  abbrev node : ℕ → Node
  node = (graph_of basis).node

  -- from an input pin
  pub record IsPinWay (pin : ℕ) (rest : List ℕ) : Type 0 where
    pub own : is_together basis.strip (node pin) (node goal) ≡ true
    pub sum : sum_by cost rest ≡ cost goal

  pin_way : (rest : List ℕ) (pin : ℕ) → pin < (graph_of basis).count → (node pin).kind ≡ Ipin → Leads (graph_at basis cost) goal pin rest → IsPinWay pin rest
  pin_way [] pin b k l = grind arith
  pin_way (j ∷ rest) pin b k l = grind (arith, sink_last, edge_reached is pin j b l.0)

  abbrev Way : ℕ → List ℕ → Type 0
  Way i rest = IsWayOver basis cost goal i rest

  -- one more wire before a way
  longer : (i j : ℕ) (rest : List ℕ) → IsWireAt basis i → IsWireAt basis j → Contains ((graph_of basis).ends i) j → (node i).n ≡ (node j).n → Way j rest → Way i (j ∷ rest)
  longer i j rest wi wj c n way =
      let step : joins basis.arch basis.strip (node i).kind (node j).kind (node i) (node j) ≡ true = edge_joins basis.arch basis.strip (node i) (node j) (((lawful is).pairs i j wi.within).0 c).1 in
      let fall = wires_fall basis.arch basis.strip (node i) (node j) (node way.last) wi.wire wj.wire step in
      record {
        last = way.last;
        pin = way.pin;
        wire = way.wire;
        track = way.track ∙ sym n;
        entry = way.entry;
        length = inr (elim way.length [
          | inl d ↦ record {
            wires = 0;
            apart = omega (arith, fall, no_wires (node way.last), ap (λ v. wires_apart (node v) (node way.last)) (sym d.same));
            sum = omega (arith, sum_by-cons cost j rest, d.sum, ap cost d.same);
          }
          | inr d ↦ record {
            wires = 1 + d.wires;
            apart = omega (arith, fall, d.apart);
            sum = omega (arith, sum_by-cons cost j rest, d.sum, costs.some j wj.within);
          }
        ]);
      }

  Ways : List ℕ → Type 0
  Ways rest = (i : ℕ) → IsWireAt basis i → Leads (graph_at basis cost) goal i rest → Way i rest

  way_more : (kb : NodeKind) (i j : ℕ) (rest : List ℕ) → (node j).kind ≡ kb → IsWireAt basis i → Contains ((graph_of basis).ends i) j → j < (graph_of basis).count
      → IsReached basis.strip (node i).kind kb (node i) (node j) → Leads (graph_at basis cost) goal j rest → Ways rest → Way i (j ∷ rest)
  unfolding Ways
  way_more Source i j rest e w c b r l next = absurd r
  way_more Sink i j rest e w c b r l next = absurd (subst IsWire r.0 w.wire)
  way_more Opin i j rest e w c b r l next = absurd (subst IsWire r.0 w.wire)
  way_more Ipin i j rest e w c b r l next =
      let p = pin_way rest j b e l in
      record {
        last = i;
        pin = j;
        wire = w;
        track = refl;
        entry = record { edge = c; within = b; kind = e; own = p.own };
        length = inl (record { same = refl; sum = omega (arith, sum_by-cons cost j rest, p.sum) });
      }
  way_more ChanX i j rest e w c b (inl o) l next = absurd (subst IsWire o w.wire)
  way_more ChanX i j rest e w c b (inr s) l next =
      let wj : IsWireAt basis j = record { within = b; wire = subst IsWire (sym e) tt } in
      longer i j rest w wj c s.1 (next j wj l)
  way_more ChanY i j rest e w c b (inl o) l next = absurd (subst IsWire o w.wire)
  way_more ChanY i j rest e w c b (inr s) l next =
      let wj : IsWireAt basis j = record { within = b; wire = subst IsWire (sym e) tt } in
      longer i j rest w wj c s.1 (next j wj l)

  ways : (rest : List ℕ) → Ways rest
  unfolding Ways
  ways [] i w l = absurd (subst IsWire (ap (λ v. (node v).kind) l ∙ kind) w.wire)
  ways (j ∷ rest) i w l = grind (arith, edge_reached, way_more, ways rest)

  pub way_over : (rest : List ℕ) (i : ℕ) → IsWireAt basis i → Leads (graph_at basis cost) goal i rest → IsWayOver basis cost goal i rest
  unfolding Ways
  way_over rest i w l = ways rest i w l
