-- Ways end at a side of the sink's block or pad.
use Rattle.fabric_planes.proofs.Prelude.{◌≡◌, ℕ, ◌+◌, ◌<◌, ◌≤◌, List, refl, ◌∙◌, subst, inl, inr, arith, true, ◌==◌, ◌&&◌, ◌||◌, sum_by, and_parts, or_cases, eqb-true, false≢true, Sides, NodeKind, Sink, Ipin, ChanX, ChanY, Node, IsWire, joins, meets, meets_track, flexibility_of, runs_along, sides_at, Basis, IsBasis, graph_of, edge_joins, Leads, graph_at, AreCosts, is_on_side, IsAtSide, IsOwnPin, AreSideBounds, IsBySide, IsWireAt, IsEntry}
use Rattle.fabric_planes.proofs.Crossing.{way_over}
use Rattle.fabric_planes.proofs.Strips.{lawful, together_parts}

-- the side along which a wire runs
pub record IsAlong (sides : Sides) (sink : Node) (kind : NodeKind) (x y : ℕ) : Type 0 where
  pub side : ℕ
  pub on : is_on_side sides side ≡ true
  pub at : IsAtSide sink side kind x y

pub along_side : (sides : Sides) (pin sink : Node) (kind : NodeKind) (x y : ℕ) → pin.x ≡ sink.x → pin.y ≡ sink.y → runs_along sides pin kind x y ≡ true → IsAlong sides sink kind x y
along_side sides pin sink ChanX x y ex ey h =
    let parts = and_parts (x == pin.x) ((sides.top && (y == pin.y)) || (sides.bottom && (y + 1 == pin.y))) h in
    let column : x ≡ sink.x = eqb-true x pin.x parts.0 ∙ ex in
    elim (or_cases (sides.top && (y == pin.y)) (sides.bottom && (y + 1 == pin.y)) parts.1) [
      | inl t ↦ (let q = and_parts sides.top (y == pin.y) t in record { side = 0; on = q.0; at = record { few = omega arith; kind_is = refl; column = omega (arith, column); row = omega (arith, eqb-true y pin.y q.1, ey) } })
      | inr b ↦ (let q = and_parts sides.bottom (y + 1 == pin.y) b in record { side = 1; on = q.0; at = record { few = omega arith; kind_is = refl; column = omega (arith, column); row = omega (arith, eqb-true (y + 1) pin.y q.1, ey) } })
    ]
along_side sides pin sink ChanY x y ex ey h =
    let parts = and_parts (y == pin.y) ((sides.right && (x == pin.x)) || (sides.left && (x + 1 == pin.x))) h in
    let row : y ≡ sink.y = eqb-true y pin.y parts.0 ∙ ey in
    elim (or_cases (sides.right && (x == pin.x)) (sides.left && (x + 1 == pin.x)) parts.1) [
      | inl r ↦ (let q = and_parts sides.right (x == pin.x) r in record { side = 2; on = q.0; at = record { few = omega arith; kind_is = refl; column = omega (arith, eqb-true x pin.x q.1, ex); row = omega (arith, row) } })
      | inr l ↦ (let q = and_parts sides.left (x + 1 == pin.x) l in record { side = 3; on = q.0; at = record { few = omega arith; kind_is = refl; column = omega (arith, eqb-true (x + 1) pin.x q.1, ex); row = omega (arith, row) } })
    ]
along_side sides pin sink _ x y ex ey h = absurd (false≢true h)

-- what a wire and a pin that join say
pub wire_meets : (arch : _) (strip : _) (kind : NodeKind) (wire pin : Node) → IsWire kind → joins arch strip kind Ipin wire pin ≡ true → wire.kind ≡ kind → meets arch strip pin wire ≡ true
wire_meets arch strip kind wire pin w h e = grind arith

module _ {basis : Basis} (is : IsBasis basis) {cost : ℕ → ℕ} (costs : AreCosts basis cost) (goal : ℕ) (within : goal < (graph_of basis).count) (kind : ((graph_of basis).node goal).kind ≡ Sink) where
  abbrev node : ℕ → Node
  node = (graph_of basis).node

  entry_along : (last pin : ℕ) → IsWireAt basis last → IsEntry basis goal last pin → IsAlong (sides_at basis.arch basis.strip (node pin)) (node goal) (node last).kind (node last).x (node last).y
  entry_along last pin w entry =
      let edge = ((lawful is).pairs last pin w.within).0 entry.edge in
      let joined : joins basis.arch basis.strip (node last).kind Ipin (node last) (node pin) ≡ true = subst (λ (k : NodeKind). joins basis.arch basis.strip (node last).kind k (node last) (node pin) ≡ true) entry.kind (edge_joins basis.arch basis.strip (node last) (node pin) edge.1) in
      let met = wire_meets basis.arch basis.strip (node last).kind (node last) (node pin) w.wire joined refl in
      let along = (and_parts (runs_along (sides_at basis.arch basis.strip (node pin)) (node pin) (node last).kind (node last).x (node last).y) (meets_track (flexibility_of basis.arch basis.strip (node pin)) basis.arch.tracks (node pin).n (node last).n) met).0 in
      let e = together_parts basis.strip (node pin) (node goal) entry.own in
      along_side (sides_at basis.arch basis.strip (node pin)) (node pin) (node goal) (node last).kind (node last).x (node last).y e.0 e.1 along

  pub by_side : (pins : ℕ → ℕ) (lasts : ℕ → ℕ → ℕ) → AreSideBounds basis cost (node goal) pins lasts → (from : ℕ) (rest : List ℕ) → IsWireAt basis from → Leads (graph_at basis cost) goal from rest → IsBySide basis from (node goal) pins lasts (sum_by cost rest)
  by_side pins lasts bounds from rest w l =
      let way = way_over is costs goal kind rest from w l in
      let along = entry_along way.last way.pin way.wire way.entry in
      let own : IsOwnPin basis (node goal) way.pin = record { within = way.entry.within; kind = way.entry.kind; own = way.entry.own } in
      let pin = bounds.pin along.side way.pin own along.on in
      let last : lasts along.side (node from).n ≤ cost way.last + pins along.side = subst (λ (n : ℕ). lasts along.side n ≤ cost way.last + pins along.side) way.track (bounds.last along.side way.last way.wire along.at) in
      let some = costs.some goal within in
      record {
        side = along.side;
        last = way.last;
        wire = way.wire;
        at = along.at;
        pin = elim way.length [
          | inl d ↦ omega (arith, d.sum, pin, some)
          | inr d ↦ omega (arith, d.sum, pin, some)
        ];
        far = elim way.length [
          | inl d ↦ inl (subst (λ (v : ℕ). IsAtSide (node goal) along.side (node v).kind (node v).x (node v).y) d.same along.at)
          | inr d ↦ inr (omega (arith, d.apart, d.sum, last, pin, some))
        ];
      }
