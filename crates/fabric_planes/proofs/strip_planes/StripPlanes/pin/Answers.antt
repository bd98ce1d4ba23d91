use Rattle.fabric_planes.proofs.Prelude.{◌≡◌, ap, ◌∙◌, arith, Node, graph_of, PinAt, place_of, rows_per_track}
use Rattle.fabric_planes.specs.PinRows.{first_row}
use Rattle.fabric_planes.proofs.PinsRowed.{IsMade, has_ends}
use Rattle.fabric_planes.proofs.Strips.{node_near}
use Rattle.fabric_planes.proofs.strip_planes.StripPlanes.pin.Goals as goal

pub place-place-requires : goal.place-place-requires
place-place-requires g c = node_near c.laws.ensures.basis c.args.number c.requires.within c.node-node.result c.node-node.ensures

pub first_row-requires : goal.first_row-requires
first_row-requires g c = node_near c.laws.ensures.basis c.args.number c.requires.within c.node-node.result c.node-node.ensures

pub returns-clause-ends : goal.returns-clause-ends
returns-clause-ends g c = λ cost starts goal t search shown.
    let basis = g.G.StripGraph.basis c.args.self.now.graph.now in
    let e = c.node-node.ensures in
    let place : c.place-place.result ≡ place_of basis ((graph_of basis).node c.args.number) = c.place-place.ensures.value basis c.args.self.now.laid.shape ∙ ap (place_of basis) e in
    let pin : PinAt = record { place = c.place-place.result; number = c.args.number; row = c.first_row.result; per_track = c.rows_per_track.result; base = c.saturating_sub.result } in
    let made : IsMade c.laws.ensures.basis pin ((graph_of basis).node c.args.number) = record {
      place = place;
      row = c.first_row.ensures basis c.args.self.now.laid.shape ∙ ap (first_row basis) e;
      per_track = c.rows_per_track.ensures ∙ ap (λ (v : Node). rows_per_track v.kind) e;
      base = omega (arith, c.saturating_sub.ensures, place, c.stride.ensures.value, c.args.self.now.laid.shape.pins, c.args.self.now.laid.shape.rows);
    } in
    has_ends c.laws.ensures.basis c.args.self.now.layout.now.pins.rows c.args.self.now.laid.pins.rows cost starts goal t search pin made shown
