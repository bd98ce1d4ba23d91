use Rattle.fabric_planes.proofs.Prelude.{◌<◌, arith, length, sym, IsWireOf, Terminals, planes_of}
use Rattle.fabric_planes.proofs.Found.{place_low}
use Rattle.fabric_planes.proofs.Strips.{track_low}
use Rattle.fabric_planes.proofs.RivalStarts.{wire_set}
use Rattle.fabric_planes.proofs.StartLists.{wire_of, wire_of_start}
use Rattle.fabric_planes.proofs.rival_bounds.Known.lower_by_wire.Goals as goal

pub invariant_of-at : goal.invariant_of-at
invariant_of-at g c =
    let p = c.args.self.now.planes.now in
    let basis = g.G.StripGraph.basis p.strip.graph.now in
    let own = wire_of basis p.starts.now p.listed.now p.are_listed c.args.wire c.requires.wire in
    let w = wire_of_start basis c.args.wire own in
    let of : IsWireOf basis c.args.wire.place c.args.wire.number = record { wire = w; is_at = sym own.place } in
    record { on_track = omega (arith, own.track, track_low c.laws.ensures.basis c.args.wire.number w); in_plane = place_low c.laws.ensures.basis c.args.wire.place c.args.wire.number of }

pub returns-in-Some-clause-low : goal.returns-in-Some-clause-low
returns-in-Some-clause-low g c =
    let p = c.args.self.now.planes.now in
    let basis = g.G.StripGraph.basis p.strip.graph.now in
    let cost = g.C.NodeCosts.costs p.costs.now in
    let f = planes_of basis cost p.starts.now p.goal (record { source = p.source; sink = p.sink }) in
    let t : Terminals = record { source = p.source; sink = p.sink } in
    let own = wire_of basis p.starts.now p.listed.now p.are_listed c.args.wire c.requires.wire in
    let w = wire_of_start basis c.args.wire own in
    let of : IsWireOf basis c.args.wire.place c.args.wire.number = record { wire = w; is_at = sym own.place } in
    let b : c.args.wire.track < length c.args.bounds.now = omega (arith, c.requires.limited.long, own.track, track_low c.laws.ensures.basis c.args.wire.number w) in
    wire_set basis cost f t c.args.self.now.head c.args.wire c.args.bounds.now c.in-Some.ahead w.wire own.track own.place b (c.in-Some.ensures.bound c.args.wire.number of (sym own.track))
