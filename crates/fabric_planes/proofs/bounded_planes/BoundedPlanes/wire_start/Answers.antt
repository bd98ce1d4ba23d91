use Rattle.fabric_planes.proofs.Found.{place_low}
use Rattle.fabric_planes.proofs.StartLists.{wire_of}
use Rattle.fabric_planes.proofs.TrackStarts.{start_wire_of}
use Rattle.fabric_planes.proofs.bounded_planes.BoundedPlanes.wire_start.Goals as goal

pub invariant_of-at : goal.invariant_of-at
invariant_of-at g c =
    let self = c.args.self.now.planes.now in
    let basis = g.G.StripGraph.basis self.strip.graph.now in
    let own = wire_of basis self.starts.now c.args.self.now.planes.now.listed.now c.args.self.now.planes.now.are_listed c.args.wire c.requires.wire in
    record { on_track = c.requires.track; in_plane = place_low c.laws.ensures.basis c.args.wire.place c.args.wire.number (start_wire_of basis c.args.wire own) }
