use Rattle.fabric_planes.proofs.Prelude.{◌∙◌, sym, Terminals}
use Rattle.fabric_planes.proofs.NetRoads.{tracks_of}
use Rattle.fabric_planes.proofs.Strips.{strip_family}
use Rattle.fabric_planes.proofs.bounded_planes.BoundedPlanesPlanes.tracks.Goals as goal

pub returns-clause-value : goal.returns-clause-value
returns-clause-value g c =
    let self = c.args.self.now.planes.now in
    let t : Terminals = record { source = self.source; sink = self.sink } in
    let costs = g.C.NodeCosts.costs self.costs.now in
    let basis = g.G.StripGraph.basis self.strip.graph.now in
    self.strip.laid.shape.tracks ∙ sym (tracks_of basis costs self.starts.now self.goal t)

pub returns-clause-lawful : goal.returns-clause-lawful
returns-clause-lawful g c =
    let self = c.args.self.now.planes.now in
    let t : Terminals = record { source = self.source; sink = self.sink } in
    let costs = g.C.NodeCosts.costs self.costs.now in
    strip_family c.laws.ensures.basis costs self.starts.now self.goal t self.search
