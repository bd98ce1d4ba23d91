use Rattle.fabric_planes.proofs.Prelude.{◌∙◌, graph_of}
use Rattle.fabric_planes.proofs.PinAparts.{aparts_few, aparts_within, apart_told}
use Rattle.fabric_planes.proofs.Strips.{node_fields, track_low}
use Rattle.fabric_planes.proofs.strip_planes.StripPlanes.apart.Goals as goal

pub pin_number-requires : goal.pin_number-requires
pin_number-requires g c = node_fields c.laws.ensures.basis c.args.pin c.requires.pin

pub slice_bounds-result-end : goal.slice_bounds-result-end
slice_bounds-result-end g c =
    let basis = g.G.StripGraph.basis c.args.self.now.graph.now in
    aparts_within c.laws.ensures.basis c.args.pin c.requires.pin c.requires.kind c.args.side.number c.args.side.few c.pin_number.result c.args.self.now.layout.now.shape.tracks c.deref.result.now (c.pin_number.ensures.value basis c.args.self.now.laid.shape) c.args.self.now.laid.shape.tracks (c.deref.ensures.value ∙ c.args.self.now.laid.pins.apart)

pub returns-clause-few : goal.returns-clause-few
returns-clause-few g c = aparts_few c.laws.ensures.basis _ _ c.deref.result.now (c.deref.ensures.value ∙ c.args.self.now.laid.pins.apart)

pub returns-clause-met : goal.returns-clause-met
returns-clause-met g c = λ number wire beside m.
    let basis = g.G.StripGraph.basis c.args.self.now.graph.now in
    apart_told c.laws.ensures.basis c.args.pin c.requires.pin c.requires.kind c.args.side.number c.args.side.few c.pin_number.result c.args.self.now.layout.now.shape.tracks c.deref.result.now (c.pin_number.ensures.value basis c.args.self.now.laid.shape) c.args.self.now.laid.shape.tracks (c.deref.ensures.value ∙ c.args.self.now.laid.pins.apart)
    ((graph_of basis).node number) (track_low c.laws.ensures.basis number wire) beside m
