use Rattle.fabric_planes.proofs.Prelude.{◌≡◌, ◌<◌, ◌∙◌, sym, ap, arith, subst, Node, graph_of, place_of, IsFirstWire}
use Rattle.fabric_planes.proofs.Consecutive.{wire_low}
use Rattle.fabric_planes.proofs.Told.{told_skip, told_more}
use Rattle.fabric_planes.proofs.layout.firsts_of.Goals.{then-is_first_wire, else-is_first_wire}
use Rattle.fabric_planes.proofs.layout.firsts_of.Goals as goal

pub index_mut-requires : goal.index_mut-requires
index_mut-requires g c =
    let basis = g.G.StripGraph.basis c.args.shaped.now.graph.now in
    let within : c.loop-number.number < (graph_of basis).count = omega (arith, c.loop-number-test.true, c.count-number-end.ensures.value) in
    let first : IsFirstWire ((graph_of basis).node c.loop-number.number) = subst IsFirstWire c.node-node.ensures (c.if-is_first_wire.ensures) in
    let low = wire_low c.count-number-end.ensures.basis c.loop-number.number within first.wire in
    let is : c.place.result ≡ place_of basis ((graph_of basis).node c.loop-number.number) = c.place.ensures.value basis c.args.shaped.now.fits ∙ ap (λ (v : Node). place_of basis v) c.node-node.ensures in
    omega (arith, low, is, c.loop-number.invariant.long)

pub loop-number-preserved : goal.loop-number-preserved
loop-number-preserved g c =
    let basis = g.G.StripGraph.basis c.args.shaped.now.graph.now in
    let count = c.loop-number.number in
    let within : count < (graph_of basis).count = omega (arith, c.loop-number-test.true, c.count-number-end.ensures.value) in
    elim c.if-is_first_wire.branch [
      | then-is_first_wire w ↦
          let first : IsFirstWire ((graph_of basis).node count) = subst IsFirstWire c.node-node.ensures (w.if-is_first_wire.ensures) in
          let low = wire_low c.count-number-end.ensures.basis count within first.wire in
          let is : place_of basis ((graph_of basis).node count) ≡ w.place.result = sym (w.place.ensures.value basis c.args.shaped.now.fits ∙ ap (λ (v : Node). place_of basis v) c.node-node.ensures) in
          rw w.firsts-is (told_more basis c.count-number-end.ensures.basis count w.place.result c.loop-number.firsts.items c.loop-number.invariant (record { within = within; first = first; is_at = is }) (omega (arith, low, is)))
      | else-is_first_wire w ↦
          rw w.firsts-is (told_skip basis count c.loop-number.firsts.items c.loop-number.invariant (λ first. w.if-is_first_wire.ensures (subst IsFirstWire (sym c.node-node.ensures) first)))
    ]
