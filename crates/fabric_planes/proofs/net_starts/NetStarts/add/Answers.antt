use Rattle.fabric_planes.proofs.Prelude.{◌∙◌, sym, ap, refl, subst, Node, IsWire, graph_of, place_of}
use Rattle.fabric_planes.proofs.StartLists.{with_pin, with_wire, wire_true}
use Rattle.fabric_planes.proofs.net_starts.NetStarts.add.Goals as goal

pub returns-in_ok-push : goal.returns-in_ok-push
returns-in_ok-push g c = λ starts has.
    let basis = g.G.StripGraph.basis c.args.shaped.now.graph.now in
    let e = c.node-node.ensures in
    let w : IsWire ((graph_of basis).node c.args.number).kind = subst (λ (v : Node). IsWire v.kind) e c.if-is_wire.ensures in
    with_wire basis starts c.args.number c.args.self.now (record { pins = c.args.self.now.pins; wires = c.push.new.self }) (record { track = c.node-node.result.n; place = c.place-place.result; number = c.args.number }) has
    (record { within = c.requires; kind = wire_true ((graph_of basis).node c.args.number).kind w; track = ap (λ (v : Node). v.n) e; place = c.place-place.ensures.value basis c.args.shaped.now.fits ∙ ap (λ (v : Node). place_of basis v) e }) refl refl c.in_ok-push.ensures.items

pub returns-in_ok-push-2 : goal.returns-in_ok-push-2
returns-in_ok-push-2 g c = λ starts has.
    let basis = g.G.StripGraph.basis c.args.shaped.now.graph.now in
    with_pin basis starts c.args.number c.args.self.now (record { pins = c.push-else-is_wire.new.self; wires = c.args.self.now.wires }) has (λ w. c.if-is_wire.ensures (subst (λ (v : Node). IsWire v.kind) (sym c.node-node.ensures) w)) c.in_ok-push-2.ensures.items refl
