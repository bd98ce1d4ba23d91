use Rattle.fabric_planes.proofs.Prelude.{◌≡◌, ◌∙◌, ap, sym, Node, graph_of, Terminals, place_of}
use Rattle.fabric_planes.proofs.ListedStarts.{listed_shown, none_shown, other_listed}
use Rattle.fabric_planes.proofs.Strips.{node_near}
use Rattle.fabric_planes.proofs.net_planes.NetPlanes.pin_place.Goals as goal

pub place-place-requires : goal.place-place-requires
place-place-requires g c = node_near c.laws.ensures.basis c.args.number c.requires c.node.result c.node.ensures

pub returns-then-other-number-clause-there : goal.returns-then-other-number-clause-there
returns-then-other-number-clause-there g c =
    let self = c.args.self.now in
    let is = c.laws.ensures.basis in
    let t : Terminals = record { source = self.source; sink = self.sink } in
    let costs = g.C.NodeCosts.costs self.costs.now in
    let firsts = self.strip.layout.now.firsts.items in
    let basis = g.G.StripGraph.basis self.strip.graph.now in
    let at : c.place-place.result ≡ place_of basis ((graph_of basis).node c.args.number) = c.place-place.ensures.value basis self.strip.laid.shape ∙ ap (λ (v : Node). place_of basis v) c.node.ensures in
    (listed_shown is t costs self.starts.now self.goal self.search firsts self.strip.laid.firsts self.shown.now self.are_pins c.place-place.result c.args.number c.in-Some.other c.in-Some.ensures.found c.if-other-number.true, at)

pub returns-else-other-number-clause-none : goal.returns-else-other-number-clause-none
returns-else-other-number-clause-none g c =
    let self = c.args.self.now in
    let is = c.laws.ensures.basis in
    let t : Terminals = record { source = self.source; sink = self.sink } in
    let costs = g.C.NodeCosts.costs self.costs.now in
    let firsts = self.strip.layout.now.firsts.items in
    let basis = g.G.StripGraph.basis self.strip.graph.now in
    let at : c.place-place.result ≡ place_of basis ((graph_of basis).node c.args.number) = c.place-place.ensures.value basis self.strip.laid.shape ∙ ap (λ (v : Node). place_of basis v) c.node.ensures in
    other_listed is t costs self.starts.now self.goal self.search firsts self.strip.laid.firsts self.shown.now self.are_pins c.place-place.result c.args.number c.in-Some.other c.in-Some.ensures.found (sym at) c.if-other-number.false

pub returns-in-None-clause-none : goal.returns-in-None-clause-none
returns-in-None-clause-none g c =
    let self = c.args.self.now in
    let is = c.laws.ensures.basis in
    let t : Terminals = record { source = self.source; sink = self.sink } in
    let costs = g.C.NodeCosts.costs self.costs.now in
    let firsts = self.strip.layout.now.firsts.items in
    let basis = g.G.StripGraph.basis self.strip.graph.now in
    let at : c.place-place.result ≡ place_of basis ((graph_of basis).node c.args.number) = c.place-place.ensures.value basis self.strip.laid.shape ∙ ap (λ (v : Node). place_of basis v) c.node.ensures in
    none_shown is t costs self.starts.now self.goal self.search firsts self.strip.laid.firsts self.shown.now self.are_pins c.place-place.result c.args.number c.in-None.ensures.none (sym at)
