use Rattle.fabric_planes.proofs.Prelude.{refl, sym, ◌≡◌, arith, All-contains, graph_of, Source, Opin, Terminals, IsStart, planes_of}
use Rattle.fabric_planes.proofs.RivalStarts.{kind_by, from_source, from_output, from_other}
use Rattle.fabric_planes.proofs.StartLists.{pin_of}
use Rattle.fabric_planes.proofs.rival_bounds.Known.lower_by_pin.Goals as goal

pub node-requires : goal.node-requires
node-requires g c =
    let p = c.args.self.now.planes.now in
    let basis = g.G.StripGraph.basis p.strip.graph.now in
    let t : Terminals = record { source = p.source; sink = p.sink } in
    let own = (pin_of basis p.starts.now p.listed.now p.are_listed c.args.number c.requires.pin).0 in
    (All-contains (IsStart basis t) p.starts.now c.args.number p.search.starts_are own).within

pub returns-in-Source-clause-low : goal.returns-in-Source-clause-low
returns-in-Source-clause-low g c =
    let p = c.args.self.now.planes.now in
    let basis = g.G.StripGraph.basis p.strip.graph.now in
    let cost = g.C.NodeCosts.costs p.costs.now in
    let t : Terminals = record { source = p.source; sink = p.sink } in
    let f = planes_of basis cost p.starts.now p.goal t in
    let v = (graph_of basis).node c.args.number in
    from_source basis cost f t c.args.self.now.head c.args.number c.lower_by_source.new.bounds (kind_by c.node.result v Source c.node.ensures c.in-Source.is) c.lower_by_source.ensures.low

pub lower_by_output-requires-clause-lead : goal.lower_by_output-requires-clause-lead
lower_by_output-requires-clause-lead g c =
    let p = c.args.self.now.planes.now in
    let basis = g.G.StripGraph.basis p.strip.graph.now in
    let t : Terminals = record { source = p.source; sink = p.sink } in
    let own = (pin_of basis p.starts.now p.listed.now p.are_listed c.args.number c.requires.pin).0 in
    let start = All-contains (IsStart basis t) p.starts.now c.args.number p.search.starts_are own in
    let v = (graph_of basis).node c.args.number in
    let k : v.kind ≡ Opin = kind_by c.node.result v Opin c.node.ensures c.in-Opin.is in
    record {
      within = start.within;
      output = record { there = c.laws.ensures.lawful.nodes c.args.number start.within; kind = k; own = start.output k };
      few = omega arith;
    }

pub returns-in-Opin-clause-low : goal.returns-in-Opin-clause-low
returns-in-Opin-clause-low g c =
    let p = c.args.self.now.planes.now in
    let basis = g.G.StripGraph.basis p.strip.graph.now in
    let cost = g.C.NodeCosts.costs p.costs.now in
    let t : Terminals = record { source = p.source; sink = p.sink } in
    let f = planes_of basis cost p.starts.now p.goal t in
    let v = (graph_of basis).node c.args.number in
    from_output basis cost f t c.args.self.now.head c.args.number (record { start = c.args.number; pin = c.args.number; more = 0 }) c.lower_by_output.new.bounds
    (kind_by c.node.result v Opin c.node.ensures c.in-Opin.is) refl refl refl c.lower_by_output.ensures.low

pub returns-in_default-clause-low : goal.returns-in_default-clause-low
returns-in_default-clause-low g c =
    let p = c.args.self.now.planes.now in
    let basis = g.G.StripGraph.basis p.strip.graph.now in
    let cost = g.C.NodeCosts.costs p.costs.now in
    let t : Terminals = record { source = p.source; sink = p.sink } in
    let f = planes_of basis cost p.starts.now p.goal t in
    let v = (graph_of basis).node c.args.number in
    from_other basis cost f t c.args.self.now.head c.args.number c.clear.new.bounds (pin_of basis p.starts.now p.listed.now p.are_listed c.args.number c.requires.pin).1
    (λ k. c.in_default.not-Source (kind_by v c.node.result Source (sym c.node.ensures) k)) (λ k. c.in_default.not-Opin (kind_by v c.node.result Opin (sym c.node.ensures) k))
    (λ track few. c.clear.ensures.none track (omega (arith, few, c.requires.limited.long)))
