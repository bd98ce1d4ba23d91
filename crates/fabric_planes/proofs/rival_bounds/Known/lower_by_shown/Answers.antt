use Rattle.fabric_planes.proofs.Prelude.{sym, ◌≡◌, ◌≤◌, arith, subst, true, graph_of, Opin, Terminals, planes_of, shows}
use Rattle.fabric_planes.proofs.RivalStarts.{kind_by, no_over, over_whole}
use Rattle.fabric_planes.proofs.rival_bounds.Known.lower_by_shown.Goals as goal

pub lower_by_output-requires-clause-lead : goal.lower_by_output-requires-clause-lead
lower_by_output-requires-clause-lead g c =
    let p = c.args.self.now.planes.now in
    let basis = g.G.StripGraph.basis p.strip.graph.now in
    let t : Terminals = record { source = p.source; sink = p.sink } in
    let v = (graph_of basis).node c.args.number in
    let k : v.kind ≡ Opin = kind_by c.node.result v Opin c.node.ensures c.in-Opin.is in
    record {
      within = c.requires.shown.within;
      output = record {
        there = c.laws.ensures.lawful.nodes c.args.number c.requires.shown.within;
        kind = k;
        own = subst (λ kind. shows basis.strip t 0 kind v ≡ true) k c.requires.shown.shown;
      };
      few = omega arith;
    }

pub returns-in-Opin-clause-low : goal.returns-in-Opin-clause-low
returns-in-Opin-clause-low g c = λ k.
    let p = c.args.self.now.planes.now in
    let basis = g.G.StripGraph.basis p.strip.graph.now in
    let cost = g.C.NodeCosts.costs p.costs.now in
    let f = planes_of basis cost p.starts.now p.goal (record { source = p.source; sink = p.sink }) in
    let l : c.min-more.result ≤ cost c.args.number = omega arith in
    over_whole basis cost f c.args.self.now.head (record { start = c.args.start; pin = c.args.number; more = c.min-more.result }) (cost c.args.number) c.lower_by_output.new.bounds c.lower_by_output.ensures.low l

pub returns-in_default-clause-low : goal.returns-in_default-clause-low
returns-in_default-clause-low g c = λ k.
    let p = c.args.self.now.planes.now in
    let basis = g.G.StripGraph.basis p.strip.graph.now in
    let cost = g.C.NodeCosts.costs p.costs.now in
    let f = planes_of basis cost p.starts.now p.goal (record { source = p.source; sink = p.sink }) in
    let v = (graph_of basis).node c.args.number in
    no_over basis cost f c.args.self.now.head c.args.start c.args.number (cost c.args.number) c.args.bounds.now (c.in_default.not-Opin (kind_by v c.node.result Opin (sym c.node.ensures) k))
