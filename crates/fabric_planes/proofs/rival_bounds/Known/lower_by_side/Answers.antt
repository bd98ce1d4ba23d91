use Rattle.fabric_planes.proofs.Prelude.{◌+◌, arith, planes_of, graph_of}
use Rattle.fabric_planes.proofs.RivalSides.{over_first, bound_less, no_bound}
use Rattle.fabric_planes.proofs.rival_bounds.Known.lower_by_side.Goals.{else-count-gt0-via-then-count-gt0+else-is_needed, else-count-gt0-via-else-count-gt0}
use Rattle.fabric_planes.proofs.rival_bounds.Known.lower_by_side.Goals as goal

pub returns-then-is_needed-clause-low : goal.returns-then-is_needed-clause-low
returns-then-is_needed-clause-low g c = λ wire met first.
    let p = c.args.self.now.planes.now in
    let basis = g.G.StripGraph.basis p.strip.graph.now in
    let cost = g.C.NodeCosts.costs p.costs.now in
    let f = planes_of basis cost p.starts.now p.goal (record { source = p.source; sink = p.sink }) in
    let n = ((graph_of basis).node wire).n in
    let few = over_first c.laws.ensures.basis p.source p.own_sides.now c.args.lead c.args.self.now.head c.args.side.number c.tracks_before-count.result _ wire p.are_own_sides c.requires.lead c.requires.limited.long c.tracks_before-count.ensures.all met first in
    c.lower_over.ensures.row wire met few

pub returns-else-count-gt0-clause-low : goal.returns-else-count-gt0-clause-low
returns-else-count-gt0-clause-low g c = λ wire met first.
    let p = c.args.self.now.planes.now in
    let basis = g.G.StripGraph.basis p.strip.graph.now in
    let cost = g.C.NodeCosts.costs p.costs.now in
    let f = planes_of basis cost p.starts.now p.goal (record { source = p.source; sink = p.sink }) in
    let n = ((graph_of basis).node wire).n in
    let few = over_first c.laws.ensures.basis p.source p.own_sides.now c.args.lead c.args.self.now.head c.args.side.number c.tracks_before-count.result _ wire p.are_own_sides c.requires.lead c.requires.limited.long c.tracks_before-count.ensures.all met first in
    elim c.else-count-gt0.branch [
      | else-count-gt0-via-then-count-gt0+else-is_needed w ↦ bound_less c.laws.ensures.basis cost f c.args.lead.more wire (c.args.self.now.limits.most + 1) _ (c.requires.limited.low n) (w.is_needed.ensures.none w.if-is_needed.false ((graph_of basis).node c.args.lead.pin) wire c.requires.lead.output met)
      | else-count-gt0-via-else-count-gt0 w ↦ no_bound c.laws.ensures.basis cost f c.args.lead.more wire _ (omega (arith, few, w.if-count-gt0.false))
    ]
