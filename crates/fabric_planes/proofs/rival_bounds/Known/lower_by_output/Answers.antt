use Rattle.fabric_planes.proofs.Prelude.{arith, planes_of, AreOverSide}
use Rattle.fabric_planes.proofs.RivalLists.{lowered_itself, lowered_then, limited_then, each_more}
use Rattle.fabric_planes.proofs.RivalStarts.{side_still}
use Rattle.fabric_planes.proofs.rival_bounds.Known.lower_by_output.Goals as goal

pub loop-number-init : goal.loop-number-init
loop-number-init g c = record { falls = lowered_itself c.args.bounds.now; low = λ side b. absurd (omega (arith, b)) }

pub lower_by_side-requires-clause-limited : goal.lower_by_side-requires-clause-limited
lower_by_side-requires-clause-limited g c = limited_then _ c.args.self.now.limits.most _ _ c.requires.limited c.loop-number.invariant.falls

pub loop-number-preserved : goal.loop-number-preserved
loop-number-preserved g c =
    let p = c.args.self.now.planes.now in
    let basis = g.G.StripGraph.basis p.strip.graph.now in
    let cost = g.C.NodeCosts.costs p.costs.now in
    let f = planes_of basis cost p.starts.now p.goal (record { source = p.source; sink = p.sink }) in
    record {
      falls = lowered_then _ _ _ c.loop-number.invariant.falls c.lower_by_side.ensures.falls;
      low = each_more (λ side bounds. AreOverSide basis cost f c.args.self.now.head c.args.lead side bounds) (side_still basis cost f c.args.self.now.head c.args.lead) _ _ c.loop-number.number c.loop-number.invariant.low c.lower_by_side.ensures.falls c.lower_by_side.ensures.low;
    }
