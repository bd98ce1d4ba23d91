use Rattle.fabric_planes.proofs.Prelude.{◌<◌, arith, length, planes_of, AreShownTo}
use Rattle.fabric_planes.proofs.RivalLists.{lowered_then, limited_then, each_more}
use Rattle.fabric_planes.proofs.RivalStarts.{index_in, shown_still, shown_here, all_shown}
use Rattle.fabric_planes.proofs.rival_bounds.Known.lower_by_source.Goals as goal

pub lower_by_shown-requires-clause-shown : goal.lower_by_shown-requires-clause-shown
lower_by_shown-requires-clause-shown g c =
    let p = c.args.self.now.planes.now in
    let b : c.loop-index.index < length p.shown.now = omega arith in
    p.are_pins.shown _ (index_in p.shown.now c.loop-index.index (record { place = 0; number = 0; row = 0; per_track = 0; base = 0 }) b)

pub lower_by_shown-requires-clause-limited : goal.lower_by_shown-requires-clause-limited
lower_by_shown-requires-clause-limited g c = limited_then _ c.args.self.now.limits.most _ _ c.requires c.loop-index.invariant.falls

pub loop-index-preserved : goal.loop-index-preserved
loop-index-preserved g c =
    let p = c.args.self.now.planes.now in
    let basis = g.G.StripGraph.basis p.strip.graph.now in
    let cost = g.C.NodeCosts.costs p.costs.now in
    let f = planes_of basis cost p.starts.now p.goal (record { source = p.source; sink = p.sink }) in
    let b : c.loop-index.index < length p.shown.now = omega arith in
    record {
      falls = lowered_then _ _ _ c.loop-index.invariant.falls c.lower_by_shown.ensures.falls;
      low = each_more (λ k bounds. AreShownTo basis cost f c.args.self.now.head c.args.start p.shown.now k bounds) (shown_still basis cost f c.args.self.now.head c.args.start p.shown.now) _ _ c.loop-index.index c.loop-index.invariant.low c.lower_by_shown.ensures.falls
          (shown_here basis cost f c.args.self.now.head c.args.start p.shown.now c.loop-index.index (record { place = 0; number = 0; row = 0; per_track = 0; base = 0 }) _ b c.lower_by_shown.ensures.low);
    }

pub returns-clause-low : goal.returns-clause-low
returns-clause-low g c =
    let p = c.args.self.now.planes.now in
    let basis = g.G.StripGraph.basis p.strip.graph.now in
    let cost = g.C.NodeCosts.costs p.costs.now in
    let f = planes_of basis cost p.starts.now p.goal (record { source = p.source; sink = p.sink }) in
    all_shown c.laws.ensures.basis (record { source = p.source; sink = p.sink }) cost p.starts.now p.goal p.search p.shown.now p.are_pins f c.args.self.now.head c.args.start c.loop-index.bounds
    (λ k b. c.loop-index.invariant.low k (omega (arith, b)))
