use Rattle.fabric_planes.proofs.Prelude.{◌≡◌, subst, arith, inl, inr, cases_lt, sides_at, graph_of, IsLowFor}
use Rattle.fabric_planes.proofs.Lowered.{low_still}
use Rattle.fabric_planes.proofs.OwnPins.{own_at}
use Rattle.fabric_planes.proofs.priced_graph.PricedGraph.pad_bounds.Goals as goal

pub with_own-pins-requires-clause-within : goal.with_own-pins-requires-clause-within
with_own-pins-requires-clause-within g c = omega (arith, c.loop-number-test.true, c.numbers_at-numbers.ensures.within)

pub loop-number-preserved : goal.loop-number-preserved
loop-number-preserved g c =
    let basis = g.G.StripGraph.basis c.args.self.now.graph.now in
    let cost = g.C.NodeCosts.costs c.args.self.now.costs.now in
    record {
      few = c.with_own-pins.ensures.few;
      each = λ node from to. elim (cases_lt node c.loop-number.number) [
        | inl before ↦ λ own. low_still (sides_at basis.arch basis.strip ((graph_of basis).node node)) c.with_own-pins.result c.loop-number.pins (cost node) c.with_own-pins.ensures.falls (c.loop-number.invariant.each node from before own)
        | inr on ↦
            (let same : c.loop-number.number ≡ node = omega (arith, to, on) in
            subst (λ k. IsLowFor basis cost c.args.sink c.with_own-pins.result k) same c.with_own-pins.ensures.low)
      ];
    }

pub returns-clause-low : goal.returns-clause-low
returns-clause-low g c = λ node own.
    let range = c.numbers_at-numbers.ensures.all node own.within (own_at (g.G.StripGraph.basis c.args.self.now.graph.now) c.args.sink node own) in
    c.loop-number.invariant.each node range.0 (omega (arith, range.1, c.loop-number-test.false)) own.own
