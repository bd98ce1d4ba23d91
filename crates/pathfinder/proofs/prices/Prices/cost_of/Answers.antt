use Rattle.pathfinder.proofs.Prelude.{◌∙◌, get_or, take, arith, sym, cost_of, wiring_of, tabled_graph}
use Rattle.pathfinder.proofs.Searches.{price_few}
use Rattle.pathfinder.proofs.Ways.{cost_first, cost_more, cost_step, cost_whole}
use Rattle.pathfinder.proofs.prices.Prices.cost_of.Goals as goal

pub loop-place-init : goal.loop-place-init
loop-place-init g c =
    let round = c.args.self.now.round.now in
    let graph = tabled_graph (wiring_of (g.G.StripGraph.basis round.graph.now)) round.iterations round.history.now c.args.self.now.held.now in
    record { some = omega arith; low = omega arith; sum = sym (cost_first graph c.args.nodes.now) }

pub overflow_add-cost : goal.overflow_add-cost
overflow_add-cost g c =
    let self = c.args.self.now in
    let round = self.round.now in
    let low = price_few (g.G.StripGraph.basis round.graph.now) round.iterations round.history.now self.held.now round.lawful self.table _ c.cost-cost.result (c.requires.within c.loop-place.place 0 c.loop-place-test.true) c.cost-cost.ensures in
    omega (arith, c.loop-place.invariant.low, low, c.requires.few, c.loop-place-test.true)

pub loop-place-preserved : goal.loop-place-preserved
loop-place-preserved g c =
    let round = c.args.self.now.round.now in
    let graph = tabled_graph (wiring_of (g.G.StripGraph.basis round.graph.now)) round.iterations round.history.now c.args.self.now.held.now in
    let low = price_few (g.G.StripGraph.basis round.graph.now) round.iterations round.history.now c.args.self.now.held.now round.lawful c.args.self.now.table _ c.cost-cost.result (c.requires.within c.loop-place.place 0 c.loop-place-test.true) c.cost-cost.ensures in
    let more = cost_more graph c.args.nodes.now c.loop-place.place c.loop-place.invariant.some c.loop-place-test.true in
    record {
      some = omega arith;
      low = omega (arith, c.loop-place.invariant.low, low);
      sum = sym (more ∙ sym (cost_step c.loop-place.cost (cost_of graph (take c.loop-place.place c.args.nodes.now)) c.cost-cost.result (graph.cost (get_or c.args.nodes.now c.loop-place.place 0)) c.loop-place.invariant.sum c.cost-cost.ensures));
    }

pub returns : goal.returns
returns g c =
    let round = c.args.self.now.round.now in
    let graph = tabled_graph (wiring_of (g.G.StripGraph.basis round.graph.now)) round.iterations round.history.now c.args.self.now.held.now in
    c.loop-place.invariant.sum ∙ cost_whole graph c.args.nodes.now c.loop-place.place c.loop-place-test.false
