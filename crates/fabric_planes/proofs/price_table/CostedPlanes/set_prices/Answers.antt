use Rattle.fabric_planes.proofs.Prelude.{◌+◌, ◌≤◌, length, refl, get_or, arith}
use Rattle.fabric_planes.proofs.Priced.{IsLeft, repriced, repriced_by_place, next_left, none_left, all_told, all_by_place}
use Rattle.fabric_planes.proofs.price_table.CostedPlanes.set_prices.Goals as goal

pub loop-node-preserved : goal.loop-node-preserved
loop-node-preserved g c =
    let cost = g.C.NodeCosts.costs c.args.self.now.costs.now in
    let nodes = c.args.nodes.now in
    let place = c.loop-node.node-index in
    let node = get_or nodes place 0 in
    let old = c.loop-node.prices.items in
    let new = c.set_price.new.prices.items in
    let old_by = c.loop-node.by_place.items in
    let new_by = c.set_price.new.by_place.items in
    record {
      told = repriced c.laws.ensures.basis cost node (IsLeft nodes place) (IsLeft nodes (place + 1)) old new old_by new_by (λ k left. next_left nodes place k node refl left) c.loop-node.invariant.told c.set_price.ensures;
      low = repriced_by_place c.laws.ensures.basis cost node (IsLeft nodes place) (IsLeft nodes (place + 1)) old new old_by new_by (λ k left. next_left nodes place k node refl left) c.loop-node.invariant.low c.set_price.ensures;
    }

pub returns : goal.returns
returns g c =
    let basis = g.G.StripGraph.basis c.args.self.now.strip.graph.now in
    let cost = g.C.NodeCosts.costs c.args.self.now.costs.now in
    let nodes = c.args.nodes.now in
    let place = c.loop-node.node-index in
    let past : length nodes ≤ place = omega (arith, c.loop-node-test.false) in
    record {
      told = all_told basis cost (IsLeft nodes place) c.loop-node.prices.items (λ k left. none_left nodes place k past left) c.loop-node.invariant.told;
      low = all_by_place basis cost (IsLeft nodes place) c.loop-node.by_place.items (λ k within left. none_left nodes place k past left) c.loop-node.invariant.low;
    }
