use Rattle.fabric_planes.proofs.Prelude.{refl, arith}
use Rattle.fabric_planes.proofs.AheadWires.{node_there, sink_inside, block_aheads, top_aheads, bottom_aheads}
use Rattle.fabric_planes.proofs.PinsRowed.{sink_column}
use Rattle.fabric_planes.proofs.quest.Quest.aheads.Goals as goal

pub distances-requires : goal.distances-requires
distances-requires g c =
    let inside = sink_inside c.laws.ensures.basis c.args.self.now.sink c.args.self.now.search.terminals.kind (node_there c.laws.ensures.basis c.args.self.now.goal c.args.self.now.search.terminals.goal_within c.args.self.now.sink c.args.self.now.search.terminals.goal_is) in
    record { is_at = refl; x = inside.x; y = omega arith; placed = tt }

pub distances-requires-then-layout-sink : goal.distances-requires-then-layout-sink
distances-requires-then-layout-sink g c =
    let inside = sink_inside c.laws.ensures.basis c.args.self.now.sink c.args.self.now.search.terminals.kind (node_there c.laws.ensures.basis c.args.self.now.goal c.args.self.now.search.terminals.goal_within c.args.self.now.sink c.args.self.now.search.terminals.goal_is) in
    record { is_at = refl; x = inside.x; y = omega (arith, inside.y); placed = tt }

pub distances-requires-else-layout-sink : goal.distances-requires-else-layout-sink
distances-requires-else-layout-sink g c =
    let inside = sink_inside c.laws.ensures.basis c.args.self.now.sink c.args.self.now.search.terminals.kind (node_there c.laws.ensures.basis c.args.self.now.goal c.args.self.now.search.terminals.goal_within c.args.self.now.sink c.args.self.now.search.terminals.goal_is) in
    record { is_at = refl; x = inside.x; y = inside.y; placed = (sink_column c.laws.ensures.basis c.args.self.now.sink c.args.self.now.search.terminals.kind (node_there c.laws.ensures.basis c.args.self.now.goal c.args.self.now.search.terminals.goal_within c.args.self.now.sink c.args.self.now.search.terminals.goal_is), omega (arith, c.if-sink-eq0.false)) }

pub returns-then-sink-eq0 : goal.returns-then-sink-eq0
returns-then-sink-eq0 g c =
    top_aheads (g.G.StripGraph.basis c.args.self.now.priced.now.graph.now) c.laws.ensures.basis c.args.self.now.sink c.distances.result.now c.if-sink-eq0.true c.distances.ensures

pub returns-then-layout-sink : goal.returns-then-layout-sink
returns-then-layout-sink g c =
    bottom_aheads (g.G.StripGraph.basis c.args.self.now.priced.now.graph.now) c.laws.ensures.basis c.args.self.now.sink c.distances-then-layout-sink.result.now (omega (arith, c.if-layout-sink.true, c.args.self.now.priced.now.laid.shape.rows)) c.distances-then-layout-sink.ensures

pub returns-else-layout-sink : goal.returns-else-layout-sink
returns-else-layout-sink g c = block_aheads (g.G.StripGraph.basis c.args.self.now.priced.now.graph.now) c.laws.ensures.basis c.args.self.now.sink c.distances-else-layout-sink.result.now c.distances-else-layout-sink.ensures
