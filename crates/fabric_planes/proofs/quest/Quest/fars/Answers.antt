use Rattle.fabric_planes.proofs.Prelude.{ap, refl, subst, arith, Node, Level, Upright, AreFar}
use Rattle.fabric_planes.proofs.AheadWires.{node_there, sink_inside}
use Rattle.fabric_planes.proofs.FarWires.{level_fars, upright_fars}
use Rattle.fabric_planes.proofs.quest.Quest.fars.Goals as goal

pub distances-requires : goal.distances-requires
distances-requires g c =
    let inside = sink_inside c.laws.ensures.basis c.args.self.now.sink c.args.self.now.search.terminals.kind (node_there c.laws.ensures.basis c.args.self.now.goal c.args.self.now.search.terminals.goal_within c.args.self.now.sink c.args.self.now.search.terminals.goal_is) in
    let e = c.wire_beside-wire.ensures in
    record { is_at = refl; x = omega (arith, ap (λ (v : Node). v.x) e, inside.x); y = omega (arith, ap (λ (v : Node). v.y) e, inside.y); placed = tt }

pub distances-requires-2 : goal.distances-requires-2
distances-requires-2 g c =
    let inside = sink_inside c.laws.ensures.basis c.args.self.now.sink c.args.self.now.search.terminals.kind (node_there c.laws.ensures.basis c.args.self.now.goal c.args.self.now.search.terminals.goal_within c.args.self.now.sink c.args.self.now.search.terminals.goal_is) in
    let e = c.wire_beside-wire.ensures in
    record { is_at = refl; x = omega (arith, ap (λ (v : Node). v.x) e, inside.x); y = omega (arith, ap (λ (v : Node). v.y) e, inside.y); placed = tt }

pub returns-then-side-lt2 : goal.returns-then-side-lt2
returns-then-side-lt2 g c =
    let basis = g.G.StripGraph.basis c.args.self.now.priced.now.graph.now in
    level_fars basis c.args.self.now.sink c.args.side.number c.distances.result.now c.if-side-lt2.true (subst (λ (v : Node). AreFar basis Level v.x v.y c.distances.result.now) c.wire_beside-wire.ensures c.distances.ensures)

pub returns : goal.returns
returns g c =
    let basis = g.G.StripGraph.basis c.args.self.now.priced.now.graph.now in
    upright_fars basis c.args.self.now.sink c.args.side.number c.distances-2.result.now c.if-side-lt2.false (subst (λ (v : Node). AreFar basis Upright v.x v.y c.distances-2.result.now) c.wire_beside-wire.ensures c.distances-2.ensures)
