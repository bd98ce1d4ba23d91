use Rattle.plane_search.proofs.Prelude.{arith, ap, length}
use Rattle.plane_search.proofs.Members.{numbered_more}
use Rattle.plane_search.proofs.search.number_nodes.Goals as goal

pub loop-node-preserved : goal.loop-node-preserved
loop-node-preserved g c =
    numbered_more ((g.P.Planes.family c.args.view.now.planes.now).number c.args.view.now.track) c.args.nodes.now.items c.loop-node.node-items c.loop-node.node-index c.number.result
    (omega (arith, c.loop-node-test.true, ap length c.deref_mut-node-items.ensures.value)) c.loop-node.invariant c.number.ensures
