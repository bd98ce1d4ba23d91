use Rattle.one_user.proofs.Prelude.{arith, GaveUp, wiring_of}
use Rattle.one_user.proofs.Told.{long_at}
use Rattle.one_user.proofs.crowding.overuses.Goals as goal

pub capacity-requires : goal.capacity-requires
capacity-requires g c = omega (arith, c.loop-node-test.true, c.occupancies-held.ensures.long, long_at (wiring_of (g.G.StripGraph.basis c.args.graph.now)) c.args.routing.now GaveUp c.requires)

pub returns-clause-long : goal.returns-clause-long
returns-clause-long g c =
    omega (arith, c.loop-node.invariant.long, c.loop-node-test.false, c.loop-node.auto.node-end, c.occupancies-held.ensures.long, long_at (wiring_of (g.G.StripGraph.basis c.args.graph.now)) c.args.routing.now GaveUp c.requires)
