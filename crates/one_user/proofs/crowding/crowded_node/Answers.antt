use Rattle.one_user.proofs.Prelude.{arith, GaveUp, wiring_of}
use Rattle.one_user.proofs.Told.{long_at}
use Rattle.one_user.proofs.crowding.crowded_node.Goals as goal

pub bounds-occupancies-number : goal.bounds-occupancies-number
bounds-occupancies-number g c = omega (arith, c.requires.number, c.occupancies.ensures.long, long_at (wiring_of (g.G.StripGraph.basis c.args.graph.now)) c.args.routing.now GaveUp c.requires.after)

pub returns : goal.returns
returns g c = record {
  node = c.node.ensures;
  occupancy = c.occupancies.ensures.each c.args.number (omega (arith, c.requires.number, long_at (wiring_of (g.G.StripGraph.basis c.args.graph.now)) c.args.routing.now GaveUp c.requires.after));
  capacity = c.capacity.ensures;
  nets = c.in_ok-nets.ensures;
}
