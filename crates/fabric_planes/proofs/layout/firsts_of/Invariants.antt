use Rattle.fabric_planes.proofs.Prelude.{AreFirstsBelow}
use Rattle.fabric_planes.proofs.layout.firsts_of.Given as goal

abbrev pub invariant-loop-number : goal.invariant-loop-number
invariant-loop-number g l = AreFirstsBelow (g.G.StripGraph.basis l.shaped.graph.now) l.number l.firsts.items
