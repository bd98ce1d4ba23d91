use Rattle.one_user.proofs.Prelude.{take, AllZip, IsCrowdedNode}
use Rattle.one_user.proofs.crowding.crowded_nodes_of.Given as goal

abbrev pub invariant-loop-number : goal.invariant-loop-number
invariant-loop-number g l = AllZip (IsCrowdedNode (g.G.StripGraph.basis l.graph) l.routing.trees) (take l.number-index l.numbers) l.nodes.items
