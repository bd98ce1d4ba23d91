use Rattle.fabric_planes.proofs.BlockInputs.{AreSidesUpTo}
use Rattle.fabric_planes.proofs.input_sides.input_sides.Given as goal

abbrev pub invariant-loop-number : goal.invariant-loop-number
invariant-loop-number g l = AreSidesUpTo (g.G.StripGraph.basis l.graph) l.initial.number l.number l.list.items
