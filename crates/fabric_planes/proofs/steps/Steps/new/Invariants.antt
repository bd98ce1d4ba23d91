use Rattle.fabric_planes.proofs.Prelude.{AreStepsBelow}
use Rattle.fabric_planes.proofs.steps.Steps.new.Given as goal

abbrev pub invariant-loop-place : goal.invariant-loop-place
invariant-loop-place g l = AreStepsBelow (g.G.StripGraph.basis l.wires.shaped.now.graph.now) l.place l.steps
