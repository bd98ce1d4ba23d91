use Rattle.pathfinder.proofs.Prelude.{AreRatesBelow}
use Rattle.pathfinder.proofs.rates.rates_of.Given as goal

abbrev pub invariant-loop-node : goal.invariant-loop-node
invariant-loop-node g l = AreRatesBelow (g.G.StripGraph.basis l.graph) l.history l.node l.rates.items
