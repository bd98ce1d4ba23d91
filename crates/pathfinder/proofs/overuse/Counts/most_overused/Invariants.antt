use Rattle.pathfinder.proofs.Prelude.{◌≡◌, IsMost, over_at, over_in}
use Rattle.pathfinder.proofs.overuse.Counts.most_overused.Given as goal

abbrev pub invariant-loop-node : goal.invariant-loop-node
invariant-loop-node g l = record {
  is_most : IsMost (over_in (g.G.StripGraph.basis l.graph) l.held) l.node l.most;
  by : l.by ≡ over_at (over_in (g.G.StripGraph.basis l.graph) l.held) l.most;
}
