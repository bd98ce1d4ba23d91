use Rattle.pathfinder.proofs.Prelude.{◌≡◌, ◌≤◌, count_over, over_in}
use Rattle.pathfinder.proofs.overuse.Counts.overused_count.Given as goal

abbrev pub invariant-loop-node : goal.invariant-loop-node
invariant-loop-node g l = record {
  is : l.nodes ≡ count_over (over_in (g.G.StripGraph.basis l.graph) l.held) l.node;
  small : l.nodes ≤ l.node;
}
