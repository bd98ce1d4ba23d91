use Rattle.pathfinder.proofs.Prelude.{◌≡◌, ◌≤◌, ◌*◌, ◌^◌, take, cost_of, wiring_of, tabled_graph}
use Rattle.pathfinder.proofs.prices.Prices.cost_of.Given as goal

abbrev pub invariant-loop-place : goal.invariant-loop-place
invariant-loop-place g l = record {
  some : 1 ≤ l.place;
  low : l.cost ≤ l.place * 2 ^ 36;
  sum : l.cost ≡ cost_of (tabled_graph (wiring_of (g.G.StripGraph.basis l.self.round.now.graph.now)) l.self.round.now.iterations l.self.round.now.history.now l.self.held.now) (take l.place l.nodes);
}
