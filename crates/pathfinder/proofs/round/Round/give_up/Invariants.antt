use Rattle.pathfinder.proofs.Prelude.{◌≡◌, ◌+◌, ℕ, length, take, cond, slice_index, wiring_of, ArePriced, IsTable, holds}
use Rattle.pathfinder.proofs.round.Round.give_up.Given as goal

abbrev pub invariant-loop-number : goal.invariant-loop-number
invariant-loop-number g l = record {
  long : length l.held ≡ length l.fn.held;
  low : IsTable (wiring_of (g.G.StripGraph.basis l.self.graph.now)).count 8192 l.held;
  priced : ArePriced (g.G.StripGraph.basis l.self.graph.now) l.self.iterations l.self.history.now l.held l.table;
  counted : (node : ℕ) → slice_index l.held node + cond (holds node (take l.number l.old)) 1 0 ≡ slice_index l.fn.held node;
}
