use Rattle.pathfinder.proofs.Prelude.{◌≡◌, ◌≤◌, ◌<◌, ◌+◌, ◌-◌, ℕ, length, slice_index_or, NodeCost}
use Rattle.std.specs.Prelude.{slice_index}
use Rattle.pathfinder.proofs.settle.accumulated_overuse.Given as goal

abbrev pub invariant-loop-node : goal.invariant-loop-node
invariant-loop-node l = record {
  long : length l.history.items ≡ length l.fn.history.items;
  done : (node : ℕ) (d : NodeCost) → node < l.node → slice_index l.history.items node ≡ slice_index l.fn.history.items node + (slice_index l.held node - (slice_index_or l.rates node d).capacity);
  same : (node : ℕ) → l.node ≤ node → slice_index l.history.items node ≡ slice_index l.fn.history.items node;
}
