use Rattle.one_user.proofs.Prelude.{ℕ, ◌≡◌, ◌<◌, length, slice_index, overuse_at, wiring_of}
use Rattle.one_user.proofs.crowding.overuses.Given as goal

abbrev pub invariant-loop-node : goal.invariant-loop-node
invariant-loop-node g l = record {
  long : length l.overs.items ≡ l.node;
  each : (number : ℕ) → number < l.node → slice_index l.overs.items number ≡ overuse_at (wiring_of (g.G.StripGraph.basis l.graph)) l.routing.trees number;
}
