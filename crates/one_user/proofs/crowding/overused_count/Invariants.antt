use Rattle.one_user.proofs.Prelude.{◌≡◌, ◌≤◌, count_over, over_of}
use Rattle.one_user.proofs.crowding.overused_count.Given as goal

abbrev pub invariant-loop-node : goal.invariant-loop-node
invariant-loop-node l = record {
  is : l.nodes ≡ count_over (over_of l.overs) l.node;
  small : l.nodes ≤ l.node;
}
