use Rattle.one_user.proofs.Prelude.{◌<◌, IfSome, IsNextMostOverused, over_of}
use Rattle.one_user.proofs.crowding.next_most_overused.Given as goal

abbrev pub invariant-loop-node : goal.invariant-loop-node
invariant-loop-node l = record {
  is_next : IsNextMostOverused (over_of l.overs) l.node l.last l.next;
  within : IfSome l.next (λ next. next < l.node);
}
