use Rattle.one_user.proofs.Prelude.{◌≡◌, length, over_of}
use Rattle.one_user.proofs.Crowdings.{AreFirst}
use Rattle.one_user.proofs.crowding.most_overused.Given as goal

abbrev pub invariant-loop-told : goal.invariant-loop-told
invariant-loop-told l = record {
  first : AreFirst (over_of l.overs) (length l.overs) l.last l.nodes.items;
  many : length l.nodes.items ≡ l._told;
}
