use Rattle.strip_place.proofs.Prelude.{◌+◌, ◌-◌, ◌*◌, ◌≤◌, AreRenewed}
use Rattle.strip_place.proofs.boxes.renew.Given as goal

abbrev pub invariant-loop-number : goal.invariant-loop-number
invariant-loop-number l = record {
  renewed : AreRenewed l.points l.nets l.touched l.number-index l.initial.boxes l.boxes (131070 * l.number-index - (l.left + l.right + l.bottom + l.top));
  inside : l.left + l.right + l.bottom + l.top ≤ 131070 * l.number-index;
  left : l.left ≤ 65535 * l.number-index;
  right : l.right ≤ 65535 * l.number-index;
  bottom : l.bottom ≤ 65535 * l.number-index;
  top : l.top ≤ 65535 * l.number-index;
}
