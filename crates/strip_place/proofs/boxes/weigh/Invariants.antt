use Rattle.strip_place.proofs.Prelude.{◌≡◌, ◌+◌, ◌*◌, ◌≤◌, take, boxed_length, length_after}
use Rattle.strip_place.proofs.boxes.weigh.Given as goal

abbrev pub invariant-loop-number : goal.invariant-loop-number
invariant-loop-number l = record {
  before : l.left + l.right + l.bottom + l.top + boxed_length l.boxes (take l.number-index l.touched) ≡ 131070 * l.number-index;
  after : l.new_left + l.new_right + l.new_bottom + l.new_top + length_after l.boxes l.from l.to (take l.number-index l.touched) ≡ 131070 * l.number-index;
  left : l.left ≤ 65535 * l.number-index;
  right : l.right ≤ 65535 * l.number-index;
  bottom : l.bottom ≤ 65535 * l.number-index;
  top : l.top ≤ 65535 * l.number-index;
  new_left : l.new_left ≤ 65535 * l.number-index;
  new_right : l.new_right ≤ 65535 * l.number-index;
  new_bottom : l.new_bottom ≤ 65535 * l.number-index;
  new_top : l.new_top ≤ 65535 * l.number-index;
}
