use Rattle.strip_place.proofs.Prelude.{◌≡◌, ◌*◌, ◌≤◌, take, sum_by, half_of}
use Rattle.strip_place.proofs.boxes.whole_length.Given as goal

abbrev pub invariant-loop-found : goal.invariant-loop-found
invariant-loop-found l = record {
  total : l.total ≡ sum_by half_of (take l.found-index l.boxes);
  small : l.total ≤ 131072 * l.found-index;
}
