use Rattle.ble_cluster.proofs.Prelude.{◌≡◌, ℕ, ◌<◌, length, element_at, key_at, own_outside}
use Rattle.ble_cluster.proofs.keys.outside_counts.Given as goal

abbrev pub invariant-loop-number : goal.invariant-loop-number
invariant-loop-number l = record {
  count : length l.keys.items ≡ l.number;
  counted : (number : ℕ) → number < l.number → key_at l.keys.items number ≡ length (own_outside (element_at l.bles number));
}
