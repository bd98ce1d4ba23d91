use Rattle.ble_cluster.proofs.Prelude.{◌≡◌, ◌+◌, ℕ, ◌<◌, length, input_count_at, key_at}
use Rattle.ble_cluster.proofs.keys.lacks.Given as goal

abbrev pub invariant-loop-number : goal.invariant-loop-number
invariant-loop-number l = record {
  count : length l.keys.items ≡ l.number;
  sum : (number : ℕ) → number < l.number → key_at l.keys.items number + input_count_at l.bles number ≡ l.most;
}
