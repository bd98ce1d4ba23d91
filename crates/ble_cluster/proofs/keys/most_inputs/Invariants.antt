use Rattle.ble_cluster.proofs.Prelude.{ℕ, ◌<◌, ◌≤◌, input_count_at}
use Rattle.ble_cluster.proofs.keys.most_inputs.Given as goal

abbrev pub invariant-loop-number : goal.invariant-loop-number
invariant-loop-number l = record {
  most : (number : ℕ) → number < l.number → input_count_at l.bles number ≤ l.most;
  few : l.most ≤ 8192;
}
