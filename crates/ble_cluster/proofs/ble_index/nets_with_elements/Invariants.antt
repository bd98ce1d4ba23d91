use Rattle.ble_cluster.proofs.Prelude.{◌≡◌, take, pairs_from}
use Rattle.ble_cluster.proofs.ble_index.nets_with_elements.Given as goal

abbrev pub invariant-loop-number : goal.invariant-loop-number
invariant-loop-number l = l.pairs.items ≡ pairs_from 0 (take l.number l.fn.bles)
