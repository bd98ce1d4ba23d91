use Rattle.ble_cluster.proofs.Prelude.{◌≡◌, ◌++◌, take, has, pairs_with}
use Rattle.ble_cluster.proofs.ble_index.push_nets.Given as goal

abbrev pub invariant-loop-net : goal.invariant-loop-net
invariant-loop-net l =
    (l.pairs.items ≡ l.fn.pairs.items ++ pairs_with l.number (take l.net-index l.inputs))
    × (l.reads_own ≡ has (take l.net-index l.inputs) l.output)
