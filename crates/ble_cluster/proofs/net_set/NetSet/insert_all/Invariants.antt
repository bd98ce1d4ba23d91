use Rattle.ble_cluster.proofs.Prelude.{◌≡◌, drop, with_nets}
use Rattle.ble_cluster.proofs.net_set.NetSet.insert_all.Given as goal

abbrev pub invariant-loop-net : goal.invariant-loop-net
invariant-loop-net l =
    (l.self.count ≡ l.fn.self.count) × (with_nets l.self.nets (drop l.net-index l.nets) ≡ with_nets l.fn.self.nets l.nets)
