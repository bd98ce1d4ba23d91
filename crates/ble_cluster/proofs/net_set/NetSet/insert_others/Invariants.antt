use Rattle.ble_cluster.proofs.Prelude.{◌≡◌, drop, not, has, with_nets}
use Rattle.std.specs.List.{filter}
use Rattle.ble_cluster.proofs.net_set.NetSet.insert_others.Given as goal

abbrev pub invariant-loop-net : goal.invariant-loop-net
invariant-loop-net l =
    (l.self.count ≡ l.fn.self.count) × (with_nets l.self.nets (filter (λ net. not (has l.known.nets net)) (drop l.net-index l.nets)) ≡ with_nets l.fn.self.nets (filter (λ net. not (has l.known.nets net)) l.nets))
