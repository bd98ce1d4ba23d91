use Rattle.ble_cluster.proofs.Prelude.{◌≡◌, take, with_nets, IsRoomFor, IsTold}
use Rattle.ble_cluster.proofs.growing_cluster.GrowingCluster.read_all.Given as goal

abbrev pub invariant-loop-net : goal.invariant-loop-net
invariant-loop-net l =
    (l.self ≡ record l.fn.self { gains = l.self.gains; reads = record { count = l.fn.self.reads.count; nets = with_nets l.fn.self.reads.nets (take l.net-index l.nets) } })
    × IsRoomFor l.fn.elements l.self
    × IsTold l.fn.elements.elements l.self
