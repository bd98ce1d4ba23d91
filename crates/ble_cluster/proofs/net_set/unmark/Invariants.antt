use Rattle.ble_cluster.proofs.Marks.{AreLeft}
use Rattle.ble_cluster.proofs.net_set.unmark.Given as goal

abbrev pub invariant-loop-net : goal.invariant-loop-net
invariant-loop-net l = AreLeft l.nets l.net-index l.marks
