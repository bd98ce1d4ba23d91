use Rattle.ble_cluster.proofs.Prelude.{◌≡◌, length, take, new_inputs_of}
use Rattle.ble_cluster.proofs.growing_cluster.GrowingCluster.new_inputs.Given as goal

abbrev pub invariant-loop-net : goal.invariant-loop-net
invariant-loop-net l = l.count ≡ length (new_inputs_of l.fn.self.reads.nets l.fn.self.drives.nets l.output (take l.net-index l.inputs))
