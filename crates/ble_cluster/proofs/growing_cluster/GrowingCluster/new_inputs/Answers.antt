use Rattle.ble_cluster.proofs.Prelude.{arith, length-take, take, length-filter, count_by-le-length, is_new_input}
use Rattle.ble_cluster.proofs.growing_cluster.GrowingCluster.new_inputs.Goals as goal

pub overflow_add-count : goal.overflow_add-count
overflow_add-count c =
    let test = is_new_input c.args.self.now.reads.nets c.args.self.now.drives.nets c.args.output in
    let front = take c.loop-net.net-index c.args.inputs.now in
    omega (arith, c.loop-net.invariant, length-filter test front, count_by-le-length test front, length-take c.loop-net.net-index c.args.inputs.now)
