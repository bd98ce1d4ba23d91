use Rattle.ble_cluster.proofs.Prelude.{arith}
use Rattle.ble_cluster.proofs.Marks.{left_none, left_more, left_all}
use Rattle.ble_cluster.proofs.net_set.unmark.Goals as goal

pub loop-net-init : goal.loop-net-init
loop-net-init c = left_none _ _ c.requires

pub loop-net-preserved : goal.loop-net-preserved
loop-net-preserved c = left_more c.args.nets.now c.loop-net.net-index _ (omega arith) c.loop-net.invariant

pub returns : goal.returns
returns c = left_all c.args.nets.now c.loop-net.net-index _ (omega arith) c.loop-net.invariant
