use Rattle.ble_cluster.proofs.Prelude.{sym, arith, take, take_more}
use Rattle.ble_cluster.proofs.Counting.{counts_on, counts_on_none}
use Rattle.ble_cluster.proofs.readers.count_all.Goals as goal

pub loop-net-init : goal.loop-net-init
loop-net-init c = counts_on_none _

pub loop-net-preserved : goal.loop-net-preserved
loop-net-preserved c = counts_on _ _ _ (take c.loop-net.net-index c.args.nets.now) _ _ c.loop-net.invariant c.count.ensures (sym (take_more c.args.nets.now c.loop-net.net-index 0 (omega arith)))
