use Rattle.layout_check.proofs.Prelude.{arith, sym, take, take_more}
use Rattle.layout_check.proofs.ReadCounts.{counts_on}
use Rattle.layout_check.proofs.reads.count_all.Goals as goal

pub loop-net-preserved : goal.loop-net-preserved
loop-net-preserved c = counts_on _ _ _ (take c.loop-net.net-index c.args.nets.now) _ _ c.loop-net.invariant c.count.ensures (sym (take_more c.args.nets.now c.loop-net.net-index 0 (omega arith)))
