use Rattle.longest_path.proofs.Starting.{one_more}
use Rattle.longest_path.proofs.reach.starting_reach.Goals as goal

pub loop-net-preserved : goal.loop-net-preserved
loop-net-preserved c = one_more c.args.nets c.args.starts.now c.loop-net.net-index c.loop-net.reach.items c.loop-net-test.true c.requires c.loop-net.invariant
