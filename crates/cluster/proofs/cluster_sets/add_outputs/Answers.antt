use Rattle.cluster.proofs.Prelude.{arith}
use Rattle.cluster.proofs.NetLists.{outputs_more}
use Rattle.cluster.proofs.cluster_sets.add_outputs.Goals as goal

pub loop-member-preserved : goal.loop-member-preserved
loop-member-preserved c = outputs_more c.args.bles.now c.args.members.now c.loop-member.member-index _ _ _ _ _ (omega arith) c.ble.ensures c.loop-member.invariant c.in_ok-insert.ensures.inserted
