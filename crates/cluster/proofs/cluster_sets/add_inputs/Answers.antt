use Rattle.cluster.proofs.Prelude.{arith}
use Rattle.cluster.proofs.NetLists.{inputs_more}
use Rattle.cluster.proofs.cluster_sets.add_inputs.Goals as goal

pub loop-member-preserved : goal.loop-member-preserved
loop-member-preserved c = inputs_more c.args.bles.now c.args.outputs.now.nets c.args.members.now c.loop-member.member-index _ _ _ _ _ (omega arith) c.ble.ensures c.loop-member.invariant c.in_ok-insert_others.ensures
