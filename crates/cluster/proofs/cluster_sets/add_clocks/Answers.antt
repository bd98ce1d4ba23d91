use Rattle.cluster.proofs.Prelude.{◌∙◌, arith, length, ◌<◌}
use Rattle.cluster.proofs.NetLists.{clocks_more}
use Rattle.cluster.proofs.cluster_sets.add_clocks.Goals as goal
use Rattle.cluster.proofs.cluster_sets.add_clocks.Goals.{in-Some+in_ok-insert, in_default}

pub loop-member-preserved : goal.loop-member-preserved
loop-member-preserved c =
    let within : c.loop-member.member-index < length c.args.members.now = omega arith in
    elim c.match-ble.branch [
      | in-Some+in_ok-insert w ↦ clocks_more c.args.bles.now c.args.members.now c.loop-member.member-index _ _ c.loop-member.clocks _ _ within c.ble.ensures c.loop-member.invariant (rw w.in-Some.is (w.clocks-is ∙ w.in_ok-insert.ensures.inserted))
      | in_default w ↦ clocks_more c.args.bles.now c.args.members.now c.loop-member.member-index _ _ c.loop-member.clocks _ _ within c.ble.ensures c.loop-member.invariant (rw w.in_default.is w.clocks-is)
    ]
