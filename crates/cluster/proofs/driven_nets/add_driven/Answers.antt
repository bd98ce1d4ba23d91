use Rattle.cluster.proofs.Prelude.{◌∙◌, ◌<◌, arith, length, sym}
use Rattle.cluster.proofs.DrivenNets.{driven_leaves, driven_stays, net_made}
use Rattle.cluster.proofs.driven_nets.add_driven.Goals as goal
use Rattle.cluster.proofs.driven_nets.add_driven.Goals.{then-leaves+in_ok-push, else-leaves}

pub loop-member-preserved : goal.loop-member-preserved
loop-member-preserved c =
    let within : c.loop-member.member-index < length c.args.members.now = omega arith in
    elim c.if-leaves.branch [
      | then-leaves+in_ok-push w ↦ driven_leaves c.args.uses.now c.args.driver c.args.bles.now c.args.members.now c.loop-member.member-index _ _ c.loop-member.nets c.if-leaves.nets within c.ble-net.ensures (sym c.leaves.ensures ∙ w.if-leaves.true) c.loop-member.invariant
          (w.nets-is ∙ net_made c.args.uses.now c.args.driver _ w.readers.result.now w.is_global.result c.loop-member.nets w.push.new.self w.readers.ensures w.is_global.ensures w.in_ok-push.ensures)
      | else-leaves w ↦ driven_stays c.args.uses.now c.args.driver c.args.bles.now c.args.members.now c.loop-member.member-index _ _ c.loop-member.nets c.if-leaves.nets within c.ble-net.ensures (sym c.leaves.ensures ∙ w.if-leaves.false) c.loop-member.invariant w.nets-is
    ]
