use Rattle.ble_cluster.proofs.Prelude.{◌≡◌, length, arith, rules}
use Rattle.ble_cluster.proofs.FirstSights.{distinct_new, distinct_old}
use Rattle.ble_cluster.proofs.bles.push_distinct.Goals as goal
use Rattle.ble_cluster.proofs.bles.push_distinct.Goals.{then-not-contains+in_ok-push, else-not-contains}

pub loop-net-preserved : goal.loop-net-preserved
loop-net-preserved c =
    let test = rw c.deref.ensures.value at c.contains.ensures.value in
    let starts : c.len-start.result ≡ length c.args.inputs.now.items = search rules in
    elim c.if-not-contains.branch [
      | then-not-contains+in_ok-push w ↦ rw (w.inputs-is, w.in_ok-push.ensures.items) (distinct_new c.args.inputs.now.items c.loop-net.inputs.items c.args.nets.now c.len-start.result c.loop-net.net-index 0 c.contains.result (omega arith) starts c.loop-net.invariant test w.if-not-contains.true)
      | else-not-contains w ↦ rw w.inputs-is (distinct_old c.args.inputs.now.items c.loop-net.inputs.items c.args.nets.now c.len-start.result c.loop-net.net-index 0 c.contains.result (omega arith) starts c.loop-net.invariant test w.if-not-contains.false)
    ]
