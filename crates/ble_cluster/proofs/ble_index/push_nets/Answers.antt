use Rattle.ble_cluster.proofs.Prelude.{arith, take_all}
use Rattle.ble_cluster.proofs.ElementLemmas.{all_pushed, last_pushed}
use Rattle.ble_cluster.proofs.ble_index.push_nets.Goals as goal

pub returns-in_ok-push-2 : goal.returns-in_ok-push-2
returns-in_ok-push-2 c =
    let all = take_all c.loop-net.net-index c.args.inputs.now (omega arith) in
    let i = rw all at c.loop-net.invariant in
    rw c.in_ok-push-2.ensures.items (last_pushed _ _ c.args.number c.args.output c.args.inputs.now c.loop-net.reads_own c.requires i.0 i.1 c.if-not-reads_own.true)

pub returns-else-not-reads_own : goal.returns-else-not-reads_own
returns-else-not-reads_own c =
    let all = take_all c.loop-net.net-index c.args.inputs.now (omega arith) in
    let i = rw all at c.loop-net.invariant in
    all_pushed _ _ c.args.number c.args.output c.args.inputs.now c.loop-net.reads_own c.requires i.0 i.1 c.if-not-reads_own.false
