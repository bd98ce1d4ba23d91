use Rattle.ble_cluster.proofs.Prelude.{arith, ◌∙◌}
use Rattle.ble_cluster.proofs.Within.{table_at_place}
use Rattle.ble_cluster.proofs.LineOrder.{table_added}
use Rattle.ble_cluster.proofs.bles.Bles.push_in_order.Goals as goal

pub latch_after-requires : goal.latch_after-requires
latch_after-requires c = record { are = c.requires; within = (table_at_place c.args.circuit.now.tables c.loop-place.place _ _ (omega arith) c.table-table.ensures c.requires.lawful.tables).output }

pub loop-place-preserved : goal.loop-place-preserved
loop-place-preserved c =
    let circuit = c.args.circuit.now in
    rw (c.in_ok-push_table.ensures, c.in_ok-push_latches.ensures, c.split_at.ensures.front, c.split_at.ensures.back)
    (table_added circuit c.loop-place.self circuit.tables c.loop-place.rest.now c.loop-place.place c.count_above.result _ c.latch_after.result (omega arith) c.table-table.ensures c.latch_after.ensures c.count_above.ensures ∙ c.loop-place.invariant)
