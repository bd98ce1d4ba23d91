use Rattle.ble_cluster.proofs.Prelude.{arith, common_steps}
use Rattle.ble_cluster.proofs.Counting.{latches_free, latches_taken}
use Rattle.ble_cluster.proofs.readers.first_latches.Goals as goal
use Rattle.ble_cluster.proofs.readers.first_latches.Goals.{then-is_none, else-is_none}

pub loop-latch-preserved : goal.loop-latch-preserved
loop-latch-preserved c =
    let latches = c.args.latches.now in
    let behind = c.loop-latch.behind.items in
    let i = c.loop-latch.latch-index in
    elim c.if-is_none.branch [
      | then-is_none w ↦ rw w.behind-is (record {
        nets = grind (arith, common_steps);
        latches = latches_free latches behind i _ c.index.result.now c.is_none.result (omega arith) (rw c.loop-latch.invariant.nets (c.requires i _ (omega arith)).input) c.index.ensures c.is_none.ensures w.if-is_none.true c.loop-latch.invariant.latches;
      })
      | else-is_none w ↦ rw w.behind-is (record {
        nets = c.loop-latch.invariant.nets;
        latches = latches_taken latches behind i _ c.index.result.now c.is_none.result (omega arith) (rw c.loop-latch.invariant.nets (c.requires i _ (omega arith)).input) c.index.ensures c.is_none.ensures w.if-is_none.false c.loop-latch.invariant.latches;
      })
    ]
