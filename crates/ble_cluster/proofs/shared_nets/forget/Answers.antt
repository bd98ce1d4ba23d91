use Rattle.ble_cluster.proofs.Prelude.{arith}
use Rattle.ble_cluster.proofs.Raising.{left_first, left_next, left_none}
use Rattle.ble_cluster.proofs.shared_nets.forget.Goals as goal

pub loop-number-init : goal.loop-number-init
loop-number-init c = left_first _ _ c.requires

pub loop-number-preserved : goal.loop-number-preserved
loop-number-preserved c = left_next c.args.touched.now c.loop-number.number-index _ _ (omega arith) (c.requires.within c.loop-number.number-index 0 (omega arith)) c.loop-number.invariant

pub returns-clause-none : goal.returns-clause-none
returns-clause-none c = left_none c.args.touched.now c.loop-number.number-index _ _ (omega arith) c.loop-number.invariant
