use Rattle.ble_cluster.proofs.Raising.{AreLeft}
use Rattle.ble_cluster.proofs.shared_nets.forget.Given as goal

abbrev pub invariant-loop-number : goal.invariant-loop-number
invariant-loop-number l = AreLeft l.touched l.number-index l.fn.gains l.gains
