use Rattle.ble_cluster.proofs.Prelude.{AreAbove}
use Rattle.ble_cluster.proofs.first_free.FirstFree.first_from.Given as goal

abbrev pub invariant-loop-number : goal.invariant-loop-number
invariant-loop-number l = AreAbove l.taken l.self.keys.items l.bound l.number
