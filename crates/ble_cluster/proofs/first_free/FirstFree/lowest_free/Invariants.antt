use Rattle.ble_cluster.proofs.Prelude.{◌≡◌, IsFirstFree}
use Rattle.ble_cluster.proofs.FreeNumbers.{AreFrom}
use Rattle.ble_cluster.proofs.first_free.FirstFree.lowest_free.Given as goal

abbrev pub invariant-loop-bound : goal.invariant-loop-bound
invariant-loop-bound l = record {
  keys : l.self.keys.items ≡ l.fn.self.keys.items;
  lawful : IsFirstFree l.taken l.self;
  from : AreFrom l.taken l.fn.self.keys.items l.bound;
}
