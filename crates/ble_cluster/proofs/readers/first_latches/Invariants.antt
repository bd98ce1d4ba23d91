use Rattle.ble_cluster.proofs.Prelude.{◌≡◌, take, length, AreLatches}
use Rattle.ble_cluster.proofs.readers.first_latches.Given as goal

-- the first of the latches so far
abbrev pub invariant-loop-latch : goal.invariant-loop-latch
invariant-loop-latch l = record {
  nets : length l.behind.items ≡ l.nets;
  latches : AreLatches (take l.latch-index l.latches) l.behind.items;
}
