use Rattle.ble_cluster.proofs.Prelude.{◌≡◌, take, filter, stands_alone}
use Rattle.ble_cluster.proofs.readers.Readers.lone_latches.Given as goal

-- those of the latches so far that are not joined with a table
abbrev pub invariant-loop-latch : goal.invariant-loop-latch
invariant-loop-latch l = l.latches.items ≡ filter (stands_alone l.circuit) (take l.latch-index l.circuit.latches)
