use Rattle.ble_cluster.proofs.Prelude.{◌≡◌, take, length, AreDriven}
use Rattle.ble_cluster.proofs.readers.mark_driven.Given as goal

-- the outputs of the tables so far are marked
abbrev pub invariant-loop-place : goal.invariant-loop-place
invariant-loop-place l = record {
  nets : length l.is_driven.items ≡ l.nets;
  driven : AreDriven (take l.place l.tables) l.is_driven.items;
}
