use Rattle.ble_cluster.proofs.Prelude.{◌≡◌, ◌++◌, drop, in_line_order}
use Rattle.ble_cluster.proofs.bles.Bles.push_in_order.Given as goal

-- adding the remaining tables and latches results in the old BLEs and those of all tables and
-- latches
abbrev pub invariant-loop-place : goal.invariant-loop-place
invariant-loop-place l = l.self ++ in_line_order l.circuit (drop l.place l.circuit.tables) l.rest ≡ l.fn.self ++ in_line_order l.circuit l.circuit.tables l.fn.latches
