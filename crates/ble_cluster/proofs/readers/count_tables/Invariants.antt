use Rattle.ble_cluster.proofs.Prelude.{take, flat_map, CountsOn}
use Rattle.ble_cluster.proofs.readers.count_tables.Given as goal

-- the tables so far are counted
abbrev pub invariant-loop-place : goal.invariant-loop-place
invariant-loop-place l = CountsOn l.fn.counts (flat_map (λ table. table.inputs) (take l.place l.tables)) l.counts
