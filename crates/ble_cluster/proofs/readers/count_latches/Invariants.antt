use Rattle.ble_cluster.proofs.Prelude.{take, map, CountsOn}
use Rattle.ble_cluster.proofs.readers.count_latches.Given as goal

-- the latches so far are counted
abbrev pub invariant-loop-latch : goal.invariant-loop-latch
invariant-loop-latch l = CountsOn l.fn.counts (map (λ latch. latch.input) (take l.latch-index l.latches)) l.counts
