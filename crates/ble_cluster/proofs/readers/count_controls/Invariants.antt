use Rattle.ble_cluster.proofs.Prelude.{take, flat_map, option_to_list, CountsOn}
use Rattle.ble_cluster.proofs.readers.count_controls.Given as goal

-- the controls so far are counted
abbrev pub invariant-loop-latch : goal.invariant-loop-latch
invariant-loop-latch l = CountsOn l.fn.counts (flat_map (λ latch. option_to_list latch.control) (take l.latch-index l.latches)) l.counts
