use Rattle.ble_cluster.proofs.Prelude.{take, CountsOn}
use Rattle.ble_cluster.proofs.readers.count_all.Given as goal

-- the nets so far are counted
abbrev pub invariant-loop-net : goal.invariant-loop-net
invariant-loop-net l = CountsOn l.fn.counts (take l.net-index l.nets) l.counts
