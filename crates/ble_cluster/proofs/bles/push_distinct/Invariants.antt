use Rattle.ble_cluster.proofs.Prelude.{◌≡◌, ◌++◌, take, distinct_nets}
use Rattle.ble_cluster.proofs.bles.push_distinct.Given as goal

-- the distinct nets so far are appended to the old inputs
abbrev pub invariant-loop-net : goal.invariant-loop-net
invariant-loop-net l = l.inputs.items ≡ l.fn.inputs.items ++ distinct_nets (take l.net-index l.nets)
