use Rattle.ble_cluster.proofs.Prelude.{◌≡◌, ◌++◌, take, map, element_of_latch}
use Rattle.ble_cluster.proofs.bles.Bles.push_latches.Given as goal

-- the latches so far are appended to the old BLEs
abbrev pub invariant-loop-latch : goal.invariant-loop-latch
invariant-loop-latch l = l.self ≡ l.fn.self ++ map element_of_latch (take l.latch-index l.latches)
