use Rattle.ble_cluster.proofs.Prelude.{◌≡◌, filter, not, take, IsKept, has, free_in}
use Rattle.ble_cluster.proofs.free_bles.mark_taken.Given as goal

-- the members so far are no longer free, and all numbers that were taken still are
abbrev pub invariant-loop-number : goal.invariant-loop-number
invariant-loop-number l = record {
  free : free_in l.taken ≡ filter (λ number. not (has (take l.number-index l.members) number)) (free_in l.fn.taken);
  kept : IsKept l.fn.taken l.taken;
}
