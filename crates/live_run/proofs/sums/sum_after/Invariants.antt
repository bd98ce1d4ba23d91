use Rattle.live_run.proofs.Prelude.{◌≡◌, take, sum_after}
use Rattle.live_run.proofs.sums.sum_after.Given as goal

-- the sum of the bytes so far
abbrev pub invariant-loop-byte : goal.invariant-loop-byte
invariant-loop-byte l = l.sum ≡ sum_after l.before (take l.byte-index l.bytes)
