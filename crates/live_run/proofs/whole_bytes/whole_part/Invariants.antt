use Rattle.live_run.proofs.Prelude.{◌≡◌, take, whole_bytes}
use Rattle.live_run.proofs.whole_bytes.whole_part.Given as goal

abbrev pub invariant-loop-i : goal.invariant-loop-i
invariant-loop-i l = l.whole ≡ whole_bytes (take l.i l.bytes)
