use Rattle.layout_check.proofs.Prelude.{take, IsOnce}
use Rattle.layout_check.proofs.receives.first_repeated.Given as goal

abbrev pub invariant-loop-place : goal.invariant-loop-place
invariant-loop-place l = IsOnce (take l.place l.nets)
