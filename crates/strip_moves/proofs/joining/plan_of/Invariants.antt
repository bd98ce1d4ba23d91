use Rattle.strip_moves.proofs.Prelude.{◌≡◌, take, IsLaidOut}
use Rattle.strip_moves.proofs.joining.plan_of.Given as goal

-- the plan has the strips so far
abbrev pub invariant-loop-place : goal.invariant-loop-place
invariant-loop-place l = (l.plan ≡ record { columns = l.columns; strips = take l.place l.strips }) × IsLaidOut l.plan
