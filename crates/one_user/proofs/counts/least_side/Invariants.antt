use Rattle.one_user.proofs.Prelude.{ℕ, ◌≤◌, NoSquareBelow}
use Rattle.one_user.proofs.counts.least_side.Given as goal

-- there is no room with less
abbrev pub invariant-loop-side : goal.invariant-loop-side
invariant-loop-side l = record { low : 1 ≤ l.side; below : NoSquareBelow l.counts l.io_rat l.side }
