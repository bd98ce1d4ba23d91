use Rattle.one_user.proofs.Prelude.{ℕ, ◌≤◌, NoRowsBelow}
use Rattle.one_user.proofs.counts.least_rows.Given as goal

-- there is no room with less
abbrev pub invariant-loop-rows : goal.invariant-loop-rows
invariant-loop-rows l = record { low : 1 ≤ l.rows; below : NoRowsBelow l.counts l.io_rat l.columns l.rows }
