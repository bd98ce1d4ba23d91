use Rattle.one_user.proofs.Prelude.{ℕ, ◌≤◌, NoColumnsBelow}
use Rattle.one_user.proofs.counts.least_columns.Given as goal

-- there is no room with less
abbrev pub invariant-loop-columns : goal.invariant-loop-columns
invariant-loop-columns l = record { low : 1 ≤ l.columns; below : NoColumnsBelow l.counts l.io_rat l.rows l.columns }
