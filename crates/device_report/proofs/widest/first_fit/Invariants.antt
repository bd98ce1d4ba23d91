use Rattle.std.proofs.Common.{ℕ, ◌<◌}
use Rattle.strips.specs.Plan.{FitsAt}
use Rattle.device_report.proofs.widest.first_fit.Given as goal

-- it fits at no offset tried so far
abbrev pub invariant-loop-offset : goal.invariant-loop-offset
invariant-loop-offset l = (lower : ℕ) → lower < l.offset → FitsAt (record { columns = l.columns; strips = l.strips }) l.width lower → ⊥
