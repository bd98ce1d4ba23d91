use Rattle.std.proofs.Common.{ℕ, ◌+◌, ◌<◌}
use Rattle.device_report.specs.Widest.{IsAdmittedAt}
use Rattle.device_report.proofs.widest.widest_strip.Given as goal

-- no wider strip is admitted
abbrev pub invariant-loop-missing : goal.invariant-loop-missing
invariant-loop-missing l = (width offset : ℕ) → l.columns < width + l.missing → IsAdmittedAt (record { columns = l.columns; strips = l.strips }) width offset → ⊥
