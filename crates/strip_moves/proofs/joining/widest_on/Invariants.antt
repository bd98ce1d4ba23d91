use Rattle.strip_moves.proofs.Prelude.{ℕ, ◌+◌, ◌<◌, IsAdmittedAt}
use Rattle.strip_moves.proofs.joining.widest_on.Given as goal

-- no wider strip is admitted
abbrev pub invariant-loop-missing : goal.invariant-loop-missing
invariant-loop-missing l = (width offset : ℕ) → l.columns < width + l.missing → IsAdmittedAt l.plan width offset → ⊥
