use Rattle.layout_check.proofs.Prelude.{ℕ, length, not, cond, ◌+◌, count_by}
use Rattle.layout_check.proofs.Hops.{IsUnderWay}
use Rattle.layout_check.proofs.trees.reach.Given as goal

abbrev pub invariant-loop-has_grown : goal.invariant-loop-has_grown
invariant-loop-has_grown l = IsUnderWay l.hops l.root (length l.initial.reached) l.reached l.has_grown

abbrev pub decreases-loop-has_grown : goal.decreases-loop-has_grown
decreases-loop-has_grown l = cond {A = ℕ} l.has_grown (count_by not l.reached + 1) 0
