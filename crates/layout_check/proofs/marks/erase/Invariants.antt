use Rattle.layout_check.proofs.Prelude.{◌≡◌, ℕ, ◌<◌, get_or}
use Rattle.layout_check.proofs.marks.erase.Given as goal

abbrev pub invariant-loop-number : goal.invariant-loop-number
invariant-loop-number l = (k : ℕ) → k < l.number-index → get_or l.number-items k 0 ≡ 0
