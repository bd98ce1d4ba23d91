use Rattle.layout_check.proofs.Prelude.{◌≡◌, ◌<◌, ℕ, false, get_or, is_in}
use Rattle.layout_check.proofs.trees.first_present.Given as goal

abbrev pub invariant-loop-number : goal.invariant-loop-number
invariant-loop-number l = (k : ℕ) → k < l.number-index → is_in l.marks (get_or l.numbers k 0) ≡ false
