use Rattle.layout_check.proofs.Prelude.{◌≡◌, ◌<◌, ℕ, get_or}
use Rattle.layout_check.proofs.entry.same_numbers.Given as goal

abbrev pub invariant-loop-i : goal.invariant-loop-i
invariant-loop-i l = (k : ℕ) → k < l.i → get_or l.numbers k 0 ≡ get_or l.others k 0
