use Rattle.layout_check.proofs.Prelude.{◌≡◌, ◌<◌, ℕ, None, get_or}
use Rattle.layout_check.proofs.once.first_never.Given as goal

abbrev pub invariant-loop-number : goal.invariant-loop-number
invariant-loop-number l = (k : ℕ) → k < l.number → get_or l.places k None ≡ None → ⊥
