use Rattle.layout_check.proofs.Prelude.{◌≡◌, ◌<◌, ℕ, Some, slice_get, true, option_map_or, Latch, has}
use Rattle.layout_check.proofs.globals.first_left_out.Given as goal

abbrev pub invariant-loop-k : goal.invariant-loop-k
invariant-loop-k l = (j : ℕ) (latch : Latch) → j < l.k → slice_get l.latches j ≡ Some latch → option_map_or (has l.globals) latch.control true ≡ true
