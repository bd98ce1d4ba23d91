use Rattle.layout_check.proofs.Prelude.{◌≡◌, ◌≢◌, ◌<◌, ℕ, Some, slice_get, LaidNet}
use Rattle.layout_check.proofs.apart.entry_of.Given as goal

abbrev pub invariant-loop-k : goal.invariant-loop-k
invariant-loop-k l = (j : ℕ) (laid : LaidNet) → j < l.k → j < l.end → slice_get l.nets j ≡ Some laid → laid.net ≢ l.net
