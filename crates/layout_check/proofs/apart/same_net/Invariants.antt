use Rattle.layout_check.proofs.Prelude.{◌≡◌, ◌≢◌, ◌<◌, ℕ, Some, slice_get, LaidNet}
use Rattle.layout_check.proofs.apart.same_net.Given as goal

abbrev pub invariant-loop-number : goal.invariant-loop-number
invariant-loop-number l = (i j : ℕ) (laid other : LaidNet) → i < j → j < l.number → slice_get l.nets i ≡ Some laid → slice_get l.nets j ≡ Some other → laid.net ≢ other.net
