use Rattle.layout_check.proofs.Prelude.{◌≡◌, ◌<◌, ℕ, Some, slice_get, LaidNet}
use Rattle.layout_check.proofs.wanted.net_limit.Given as goal

abbrev pub invariant-loop-laid : goal.invariant-loop-laid
invariant-loop-laid l = (k : ℕ) (laid : LaidNet) → k < l.laid-index → slice_get l.nets k ≡ Some laid → laid.net < l.limit
