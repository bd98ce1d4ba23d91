use Rattle.layout_check.proofs.Prelude.{◌≡◌, ◌≢◌, ◌<◌, ℕ, Some, slice_get, LaidBlock}
use Rattle.layout_check.proofs.apart.block_at.Given as goal

abbrev pub invariant-loop-k : goal.invariant-loop-k
invariant-loop-k l = (j : ℕ) (block : LaidBlock) → j < l.k → j < l.end → slice_get l.blocks j ≡ Some block → block.place ≢ l.place
