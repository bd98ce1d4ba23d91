use Rattle.layout_check.proofs.Prelude.{◌≡◌, ◌≢◌, ◌<◌, ℕ, Some, slice_get, LaidBlock}
use Rattle.layout_check.proofs.apart.same_place.Given as goal

abbrev pub invariant-loop-number : goal.invariant-loop-number
invariant-loop-number l =
    (i j : ℕ) (laid other : LaidBlock) → i < j → j < l.number → slice_get l.blocks i ≡ Some laid → slice_get l.blocks j ≡ Some other → laid.place ≢ other.place
