use Rattle.longest_path.proofs.Prelude.{ℕ, ◌≡◌, ◌<◌, slice_index_or}
use Rattle.longest_path.proofs.loops.place_of.Given as goal

-- the net is at none of the places before this one
abbrev pub invariant-loop-place : goal.invariant-loop-place
invariant-loop-place l = (k : ℕ) → k < l.place → slice_index_or l.nets k 0 ≡ l.net → ⊥
