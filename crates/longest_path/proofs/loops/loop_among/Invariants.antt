use Rattle.longest_path.proofs.Prelude.{ℕ, ◌≡◌, ◌<◌, false, slice_index_or}
use Rattle.longest_path.proofs.loops.loop_among.Given as goal

-- none of the nets before this one is marked
abbrev pub invariant-loop-net : goal.invariant-loop-net
invariant-loop-net l = (other : ℕ) → other < l.net → slice_index_or l.marks other false ≡ false
