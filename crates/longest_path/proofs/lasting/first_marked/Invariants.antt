use Rattle.longest_path.proofs.Prelude.{ℕ, ◌≡◌, ◌<◌, false, slice_index_or}
use Rattle.longest_path.proofs.lasting.first_marked.Given as goal

-- none of the nets before this one is marked
abbrev pub invariant-loop-net : goal.invariant-loop-net
invariant-loop-net l = (k : ℕ) → k < l.net-index → slice_index_or l.marks (slice_index_or l.nets k 0) false ≡ false
