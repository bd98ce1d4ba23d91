use Rattle.pathfinder.proofs.Prelude.{◌≡◌, ◌+◌, ℕ, length, take, times_in}
use Rattle.std.specs.Prelude.{slice_index}
use Rattle.pathfinder.proofs.occupancy.release.Given as goal

abbrev pub invariant-loop-node : goal.invariant-loop-node
invariant-loop-node l = (length l.held ≡ length l.fn.held) × ((node : ℕ) → slice_index l.held node + times_in node (take l.node-index l.nodes) ≡ slice_index l.fn.held node)
