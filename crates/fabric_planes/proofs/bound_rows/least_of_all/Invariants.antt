use Rattle.fabric_planes.proofs.Prelude.{ℕ, ◌<◌, ◌≤◌}
use Rattle.std.proofs.Common.{slice_index}
use Rattle.fabric_planes.proofs.bound_rows.least_of_all.Given as goal

abbrev pub invariant-loop-track : goal.invariant-loop-track
invariant-loop-track l = (l.least ≤ 20000) × ((track : ℕ) → track < l.track → l.least ≤ slice_index l.numbers track)
