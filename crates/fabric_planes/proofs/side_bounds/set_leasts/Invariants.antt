use Rattle.fabric_planes.proofs.Prelude.{◌≡◌, ◌+◌, ◌*◌, ◌<◌, ◌≤◌, ℕ, length, slice_index}
use Rattle.fabric_planes.proofs.side_bounds.set_leasts.Given as goal

abbrev pub invariant-loop-track : goal.invariant-loop-track
invariant-loop-track l = record {
  long : length l.leasts ≡ l.tracks;
  low : (side k : ℕ) → side < 4 → k < l.track → slice_index l.leasts k ≤ slice_index l.lasts (side * l.tracks + k);
}
