use Rattle.fabric_planes.proofs.Prelude.{ℕ, ◌<◌, ◌≡◌, slice_index, AreLowered}
use Rattle.fabric_planes.proofs.rival_bounds.clear.Given as goal

abbrev pub invariant-loop-track : goal.invariant-loop-track
invariant-loop-track l = record {
  falls : AreLowered l.fn.bounds l.bounds;
  none : (track : ℕ) → track < l.track → slice_index l.bounds track ≡ 0;
}
