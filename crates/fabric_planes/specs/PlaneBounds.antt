-- Lists of lower bounds of the paths in planes, track by track.
use Rattle.std.specs.Prelude.{◌≡◌, ℕ, ◌<◌, List, length, slice_index}
use Rattle.fabric_planes.specs.Prelude.{Family, IsPlaneBound, IsRivalBound}

-- for each track a lower bound of the paths in its plane
pub record AreBounds (f : Family) (bounds : List ℕ) : Type 0 where
  pub long : length bounds ≡ f.tracks
  pub each : (track : ℕ) → track < f.tracks → IsPlaneBound f track (slice_index bounds track)

-- for each track a lower bound of the paths that come before the known nodes
abbrev pub AreRivals : Family → List ℕ → List ℕ → Type 0
AreRivals f known rivals = (track : ℕ) → track < f.tracks → IsRivalBound f track known (slice_index rivals track)
