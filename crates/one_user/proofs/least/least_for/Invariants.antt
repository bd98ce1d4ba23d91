use Rattle.one_user.proofs.Prelude.{◌+◌, ◌≤◌, MAX_TRACKS, AreUnroutedBelow}
use Rattle.one_user.proofs.least.least_for.Given as goal

abbrev pub invariant-loop-tracks : goal.invariant-loop-tracks
invariant-loop-tracks g l = record {
  low : 1 ≤ l.tracks;
  high : l.tracks ≤ MAX_TRACKS + 1;
  below : AreUnroutedBelow l.plan l.request l.tracks;
}
