use Rattle.one_user.proofs.Prelude.{◌+◌, ◌≤◌, MAX_TRACKS, AreTooFewBelow}
use Rattle.one_user.proofs.pinned.least_on.Given as goal

abbrev pub invariant-loop-tracks : goal.invariant-loop-tracks
invariant-loop-tracks g l = record {
  low : 1 ≤ l.tracks;
  high : l.tracks ≤ MAX_TRACKS + 1;
  below : AreTooFewBelow l.plan l.placing l.tracks;
}
