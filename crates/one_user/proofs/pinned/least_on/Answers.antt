use Rattle.one_user.proofs.Prelude.{Option, subst, arith, pins_read, IsTryOn, Run}
use Rattle.one_user.proofs.PinnedRuns.{none_tried, one_tried, whole_limit}
use Rattle.one_user.proofs.pinned.least_on.Goals as goal

pub loop-tracks-init : goal.loop-tracks-init
loop-tracks-init g c = record {
  low = c.in_ok-first.ensures.low;
  high = c.in_ok-first.ensures.high;
  below = none_tried c.args.plan c.args.placing.now c.in_ok-first.first c.in_ok-first.ensures;
}

pub loop-tracks-preserved : goal.loop-tracks-preserved
loop-tracks-preserved g c = record {
  low = omega (arith, c.loop-tracks.invariant.low);
  high = omega (arith, c.loop-tracks-test.true);
  below = one_tried c.args.plan c.args.placing.now c.loop-tracks.tracks c.loop-tracks.invariant.below (subst (IsTryOn c.args.plan c.args.placing.now c.loop-tracks.tracks) c.in-None.is c.in_ok-try_on.ensures);
}

pub returns-in-Some : goal.returns-in-Some
returns-in-Some g c =
    (c.args.placing.now, c.requires.placed, subst (IsTryOn c.args.plan c.args.placing.now c.loop-tracks.tracks) c.in-Some.is c.in_ok-try_on.ensures, c.loop-tracks.invariant.below)

pub returns : goal.returns
returns g c = (c.args.placing.now, c.requires.placed, whole_limit c.args.plan c.args.placing.now c.loop-tracks.tracks 65 (omega (arith, c.loop-tracks-test.false)) c.loop-tracks.invariant.below)
