use Rattle.one_user.proofs.Prelude.{subst, arith, IsTry}
use Rattle.one_user.proofs.Upward.{unrouted_more}
use Rattle.one_user.proofs.least.least_for.Goals as goal

pub loop-tracks-preserved : goal.loop-tracks-preserved
loop-tracks-preserved g c =
    let stays = subst (IsTry c.args.plan c.args.request c.loop-tracks.tracks) c.in-None.is c.in_ok-try_with.ensures.tried in
    record {
      low = omega (arith, c.loop-tracks.invariant.low);
      high = omega (arith, c.loop-tracks-test.true);
      below = unrouted_more c.args.plan c.args.request c.loop-tracks.tracks stays.0 c.loop-tracks.invariant.below stays.1 stays.2;
    }
