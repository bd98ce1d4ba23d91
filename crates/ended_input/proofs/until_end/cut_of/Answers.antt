use Rattle.std.proofs.Common.{arith}
use Rattle.ended_input.proofs.UntilEndLemmas.{cuts_next_place, seen_held}
use Rattle.ended_input.proofs.until_end.cut_of.Goals as goal

pub loop-place-preserved : goal.loop-place-preserved
loop-place-preserved c = record {
  within = omega (arith, c.loop-place-test.true);
  cuts = cuts_next_place _ _ _ _ c.loop-place-test.true c.in-Other.ensures c.loop-place.invariant.cuts;
}

pub returns-in-Beginning : goal.returns-in-Beginning
returns-in-Beginning c =
    rw (c.holding.ensures.given, c.holding.ensures.over, c.holding.ensures.start)
    (seen_held _ _ _ _ _ c.loop-place-test.true c.holding.ensures.held c.in-Beginning.ensures c.loop-place.invariant.cuts)
