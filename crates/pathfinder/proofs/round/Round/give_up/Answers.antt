use Rattle.pathfinder.proofs.Prelude.{◌≡◌, ◌∙◌, ◌+◌, ◌<◌, ◌≤◌, length, take, arith, cond, subst, slice_index, take_all, All-from_get_or, Tree, wiring_of, holds}
use Rattle.pathfinder.proofs.Adding.{news_held, news_released, news_within}
use Rattle.pathfinder.proofs.InRange.{index_low}
use Rattle.pathfinder.proofs.round.Round.give_up.Goals as goal

pub release-requires : goal.release-requires
release-requires g c =
    let w = wiring_of (g.G.StripGraph.basis c.args.self.now.graph.now) in
    let tree = c.args.old.now in
    let number = c.loop-number.number in
    let here : c.loop-number.number < length c.args.old.now = omega (arith, c.loop-number-test.true, c.len-number-end.ensures) in
    let within = news_within w tree number here c.requires.within in
    let long : length c.loop-number.held ≡ w.count = c.loop-number.invariant.low.long in
    record {
      within = rw (c.news-nodes.ensures.result, long) within;
      some = rw c.news-nodes.ensures.result (news_held tree number here c.news-nodes.ensures.adds c.args.held.now c.loop-number.held c.loop-number.invariant.counted c.requires.some);
    }

pub reprice-requires-clause-held : goal.reprice-requires-clause-held
reprice-requires-clause-held g c = record {
  long = c.release.ensures.len ∙ c.loop-number.invariant.low.long;
  low = All-from_get_or (λ x. x ≤ 8192) c.release.new.held 0 (λ k l. omega (arith, c.release.ensures.counted k, index_low c.loop-number.held 8192 c.loop-number.invariant.low.low k));
}

pub reprice-requires-clause-within : goal.reprice-requires-clause-within
reprice-requires-clause-within g c =
    let here : c.loop-number.number < length c.args.old.now = omega (arith, c.loop-number-test.true, c.len-number-end.ensures) in
    rw c.news-nodes.ensures.result (news_within (wiring_of (g.G.StripGraph.basis c.args.self.now.graph.now)) c.args.old.now c.loop-number.number here c.requires.within)

pub reprice-requires-clause-before : goal.reprice-requires-clause-before
reprice-requires-clause-before g c = (c.loop-number.held, c.loop-number.invariant.priced, λ node none. (let e = c.release.ensures.counted node in omega (arith, e, none)))

pub loop-number-preserved : goal.loop-number-preserved
loop-number-preserved g c =
    let here : c.loop-number.number < length c.args.old.now = omega (arith, c.loop-number-test.true, c.len-number-end.ensures) in
    record {
      long = c.release.ensures.len ∙ c.loop-number.invariant.long;
      low = record {
        long = c.release.ensures.len ∙ c.loop-number.invariant.low.long;
        low = All-from_get_or (λ x. x ≤ 8192) c.release.new.held 0 (λ k l. omega (arith, c.release.ensures.counted k, index_low c.loop-number.held 8192 c.loop-number.invariant.low.low k));
      };
      priced = c.reprice.ensures;
      counted = news_released c.args.old.now c.loop-number.number here c.news-nodes.ensures.adds c.args.held.now c.loop-number.held c.loop-number.invariant.counted c.release.new.held (rw c.news-nodes.ensures.result at c.release.ensures.counted);
    }

pub returns-clause-held : goal.returns-clause-held
returns-clause-held g c = λ node.
    let tree = c.args.old.now in
    let all : take c.loop-number.number tree ≡ tree = take_all c.loop-number.number tree (omega (arith, c.loop-number-test.false, c.len-number-end.ensures)) in
    subst (λ (t : Tree). slice_index c.loop-number.held node + cond (holds node t) 1 0 ≡ slice_index c.args.held.now node) all (c.loop-number.invariant.counted node)
