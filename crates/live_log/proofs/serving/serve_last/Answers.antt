use Rattle.live_log.proofs.Prelude.{ℕ, ◌+◌, List, [], Bor, ap, drop, drop_of_length-le, map, arith, slice_get-get_or, texts, last_line}
use Rattle.live_log.proofs.AlikeSteps.{drop_place}
use Rattle.live_log.proofs.ServingSteps.{leads_all, leads_line}
use Rattle.live_log.proofs.serving.serve_last.Goals as goal

pub loop-tag-preserved : goal.loop-tag-preserved
loop-tag-preserved g c =
    let none : Bor (List ℕ) = record { ref_ptr = (0, 0); now = [] } in
    let served = c.in_ok-serve_comment.ensures.served in
    record {
      ready = c.in_ok-serve_comment.ensures.ready;
      counted = omega (arith, c.loop-tag.invariant.counted);
      served = leads_line c.loop-tag.service c.serve_comment.new.service c.loop-tag.number (map last_line (texts (drop c.loop-tag.tag-index c.args.tags.now))) _ served.0 (map last_line (texts (drop (c.loop-tag.tag-index + 1) c.args.tags.now)))
          c.loop-tag.invariant.served (ap (λ tags. map last_line (texts tags)) (drop_place c.args.tags.now c.loop-tag.tag-index _ (slice_get-get_or _ _ none c.loop-tag-test.true))) served.1;
    }

pub returns-clause-served : goal.returns-clause-served
returns-clause-served g c = leads_all c.loop-tag.service c.loop-tag.number _ c.loop-tag.invariant.served (ap (λ tags. map last_line (texts tags)) (drop_of_length-le c.args.tags.now c.loop-tag-test.false))
