use Rattle.live_log.proofs.Prelude.{ℕ, List, [], Bor, slice_get-get_or}
use Rattle.live_log.proofs.LastSteps.{newest_more}
use Rattle.live_log.proofs.last_tags.newest_of.Goals as goal

pub loop-tag-preserved : goal.loop-tag-preserved
loop-tag-preserved c =
    let none : Bor (List ℕ) = record { ref_ptr = (0, 0); now = [] } in
    newest_more c.args.tags.now c.loop-tag.tag-index _ _ _ _ _ _ (slice_get-get_or _ _ none c.loop-tag-test.true) c.loop-tag.invariant c.in_ok-add_newest.ensures.found c.in_ok-add_newest.ensures.owners
