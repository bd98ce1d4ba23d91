use Rattle.live_log.proofs.Prelude.{ℕ, List, [], Bor, slice_get-get_or, all_loop_end, all_same, part_loop, part_same, writes_part}
use Rattle.live_log.proofs.WritingSteps.{comment, comments}
use Rattle.live_log.proofs.short_log.write_last.Goals as goal

pub returns-in_err-write_comment : goal.returns-in_err-write_comment
returns-in_err-write_comment g c =
    let none : Bor (List ℕ) = record { ref_ptr = (0, 0); now = [] } in
    writes_part _ c.from_residual.ensures.0
    (part_same (part_loop comment _ c.loop-tag.tag-index _ (slice_get-get_or _ _ none c.loop-tag-test.true) c.loop-tag.invariant c.in_err-write_comment.ensures) (comments c.args.tags.now))

pub returns : goal.returns
returns g c = all_same (all_loop_end comment c.args.tags.now c.loop-tag.tag-index c.loop-tag-test.false c.loop-tag.invariant) (comments c.args.tags.now)
