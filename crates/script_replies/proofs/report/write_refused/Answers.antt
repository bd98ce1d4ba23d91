use Rattle.script_replies.proofs.Prelude.{slice_get-get_or, all_loop, part_loop, writes_part, refused_text}
use Rattle.script_replies.proofs.report.write_refused.Goals as goal

pub returns-in_err-write_if_refused : goal.returns-in_err-write_if_refused
returns-in_err-write_if_refused g c =
    writes_part _ c.from_residual.ensures.0
    (part_loop refused_text c.args.told.now c.loop-line.line-index _ (slice_get-get_or _ _ _ c.loop-line-test.true) c.loop-line.invariant c.in_err-write_if_refused.ensures)

pub loop-line-preserved : goal.loop-line-preserved
loop-line-preserved g c =
    all_loop refused_text c.args.told.now c.loop-line.line-index _ (slice_get-get_or _ _ _ c.loop-line-test.true) c.loop-line.invariant c.in_ok-write_if_refused.ensures
