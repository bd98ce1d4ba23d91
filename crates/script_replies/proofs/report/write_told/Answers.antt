use Rattle.script_replies.proofs.Prelude.{slice_get-get_or, all_loop, part_loop, writes_part, told_text}
use Rattle.script_replies.proofs.report.write_told.Goals as goal

pub returns-in_err-write_line : goal.returns-in_err-write_line
returns-in_err-write_line g c =
    writes_part _ c.from_residual.ensures.0
    (part_loop told_text c.args.told.now c.loop-line.line-index _ (slice_get-get_or _ _ _ c.loop-line-test.true) c.loop-line.invariant c.in_err-write_line.ensures)

pub loop-line-preserved : goal.loop-line-preserved
loop-line-preserved g c =
    all_loop told_text c.args.told.now c.loop-line.line-index _ (slice_get-get_or _ _ _ c.loop-line-test.true) c.loop-line.invariant c.in_ok-write_line.ensures
