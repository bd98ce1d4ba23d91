use Rattle.desk_replies.proofs.Prelude.{slice_get-get_or, all_loop, part_loop, writes_part, move_line}
use Rattle.desk_replies.proofs.report_moves.write_moves.Goals as goal

pub returns-in_err-write_move : goal.returns-in_err-write_move
returns-in_err-write_move g c =
    writes_part _ c.from_residual.ensures.0
    (part_loop (move_line c.args.tenancies.now) c.args.moves.now c.loop-one.one-index _ (slice_get-get_or _ _ _ c.loop-one-test.true) c.loop-one.invariant c.in_err-write_move.ensures)

pub loop-one-preserved : goal.loop-one-preserved
loop-one-preserved g c =
    all_loop (move_line c.args.tenancies.now) c.args.moves.now c.loop-one.one-index _ (slice_get-get_or _ _ _ c.loop-one-test.true) c.loop-one.invariant c.in_ok-write_move.ensures
