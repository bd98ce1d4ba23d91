use Rattle.desk_replies.proofs.Prelude.{codes, slice_get-get_or, all_loop, part_loop, writes_part, room_line}
use Rattle.desk_replies.proofs.report_moves.write_rooms.Goals as goal

pub returns-in_err-write_room : goal.returns-in_err-write_room
returns-in_err-write_room g c =
    writes_part _ c.from_residual.ensures.0
    (part_loop (room_line (codes "gap")) c.args.gaps.now c.loop-gap.gap-index _ (slice_get-get_or _ _ _ c.loop-gap-test.true) c.loop-gap.invariant c.in_err-write_room.ensures)

pub loop-gap-preserved : goal.loop-gap-preserved
loop-gap-preserved g c =
    all_loop (room_line (codes "gap")) c.args.gaps.now c.loop-gap.gap-index _ (slice_get-get_or _ _ _ c.loop-gap-test.true) c.loop-gap.invariant c.in_ok-write_room.ensures
