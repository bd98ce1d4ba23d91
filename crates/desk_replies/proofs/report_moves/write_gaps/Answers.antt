use Rattle.desk_replies.proofs.Prelude.{part_first, writes_part, writes_then}
use Rattle.desk_replies.proofs.report_moves.write_gaps.Goals as goal

pub returns-in_err-write_rooms : goal.returns-in_err-write_rooms
returns-in_err-write_rooms g c = writes_part _ c.from_residual.ensures.0 (part_first _ c.in_err-write_rooms.ensures)

pub returns : goal.returns
returns g c = writes_then c.in_ok-write_rooms.ensures _ _ c.write_widest.result c.write_widest.ensures
