use Rattle.desk_replies.proofs.Prelude.{part_first, writes_part, writes_then}
use Rattle.desk_replies.proofs.page_tool.write_device.Goals as goal

pub returns-in_err-write_size : goal.returns-in_err-write_size
returns-in_err-write_size g c = writes_part _ c.from_residual.ensures.0 (part_first _ c.in_err-write_size.ensures)

pub returns : goal.returns
returns g c = writes_then c.in_ok-write_size.ensures _ _ c.write_size-2.result c.write_size-2.ensures
