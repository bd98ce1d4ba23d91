use Rattle.desk_replies.proofs.Prelude.{part_first, writes_part, writes_then}
use Rattle.desk_replies.proofs.tenancy_table.write_row.Goals as goal

pub returns-in_err-write_fields : goal.returns-in_err-write_fields
returns-in_err-write_fields g c = writes_part _ c.from_residual.ensures.0 (part_first _ c.in_err-write_fields.ensures)

pub returns : goal.returns
returns g c = writes_then c.in_ok-write_fields.ensures _ _ c.end_line.result c.end_line.ensures
