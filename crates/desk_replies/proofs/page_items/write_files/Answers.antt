use Rattle.desk_replies.proofs.Prelude.{part_first, part_then, writes_part, writes_then}
use Rattle.desk_replies.proofs.page_items.write_files.Goals as goal

pub returns-in_err-write_present : goal.returns-in_err-write_present
returns-in_err-write_present g c = writes_part _ c.from_residual.ensures.0 (part_first _ c.in_err-write_present.ensures)

pub returns-in_err-write_present-2 : goal.returns-in_err-write_present-2
returns-in_err-write_present-2 g c =
    writes_part _ c.from_residual-in_err-write_present-2.ensures.0
    (part_then c.in_ok-write_present.ensures (part_first _ c.in_err-write_present-2.ensures))

pub returns : goal.returns
returns g c =
    writes_then c.in_ok-write_present.ensures _ _ c.write_present-3.result
    (writes_then c.in_ok-write_present-2.ensures _ _ c.write_present-3.result c.write_present-3.ensures)
