use Rattle.page.proofs.Prelude.{part_first, part_then, writes_part, writes_then}
use Rattle.page.proofs.page.write_item.Goals as goal

pub returns-in_err-write_start : goal.returns-in_err-write_start
returns-in_err-write_start g c =
    writes_part _ c.from_residual.ensures.0 (part_first _ c.in_err-write_start.ensures)

pub returns-in_err-write_shown : goal.returns-in_err-write_shown
returns-in_err-write_shown g c =
    writes_part _ c.from_residual-in_err-write_shown.ensures.0
    (part_then c.in_ok-write_start.ensures (part_first _ c.in_err-write_shown.ensures))

pub returns : goal.returns
returns g c =
    writes_then c.in_ok-write_start.ensures _ _ c.write_parts.result
    (writes_then c.in_ok-write_shown.ensures _ _ c.write_parts.result c.write_parts.ensures)
