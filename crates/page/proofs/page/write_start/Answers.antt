use Rattle.page.proofs.Prelude.{part_first, part_then, writes_part, writes_then}
use Rattle.page.proofs.page.write_start.Goals as goal

pub returns-in_err-write_kind : goal.returns-in_err-write_kind
returns-in_err-write_kind g c =
    writes_part _ c.from_residual.ensures.0 (part_first _ c.in_err-write_kind.ensures)

pub returns-in_err-write_name : goal.returns-in_err-write_name
returns-in_err-write_name g c =
    writes_part _ c.from_residual-in_err-write_name.ensures.0
    (part_then c.in_ok-write_kind.ensures (part_first _ c.in_err-write_name.ensures))

pub returns : goal.returns
returns g c =
    writes_then c.in_ok-write_kind.ensures _ _ c.write_parts.result
    (writes_then c.in_ok-write_name.ensures _ _ c.write_parts.result c.write_parts.ensures)
