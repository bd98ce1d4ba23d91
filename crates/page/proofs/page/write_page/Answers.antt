use Rattle.page.proofs.Prelude.{part_first, part_then, writes_part, writes_then}
use Rattle.page.proofs.page.write_page.Goals as goal

pub returns-in_err-write_fixed : goal.returns-in_err-write_fixed
returns-in_err-write_fixed g c =
    writes_part _ c.from_residual.ensures.0 (part_first _ c.in_err-write_fixed.ensures)

pub returns-in_err-write_items : goal.returns-in_err-write_items
returns-in_err-write_items g c =
    writes_part _ c.from_residual-in_err-write_items.ensures.0
    (part_then c.in_ok-write_fixed.ensures (part_first _ c.in_err-write_items.ensures))

pub returns : goal.returns
returns g c =
    writes_then c.in_ok-write_fixed.ensures _ _ c.write_fixed-2.result
    (writes_then c.in_ok-write_items.ensures _ _ c.write_fixed-2.result c.write_fixed-2.ensures)
