use Rattle.circuit_use.proofs.Prelude.{part_first, part_then, writes_part, writes_then}
use Rattle.circuit_use.proofs.text.write_elements.Goals as goal

pub returns-in_err-write_line : goal.returns-in_err-write_line
returns-in_err-write_line g c =
    writes_part _ c.from_residual.ensures.0 (part_first _ c.in_err-write_line.ensures)

pub returns-in_err-write_line-2 : goal.returns-in_err-write_line-2
returns-in_err-write_line-2 g c =
    writes_part _ c.from_residual-in_err-write_line-2.ensures.0
    (part_then c.in_ok-write_line.ensures (part_first _ c.in_err-write_line-2.ensures))

pub returns : goal.returns
returns g c =
    writes_then c.in_ok-write_line.ensures _ _ c.write_line-3.result
    (writes_then c.in_ok-write_line-2.ensures _ _ c.write_line-3.result c.write_line-3.ensures)
