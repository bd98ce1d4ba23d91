use Rattle.circuit_use.proofs.Prelude.{part_first, part_then, writes_part, writes_then}
use Rattle.circuit_use.proofs.text.write_use.Goals as goal

pub returns-in_err-write_elements : goal.returns-in_err-write_elements
returns-in_err-write_elements g c =
    writes_part _ c.from_residual.ensures.0 (part_first _ c.in_err-write_elements.ensures)

pub returns-in_err-write_tables : goal.returns-in_err-write_tables
returns-in_err-write_tables g c =
    writes_part _ c.from_residual-in_err-write_tables.ensures.0
    (part_then c.in_ok-write_elements.ensures (part_first _ c.in_err-write_tables.ensures))

pub returns : goal.returns
returns g c =
    writes_then c.in_ok-write_elements.ensures _ _ c.write_resources.result
    (writes_then c.in_ok-write_tables.ensures _ _ c.write_resources.result c.write_resources.ensures)
