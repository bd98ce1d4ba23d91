use Rattle.circuit_use.proofs.Prelude.{part_first, part_then, writes_part, writes_then}
use Rattle.circuit_use.proofs.text.write_tables.Goals as goal

pub returns-in_err-write_table_count : goal.returns-in_err-write_table_count
returns-in_err-write_table_count g c =
    writes_part _ c.from_residual.ensures.0 (part_first _ c.in_err-write_table_count.ensures)

pub returns-in_err-write_inputs : goal.returns-in_err-write_inputs
returns-in_err-write_inputs g c =
    writes_part _ c.from_residual-in_err-write_inputs.ensures.0
    (part_then c.in_ok-write_table_count.ensures (part_first _ c.in_err-write_inputs.ensures))

pub returns : goal.returns
returns g c =
    writes_then c.in_ok-write_table_count.ensures _ _ c.write_parts.result
    (writes_then c.in_ok-write_inputs.ensures _ _ c.write_parts.result c.write_parts.ensures)
