use Rattle.desk_circuits.proofs.Prelude.{part_first, part_then, writes_part, writes_then}
use Rattle.desk_circuits.proofs.usages.write_row.Goals as goal

pub returns-in_err-write_parts : goal.returns-in_err-write_parts
returns-in_err-write_parts g c =
    writes_part _ c.from_residual.ensures.0
    (part_first _ c.in_err-write_parts.ensures)

pub returns-in_err-write_numbers : goal.returns-in_err-write_numbers
returns-in_err-write_numbers g c =
    writes_part _ c.from_residual-in_err-write_numbers.ensures.0
    (part_then c.in_ok-write_parts.ensures (part_first _ c.in_err-write_numbers.ensures))

pub returns : goal.returns
returns g c =
    writes_then c.in_ok-write_parts.ensures _ _ c.write_path.result
    (writes_then c.in_ok-write_numbers.ensures _ _ c.write_path.result
    (c.write_path.ensures))
