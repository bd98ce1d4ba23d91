use Rattle.desk_circuits.proofs.Prelude.{part_first, writes_part, writes_then}
use Rattle.desk_circuits.proofs.usages.write_lines.Goals as goal

pub returns-in_err-write_usage : goal.returns-in_err-write_usage
returns-in_err-write_usage g c =
    writes_part _ c.from_residual.ensures.0
    (part_first _ c.in_err-write_usage.ensures)

pub returns : goal.returns
returns g c =
    writes_then c.in_ok-write_usage.ensures _ _ c.write_longest.result
    (c.write_longest.ensures)
