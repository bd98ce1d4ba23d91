use Rattle.desk_circuits.proofs.Prelude.{part_first, part_then, writes_part, writes_then}
use Rattle.desk_circuits.proofs.loop_line.write_loop.Goals as goal

pub returns-in_err-write_parts : goal.returns-in_err-write_parts
returns-in_err-write_parts g c =
    writes_part _ c.from_residual.ensures.0
    (part_first _ c.in_err-write_parts.ensures)

pub returns-in_err-write_count : goal.returns-in_err-write_count
returns-in_err-write_count g c =
    writes_part _ c.from_residual-in_err-write_count.ensures.0
    (part_then c.in_ok-write_parts.ensures (part_first _ c.in_err-write_count.ensures))

pub returns-in_err-write_parts-2 : goal.returns-in_err-write_parts-2
returns-in_err-write_parts-2 g c =
    writes_part _ c.from_residual-in_err-write_parts-2.ensures.0
    (part_then c.in_ok-write_parts.ensures (part_then c.in_ok-write_count.ensures (part_first _ c.in_err-write_parts-2.ensures)))

pub returns-in_err-write_tables : goal.returns-in_err-write_tables
returns-in_err-write_tables g c =
    writes_part _ c.from_residual-in_err-write_tables.ensures.0
    (part_then c.in_ok-write_parts.ensures (part_then c.in_ok-write_count.ensures (part_then c.in_ok-write_parts-2.ensures (part_first _ c.in_err-write_tables.ensures))))

pub returns-in_err-write_left_out : goal.returns-in_err-write_left_out
returns-in_err-write_left_out g c =
    writes_part _ c.from_residual-in_err-write_left_out.ensures.0
    (part_then c.in_ok-write_parts.ensures (part_then c.in_ok-write_count.ensures (part_then c.in_ok-write_parts-2.ensures (part_then c.in_ok-write_tables.ensures (part_first _ c.in_err-write_left_out.ensures)))))

pub returns : goal.returns
returns g c =
    writes_then c.in_ok-write_parts.ensures _ _ c.write_first.result
    (writes_then c.in_ok-write_count.ensures _ _ c.write_first.result
    (writes_then c.in_ok-write_parts-2.ensures _ _ c.write_first.result
    (writes_then c.in_ok-write_tables.ensures _ _ c.write_first.result
    (writes_then c.in_ok-write_left_out.ensures _ _ c.write_first.result
    (c.write_first.ensures)))))
