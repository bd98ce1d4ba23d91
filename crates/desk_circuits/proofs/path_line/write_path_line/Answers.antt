use Rattle.desk_circuits.proofs.Prelude.{length, subst, part_first, part_then, writes_part, writes_then, TakesAll, TakesPart, counted_tables}
use Rattle.desk_circuits.proofs.path_line.write_path_line.Goals as goal

pub returns-in_err-write_parts : goal.returns-in_err-write_parts
returns-in_err-write_parts g c =
    writes_part _ c.from_residual.ensures.0
    (part_first _ c.in_err-write_parts.ensures)

pub returns-in_err-write_table_count : goal.returns-in_err-write_table_count
returns-in_err-write_table_count g c =
    let counted = subst (λ numbers. TakesPart g.W.Sink.contents g.W.Sink.has_failed c.write_parts.new.sink c.write_table_count.new.writer (counted_tables (length numbers))) c.deref.ensures.value c.in_err-write_table_count.ensures in
    writes_part _ c.from_residual-in_err-write_table_count.ensures.0
    (part_then c.in_ok-write_parts.ensures (part_first _ counted))

pub returns-in_err-write_wires : goal.returns-in_err-write_wires
returns-in_err-write_wires g c =
    let counted = subst (λ numbers. TakesAll g.W.Sink.contents g.W.Sink.has_failed c.write_parts.new.sink c.write_table_count.new.writer (counted_tables (length numbers))) c.deref.ensures.value c.in_ok-write_table_count.ensures in
    writes_part _ c.from_residual-in_err-write_wires.ensures.0
    (part_then c.in_ok-write_parts.ensures (part_then counted (part_first _ c.in_err-write_wires.ensures)))

pub returns : goal.returns
returns g c =
    let counted = subst (λ numbers. TakesAll g.W.Sink.contents g.W.Sink.has_failed c.write_parts.new.sink c.write_table_count.new.writer (counted_tables (length numbers))) c.deref.ensures.value c.in_ok-write_table_count.ensures in
    writes_then c.in_ok-write_parts.ensures _ _ c.write_ends.result
    (writes_then counted _ _ c.write_ends.result
    (writes_then c.in_ok-write_wires.ensures _ _ c.write_ends.result
    c.write_ends.ensures))
