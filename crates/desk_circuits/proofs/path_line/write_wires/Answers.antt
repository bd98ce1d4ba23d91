use Rattle.desk_circuits.proofs.Prelude.{sym, subst, part_first, writes_part, writes_then, Writes, wires_part}
use Rattle.desk_circuits.proofs.path_line.write_wires.Goals as goal

pub returns-in_err-write_parts-in-Some : goal.returns-in_err-write_parts-in-Some
returns-in_err-write_parts-in-Some g c =
    subst (λ w. Writes g.W.Sink.contents g.W.Sink.has_failed c.args.writer.now c.write_parts.new.sink (wires_part w) c.from_residual.result) (sym c.in-Some.is)
    (writes_part _ c.from_residual.ensures.0 (part_first _ c.in_err-write_parts-in-Some.ensures))

pub returns-in_ok-write_parts-in-Some : goal.returns-in_ok-write_parts-in-Some
returns-in_ok-write_parts-in-Some g c =
    subst (λ w. Writes g.W.Sink.contents g.W.Sink.has_failed c.args.writer.now c.write_count.new.writer (wires_part w) c.write_count.result) (sym c.in-Some.is)
    (writes_then c.in_ok-write_parts-in-Some.ensures _ _ c.write_count.result c.write_count.ensures)
