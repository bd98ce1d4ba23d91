use Rattle.desk_circuits.proofs.Prelude.{subst, part_first, part_then, writes_part, writes_then, TakesAll, TakesPart, known_field}
use Rattle.desk_circuits.proofs.usages.write_path.Goals as goal

pub returns-in_err-write_known-2 : goal.returns-in_err-write_known-2
returns-in_err-write_known-2 g c =
    let tables = subst (λ count. TakesAll g.W.Sink.contents g.W.Sink.has_failed c.args.writer.now c.write_known.new.writer (known_field count)) c.tables_of.ensures c.in_ok-write_known.ensures in
    let wires = subst (λ count. TakesPart g.W.Sink.contents g.W.Sink.has_failed c.write_known.new.writer c.write_known-2.new.writer (known_field count)) c.wires_of.ensures c.in_err-write_known-2.ensures in
    writes_part _ c.from_residual-in_err-write_known-2.ensures.0 (part_then tables (part_first _ wires))

pub returns : goal.returns
returns g c =
    let tables = subst (λ count. TakesAll g.W.Sink.contents g.W.Sink.has_failed c.args.writer.now c.write_known.new.writer (known_field count)) c.tables_of.ensures c.in_ok-write_known.ensures in
    let wires = subst (λ count. TakesAll g.W.Sink.contents g.W.Sink.has_failed c.write_known.new.writer c.write_known-2.new.writer (known_field count)) c.wires_of.ensures c.in_ok-write_known-2.ensures in
    writes_then tables _ _ c.write_parts.result (writes_then wires _ _ c.write_parts.result c.write_parts.ensures)
