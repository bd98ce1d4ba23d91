use Rattle.desk_circuits.proofs.Prelude.{subst, sym, writes_then, Writes, longest_line}
use Rattle.desk_circuits.proofs.usages.write_longest.Goals as goal

pub returns-in_ok-write_parts-in-Some : goal.returns-in_ok-write_parts-in-Some
returns-in_ok-write_parts-in-Some g c =
    subst (λ circuit. Writes g.W.Sink.contents g.W.Sink.has_failed c.args.writer.now c.write_line.new.writer (longest_line c.args.name.now circuit) c.write_line.result) (sym c.in-Some.is)
    (writes_then c.in_ok-write_parts-in-Some.ensures _ _ c.write_line.result c.write_line.ensures)
