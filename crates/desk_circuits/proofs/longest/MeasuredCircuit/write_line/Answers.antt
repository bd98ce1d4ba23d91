use Rattle.desk_circuits.proofs.Prelude.{subst, sym, Writes, longest_text}
use Rattle.desk_circuits.proofs.longest.MeasuredCircuit.write_line.Goals as goal

pub returns-in-Path : goal.returns-in-Path
returns-in-Path g c =
    subst (λ longest. Writes g.W.Sink.contents g.W.Sink.has_failed c.args.writer.now c.write_path_line.new.writer (longest_text c.args.self.now longest) c.write_path_line.result) (sym c.in-Path.is) c.write_path_line.ensures

pub returns-in-NoPath : goal.returns-in-NoPath
returns-in-NoPath g c =
    subst (λ longest. Writes g.W.Sink.contents g.W.Sink.has_failed c.args.writer.now c.write_parts.new.sink (longest_text c.args.self.now longest) c.write_parts.result) (sym c.in-NoPath.is) c.write_parts.ensures
