use Rattle.desk_circuits.proofs.Prelude.{ap, option_map, subst, sym, Writes, known_loop, loop_text}
use Rattle.desk_circuits.proofs.loop_line.write_known_loop.Goals as goal

pub returns-in-Some : goal.returns-in-Some
returns-in-Some g c =
    let circuit = c.args.circuit.now in
    let is = ap (option_map (λ tables. tables.items)) c.in-Some.is in
    let written = subst (λ numbers. Writes g.W.Sink.contents g.W.Sink.has_failed c.args.writer.now c.write_loop.new.writer (loop_text circuit numbers) c.write_loop.result) c.deref.ensures.value c.write_loop.ensures in
    subst (λ known. Writes g.W.Sink.contents g.W.Sink.has_failed c.args.writer.now c.write_loop.new.writer (known_loop circuit known) c.write_loop.result) (sym is) written

pub returns-in-None : goal.returns-in-None
returns-in-None g c =
    let is = ap (option_map (λ tables. tables.items)) c.in-None.is in
    subst (λ known. Writes g.W.Sink.contents g.W.Sink.has_failed c.args.writer.now c.write_parts.new.sink (known_loop c.args.circuit.now known) c.write_parts.result) (sym is) c.write_parts.ensures
