use Rattle.path_stops.proofs.Prelude.{sym, subst, Writes, way_line}
use Rattle.path_stops.proofs.text.write_way.Goals as goal

pub returns-in-Some : goal.returns-in-Some
returns-in-Some g c =
    subst (λ w. Writes g.W.Sink.contents g.W.Sink.has_failed c.args.sink.now c.write_wires.new.sink (way_line w) c.write_wires.result) (sym c.in-Some.is) c.write_wires.ensures
