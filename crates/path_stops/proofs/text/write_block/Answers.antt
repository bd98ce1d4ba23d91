use Rattle.path_stops.proofs.Prelude.{sym, subst, Writes, text_by}
use Rattle.path_stops.proofs.text.write_block.Goals as goal

pub returns-in-Cluster : goal.returns-in-Cluster
returns-in-Cluster g c =
    subst (λ k. Writes g.W.Sink.contents g.W.Sink.has_failed c.args.sink.now c.write_logic.new.sink (text_by k c.args.block.now.place) c.write_logic.result) (sym c.in-Cluster.is) c.write_logic.ensures

pub returns-in-InputPad : goal.returns-in-InputPad
returns-in-InputPad g c =
    subst (λ k. Writes g.W.Sink.contents g.W.Sink.has_failed c.args.sink.now c.write_pad.new.sink (text_by k c.args.block.now.place) c.write_pad.result) (sym c.in-InputPad.is) c.write_pad.ensures

pub returns-in-OutputPad : goal.returns-in-OutputPad
returns-in-OutputPad g c =
    subst (λ k. Writes g.W.Sink.contents g.W.Sink.has_failed c.args.sink.now c.write_pad-in-OutputPad.new.sink (text_by k c.args.block.now.place) c.write_pad-in-OutputPad.result) (sym c.in-OutputPad.is) c.write_pad-in-OutputPad.ensures
