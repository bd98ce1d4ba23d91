use Rattle.circuit_use.proofs.Prelude.{sym, subst, Writes, lacking_line}
use Rattle.circuit_use.proofs.lacking.write_lacking.Goals as goal

pub returns-in-Nothing : goal.returns-in-Nothing
returns-in-Nothing g c =
    subst (λ l. Writes g.W.Sink.contents g.W.Sink.has_failed c.args.sink.now c.write_parts.new.sink (lacking_line l) c.write_parts.result) (sym c.in-Nothing.is) c.write_parts.ensures

pub returns-in-Blocks : goal.returns-in-Blocks
returns-in-Blocks g c =
    subst (λ l. Writes g.W.Sink.contents g.W.Sink.has_failed c.args.sink.now c.write_parts-in-Blocks.new.sink (lacking_line l) c.write_parts-in-Blocks.result) (sym c.in-Blocks.is) c.write_parts-in-Blocks.ensures

pub returns-in-Pads : goal.returns-in-Pads
returns-in-Pads g c =
    subst (λ l. Writes g.W.Sink.contents g.W.Sink.has_failed c.args.sink.now c.write_parts-in-Pads.new.sink (lacking_line l) c.write_parts-in-Pads.result) (sym c.in-Pads.is) c.write_parts-in-Pads.ensures

pub returns-in-BlocksAndPads : goal.returns-in-BlocksAndPads
returns-in-BlocksAndPads g c =
    subst (λ l. Writes g.W.Sink.contents g.W.Sink.has_failed c.args.sink.now c.write_parts-in-BlocksAndPads.new.sink (lacking_line l) c.write_parts-in-BlocksAndPads.result) (sym c.in-BlocksAndPads.is) c.write_parts-in-BlocksAndPads.ensures
