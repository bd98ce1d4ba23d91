use Rattle.desk_circuits.proofs.Prelude.{subst, sym, Writes, usage_headings}
use Rattle.desk_circuits.proofs.usages.write_headings.Goals as goal

pub returns-then-is_table : goal.returns-then-is_table
returns-then-is_table g c =
    subst (λ is_table. Writes g.W.Sink.contents g.W.Sink.has_failed c.args.writer.now c.write_parts.new.sink (usage_headings is_table) c.write_parts.result) (sym c.if-is_table.true) c.write_parts.ensures
