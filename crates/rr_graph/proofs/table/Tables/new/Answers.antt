use Rattle.rr_graph.proofs.Widths.{both_tables}
use Rattle.rr_graph.proofs.table.Tables.new.Goals as goal

pub returns : goal.returns
returns c = both_tables c.args.nodes.now.numbering _ c.in_ok-inner.ensures c.in_ok-last.ensures
