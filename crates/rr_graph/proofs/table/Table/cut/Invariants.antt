use Rattle.rr_graph.proofs.Prelude.{IsTable}
use Rattle.rr_graph.proofs.table.Table.cut.Given as goal

abbrev pub invariant-loop-i : goal.invariant-loop-i
invariant-loop-i l = IsTable l.nodes.numbering 0 l.starts.items l.ends.items l.i
