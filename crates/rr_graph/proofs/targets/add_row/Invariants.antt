use Rattle.rr_graph.proofs.Prelude.{◌*◌, column_count, IsRowBelow}
use Rattle.rr_graph.proofs.targets.add_row.Given as goal

abbrev pub invariant-loop-x : goal.invariant-loop-x
invariant-loop-x l = IsRowBelow l.nodes.numbering l.a l.row.items (l.x * column_count l.nodes.numbering)
