use Rattle.rr_graph.proofs.Prelude.{◌+◌, ◌*◌, column_count, IsRowBelow}
use Rattle.rr_graph.proofs.targets.Targets.add_part.Given as goal

abbrev pub invariant-loop-r : goal.invariant-loop-r
invariant-loop-r l = IsRowBelow l.self.nodes.now.numbering l.self.a l.row.items (l.self.x * column_count l.self.nodes.now.numbering + l.r)
