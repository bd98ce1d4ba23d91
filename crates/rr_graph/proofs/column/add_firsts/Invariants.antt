use Rattle.rr_graph.proofs.Prelude.{◌+◌, ◌*◌, rank_of, AreFirsts}
use Rattle.rr_graph.proofs.column.add_firsts.Given as goal

abbrev pub invariant-loop-y : goal.invariant-loop-y
invariant-loop-y l = AreFirsts l.members l.firsts.items (rank_of l.kind * 68 + l.y)
