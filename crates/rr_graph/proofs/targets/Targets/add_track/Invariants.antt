use Rattle.rr_graph.proofs.Prelude.{◌+◌, ◌*◌, rank_of, IsRowAt}
use Rattle.rr_graph.proofs.targets.Targets.add_track.Given as goal

abbrev pub invariant-loop-y : goal.invariant-loop-y
invariant-loop-y l = IsRowAt l.self.nodes.now.numbering l.self.a l.row.items l.self.x (rank_of l.self.kind * 65536 + l.y * 256)
