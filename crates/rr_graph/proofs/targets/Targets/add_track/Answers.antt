use Rattle.rr_graph.proofs.Prelude.{◌≡◌, ◌+◌, arith, subst, ◌*◌, rank_of, IsRowAt, rows_above}
use Rattle.rr_graph.proofs.Tracks.{track_begins, track_ends}
use Rattle.rr_graph.proofs.targets.Targets.add_track.Goals as goal

pub loop-y-init : goal.loop-y-init
loop-y-init c = rw c.first_row-y.ensures (track_begins c.args.self.now.nodes.now.numbering c.args.self.now.a c.args.row.now.items c.args.self.now.x c.args.self.now.kind c.args.self.now.nodes.now.lawful c.args.self.now.small.y c.requires.row)

pub returns : goal.returns
returns c =
    let e : c.loop-y.y ≡ c.args.self.now.a.y + rows_above c.args.self.now.a.kind c.args.self.now.kind + 1 = omega (arith, c.first_row-y.ensures, c.end_row-y-end.ensures.value) in
    track_ends c.args.self.now.nodes.now.numbering c.args.self.now.a c.loop-y.row.items c.args.self.now.x c.args.self.now.kind c.args.self.now.nodes.now.lawful (rw c.end_row-y-end.ensures.value at c.end_row-y-end.ensures.few)
    (subst (λ y. IsRowAt c.args.self.now.nodes.now.numbering c.args.self.now.a c.loop-y.row.items c.args.self.now.x (rank_of c.args.self.now.kind * 65536 + y * 256)) e c.loop-y.invariant)
