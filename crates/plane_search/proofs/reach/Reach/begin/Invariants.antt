use Rattle.plane_search.proofs.Prelude.{places_of, IsBeginning}
use Rattle.plane_search.proofs.reach.Reach.begin.Given as goal

abbrev pub invariant-loop-start : goal.invariant-loop-start
invariant-loop-start g l =
    let view = l.starts.view.now in
    let f = g.P.Planes.family view.planes.now in
    IsBeginning (f.plane view.track) g.C.Cell.SPAN (places_of l.starts.list.now) f.exit l.most l.start-index l.self.marks (g.Q.Queue.entries l.self.queue)
