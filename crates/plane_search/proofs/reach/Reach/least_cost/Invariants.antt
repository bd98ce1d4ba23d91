use Rattle.plane_search.proofs.Prelude.{◌≤◌, places_of, measure_of}
use Rattle.plane_search.specs.Reach.{IsUnderWay}
use Rattle.plane_search.proofs.reach.Reach.least_cost.Given as goal

abbrev pub invariant-loop-item : goal.invariant-loop-item
invariant-loop-item g l =
    let view = l.starts.view.now in
    let f = g.P.Planes.family view.planes.now in
    (l.limit ≤ l.most) × IsUnderWay (f.plane view.track) g.C.Cell.SPAN (places_of l.starts.list.now) f.exit l.most l.limit l.self.marks (g.Q.Queue.entries l.self.queue)

abbrev pub decreases-loop-item : goal.decreases-loop-item
decreases-loop-item g l = measure_of l.self.marks (g.Q.Queue.entries l.self.queue)
