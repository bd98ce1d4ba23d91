use Rattle.plane_search.proofs.Prelude.{ℕ, ◌≤◌, List, length, IsFollowing, measure_of}
use Rattle.plane_search.proofs.reach.Reach.follow.Given as goal

-- what is so of the pass as it was before the first edge stays so
abbrev pub invariant-loop-end : goal.invariant-loop-end
invariant-loop-end g l =
    let f = g.P.Planes.family l.view.planes.now in
    (f.places ≤ length l.self.marks) × (l.limit ≤ l.fn.limit)
    × (measure_of l.self.marks (g.Q.Queue.entries l.self.queue) ≤ measure_of l.fn.self.marks (g.Q.Queue.entries l.fn.self.queue))
    × ((starts : List ℕ) (most : ℕ) → IsFollowing (f.plane l.view.track) g.C.Cell.SPAN starts f.exit most l.fn.limit l.item 0 l.fn.self.marks (g.Q.Queue.entries l.fn.self.queue)
    → IsFollowing (f.plane l.view.track) g.C.Cell.SPAN starts f.exit most l.limit l.item l.end-index l.self.marks (g.Q.Queue.entries l.self.queue))
