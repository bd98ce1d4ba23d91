use Rattle.plane_search.proofs.Prelude.{ℕ, ◌+◌, ◌*◌, length, sum_by}
use Rattle.plane_search.proofs.Walking.{IsOnWay, stack_of, count_of}
use Rattle.plane_search.proofs.walk.Walk.walk_from.Given as goal

abbrev pub invariant-loop-current : goal.invariant-loop-current
invariant-loop-current g l =
    let f = g.P.Planes.family l.aim.planes.now in
    IsOnWay (f.plane l.aim.track) g.C.Cell.SPAN f.exit l.aim.best l.fn.start.place l.self.marks (stack_of l.current l.self.stops.items)

abbrev pub decreases-loop-current : goal.decreases-loop-current
decreases-loop-current g l = 2 * sum_by (λ (cost : ℕ). cost) l.self.marks + length l.self.stops.items + count_of l.current
