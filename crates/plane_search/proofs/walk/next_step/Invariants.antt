use Rattle.plane_search.proofs.Prelude.{length, ◌-◌, ◌≤◌, AreUnfit}
use Rattle.plane_search.proofs.walk.next_step.Given as goal

abbrev pub invariant-loop-edge : goal.invariant-loop-edge
invariant-loop-edge g l =
    let f = g.P.Planes.family l.aim.planes.now in
    (l.stop.next_edge ≤ l.edge) × AreUnfit (f.plane l.aim.track) f.exit l.aim.best l.marks l.stop l.stop.next_edge l.edge

abbrev pub decreases-loop-edge : goal.decreases-loop-edge
decreases-loop-edge g l = length l.ends.list.now - l.edge
