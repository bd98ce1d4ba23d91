use Rattle.fabric_planes.proofs.Prelude.{AreWiresBounded}
use Rattle.fabric_planes.proofs.side_bounds.bound_wires.Given as goal

abbrev pub invariant-loop-track : goal.invariant-loop-track
invariant-loop-track l = AreWiresBounded l.first l.prices l.track l.pin l.fn.lasts l.lasts
