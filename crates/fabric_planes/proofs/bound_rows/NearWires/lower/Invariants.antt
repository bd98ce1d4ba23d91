use Rattle.fabric_planes.proofs.Prelude.{IsNearRow, AreLowered}
use Rattle.fabric_planes.proofs.bound_rows.NearWires.lower.Given as goal

abbrev pub invariant-loop-track : goal.invariant-loop-track
invariant-loop-track l = AreLowered l.fn.bounds l.bounds × IsNearRow l.self.costs.now l.self.apart.now l.self.leasts.now l.self.pin l.self.more l.track l.bounds
