use Rattle.fabric_planes.proofs.Prelude.{length, IsFarRow, AreLowered}
use Rattle.fabric_planes.proofs.bound_rows.FarWires.lower.Given as goal

abbrev pub invariant-loop-track : goal.invariant-loop-track
invariant-loop-track l = AreLowered l.fn.bounds l.bounds × IsFarRow l.self.costs.now l.self.apart.now l.self.lasts.now l.self.far l.self.more (length l.self.costs.now) l.track l.bounds
