use Rattle.cluster.proofs.ReaderLists.{AreGathered}
use Rattle.cluster.proofs.pin_nets.Gathered.add_with.Given as goal

abbrev pub invariant-loop-cluster : goal.invariant-loop-cluster
invariant-loop-cluster l = AreGathered l.circuit l.bles l.clusters l.cluster l.self.inputs l.self.clocks l.self.pairs.items l.sets
