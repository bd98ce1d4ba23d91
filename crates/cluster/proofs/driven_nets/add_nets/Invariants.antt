use Rattle.cluster.proofs.Prelude.{◌≡◌, ◌++◌, cluster_nets}
use Rattle.cluster.proofs.driven_nets.add_nets.Given as goal

abbrev pub invariant-loop-cluster : goal.invariant-loop-cluster
invariant-loop-cluster l = l.nets ≡ l.initial.nets ++ cluster_nets l.circuit l.uses l.bles l.clusters l.cluster
