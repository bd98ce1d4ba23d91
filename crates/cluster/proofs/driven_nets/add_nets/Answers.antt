use Rattle.cluster.proofs.Prelude.{◌+◌, List, ap, arith, length, ℕ}
use Rattle.cluster.proofs.DrivenNets.{clusters_more}
use Rattle.cluster.proofs.driven_nets.add_nets.Goals as goal

pub loop-cluster-preserved : goal.loop-cluster-preserved
loop-cluster-preserved c =
    let inputs = ap (λ (nets : List ℕ). length nets) c.as_slice.ensures in
    let outputs = ap (λ (nets : List ℕ). length nets) c.as_slice-2.ensures in
    clusters_more c.args.circuit.now c.args.uses.now c.args.bles.now c.args.clusters.now c.loop-cluster.cluster (length c.as_slice.result.now + length c.as_slice-2.result.now + c.loop-cluster.cluster) c.row-members.result.now _ c.loop-cluster.nets c.add_driven.new.nets c.row-members.ensures (omega (arith, inputs, outputs)) c.loop-cluster.invariant c.in_ok-add_driven.ensures
