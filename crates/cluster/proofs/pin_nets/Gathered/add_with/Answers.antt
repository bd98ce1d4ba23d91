use Rattle.cluster.proofs.Prelude.{◌≡◌, ℕ, List, length, arith, ap, subst, TellReaders}
use Rattle.cluster.proofs.ReaderLists.{gathered_more}
use Rattle.cluster.proofs.pin_nets.Gathered.add_with.Goals as goal

pub loop-cluster-preserved : goal.loop-cluster-preserved
loop-cluster-preserved c =
    let inputs = ap (λ (nets : List ℕ). length nets) c.as_slice.ensures in
    let outputs = ap (λ (nets : List ℕ). length nets) c.as_slice-2.ensures in
    gathered_more c.args.circuit.now c.args.bles.now c.args.clusters.now c.loop-cluster.cluster _ _ _ _ _ _ _ _ c.gather.new.self _ (omega arith) c.row.ensures c.loop-cluster.invariant c.in_ok-gather.ensures.inputs c.in_ok-gather.ensures.clocks c.in_ok-gather.ensures.outputs_count
    (cc (c.in_ok-push.ensures.added, c.nets.ensures.value)) (cc (c.in_ok-push-2.ensures.added, c.nets-in-loop-cluster.ensures.value))
    (cc (c.in_ok-insert_all.ensures, c.nets-in-loop-cluster-2.ensures.value)) c.nets-in-loop-cluster-3.ensures.within (cc (c.in_ok-add_pairs.ensures, inputs, outputs, c.nets-in-loop-cluster-3.ensures.value))

pub returns-clause-pairs : goal.returns-clause-pairs
returns-clause-pairs c =
    let all : c.loop-cluster.cluster ≡ length c.args.clusters.now = omega (arith, c.len-cluster-end.ensures) in
    subst (λ (count : ℕ). TellReaders c.args.circuit.now c.args.bles.now c.args.clusters.now (length c.args.circuit.now.outputs) count c.loop-cluster.self.pairs.items) all c.loop-cluster.invariant.pairs_tell
