use Rattle.cluster.proofs.Prelude.{◌≡◌, ℕ, List, arith, ap, length, slice_index, subst, TellReaders}
use Rattle.cluster.proofs.FewBlocks.{few_pads}
use Rattle.cluster.proofs.ReaderLists.{tell_none, tell_pad}
use Rattle.cluster.proofs.pin_nets.pad_pairs.Goals as goal

pub loop-pad-init : goal.loop-pad-init
loop-pad-init c elements clusters = tell_none _ elements clusters _ c.new-pairs.ensures.items

pub overflow_cast-inputs : goal.overflow_cast-inputs
overflow_cast-inputs c =
    let few = few_pads c.args.circuit.now c.requires in
    let inputs = ap (λ (nets : List ℕ). length nets) c.as_slice-inputs.ensures in
    let outputs = ap (λ (nets : List ℕ). length nets) c.as_slice-net-items.ensures in
    omega (arith, few, inputs, outputs)

pub loop-pad-preserved : goal.loop-pad-preserved
loop-pad-preserved c elements clusters =
    let outputs = ap (λ (nets : List ℕ). length nets) c.as_slice-net-items.ensures in
    let net = ap (λ (nets : List ℕ). slice_index nets c.loop-pad.pad) c.as_slice-net-items.ensures in
    let inputs = ap (λ (nets : List ℕ). length nets) c.as_slice-inputs.ensures in
    tell_pad c.args.circuit.now elements clusters c.loop-pad.pad _ _ (c.requires.outputs c.loop-pad.pad 0 (omega arith)) (c.loop-pad.invariant elements clusters) (cc (net, inputs, c.in_ok-push.ensures.items))

pub returns : goal.returns
returns c elements clusters =
    let outputs = ap (λ (nets : List ℕ). length nets) c.as_slice-net-items.ensures in
    let all : c.loop-pad.pad ≡ length c.args.circuit.now.outputs = omega arith in
    subst (λ (count : ℕ). TellReaders c.args.circuit.now elements clusters count 0 c.loop-pad.pairs.items) all (c.loop-pad.invariant elements clusters)
