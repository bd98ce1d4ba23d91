use Rattle.cluster.proofs.Prelude.{List, ap, slice_index, ℕ}
use Rattle.cluster.proofs.DrivenNets.{inputs_more, net_made}
use Rattle.cluster.proofs.driven_nets.add_input_nets.Goals as goal

pub loop-pad-preserved : goal.loop-pad-preserved
loop-pad-preserved c =
    let net = ap (λ (nets : List ℕ). slice_index nets c.loop-pad.pad) c.as_slice-net-items.ensures in
    inputs_more c.args.circuit.now c.args.uses.now c.loop-pad.pad _ _ c.loop-pad.nets c.push.new.self net c.loop-pad.invariant
    (net_made c.args.uses.now c.loop-pad.pad _ c.readers.result.now c.is_global.result c.loop-pad.nets c.push.new.self c.readers.ensures c.is_global.ensures c.in_ok-push.ensures)
