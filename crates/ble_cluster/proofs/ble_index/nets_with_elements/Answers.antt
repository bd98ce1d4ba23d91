use Rattle.ble_cluster.proofs.Prelude.{◌≡◌, ◌++◌, [], ◌∷◌, arith, ap, sym, ◌∙◌, take, length, length-take, take_more, get_or_from_slice_get, LogicElement, nets_of, pairs_from, pairs_with}
use Rattle.ble_cluster.proofs.ElementLemmas.{inputs_once, pairs_more}
use Rattle.ble_cluster.proofs.ble_index.nets_with_elements.Goals as goal

pub push_nets-requires : goal.push_nets-requires
push_nets-requires c =
    let element : LogicElement = record { inputs = c.ble-ble.result.inputs.now; output = c.ble-ble.result.output; clock = c.ble-ble.result.clock } in
    let here = get_or_from_slice_get c.args.bles.now c.loop-number.number element element c.ble-ble.ensures in
    inputs_once element (rw here at (c.requires.1.lawful c.loop-number.number element (omega arith)))

pub loop-number-preserved : goal.loop-number-preserved
loop-number-preserved c =
    let bles = c.args.bles.now in
    let number = c.loop-number.number in
    let element : LogicElement = record { inputs = c.ble-ble.result.inputs.now; output = c.ble-ble.result.output; clock = c.ble-ble.result.clock } in
    let here = get_or_from_slice_get bles number element element c.ble-ble.ensures in
    let front = take_more bles number element (omega arith) ∙ ap (λ last. take number bles ++ last ∷ []) here in
    let so_many : length (take number bles) ≡ number = omega (arith, length-take number bles) in
    rw front (c.in_ok-push_nets.ensures ∙ ap (λ old. old ++ pairs_with number (nets_of element)) c.loop-number.invariant
    ∙ sym (pairs_more 0 (take number bles) element ∙ ap (λ n. pairs_from 0 (take number bles) ++ pairs_with n (nets_of element)) (omega (arith, so_many))))
