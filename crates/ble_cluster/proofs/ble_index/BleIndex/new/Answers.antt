use Rattle.ble_cluster.proofs.Prelude.{◌≡◌, length, ap, ◌∙◌, length-map, length-range_with_len, range_with_len, items_with}
use Rattle.ble_cluster.proofs.ElementLemmas.{elements_are, pairs_within}
use Rattle.ble_cluster.proofs.ble_index.BleIndex.new.Goals as goal

pub nets_with_elements-requires : goal.nets_with_elements-requires
nets_with_elements-requires c = (c.args.nets, c.requires)

pub by_key-requires : goal.by_key-requires
by_key-requires c = rw (c.as_slice.ensures.value, c.in_ok-pairs.ensures) (pairs_within 0 c.args.nets c.args.bles c.requires.lawful)

pub invariant_of-result : goal.invariant_of-result
invariant_of-result c = rw (c.in_ok-by_net.ensures, c.as_slice.ensures.value, c.in_ok-pairs.ensures) (elements_are c.args.bles c.args.nets c.requires)

pub returns : goal.returns
returns c =
    let count : length c.in_ok-by_net.by_net ≡ c.args.nets = ap length c.in_ok-by_net.ensures ∙ length-map (range_with_len 0 c.args.nets) (items_with c.as_slice.result.now) ∙ length-range_with_len 0 c.args.nets in
    ap (λ nets. record { elements = c.args.bles; nets = nets }) count
