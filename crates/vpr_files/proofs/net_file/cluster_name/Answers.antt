use Rattle.vpr_files.proofs.Prelude.{◌≡◌, ◌∙◌, sym, slice_get, Some, arith, nil_from_length, net_name}
use Rattle.vpr_files.proofs.ClusterLemmas.{by_circuit, element, no_seed, seed_is}
use Rattle.vpr_files.proofs.net_file.cluster_name.Goals as goal

pub returns-in-Some : goal.returns-in-Some
returns-in-Some c =
    let packed = c.args.packed.now in
    let members = c.cluster.result.now in
    let ble = element c.ble.result.inputs.now c.ble.result.output c.ble.result.clock in
    let first : slice_get members 0 ≡ Some c.in-Some.seed.now = sym c.in-Some.ensures.value in
    by_circuit (λ circuit. net_name circuit ble.output) c.net_name.result.now c.circuit.result.now c.args.packed.now.circuit c.net_name.ensures c.circuit.ensures.value
    ∙ seed_is packed c.args.cluster members c.in-Some.seed.now ble c.cluster.ensures first c.ble.ensures

pub returns-in-None : goal.returns-in-None
returns-in-None c =
    let h = c.in-None.ensures.item.3 in
    no_seed c.args.packed.now c.args.cluster c.cluster.result.now c.cluster.ensures (nil_from_length c.cluster.result.now (omega (arith, h)))
