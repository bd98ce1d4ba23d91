use Rattle.vpr_files.proofs.Prelude.{◌≡◌, ◌==◌, length, get_or, arith, eq-eqb, ne_eqb, slice_get-get_or, outputs_of, elements_in, driver_place}
use Rattle.vpr_files.proofs.Searches.{search_none, search_miss, search_hit, search_end}
use Rattle.vpr_files.proofs.ClusterLemmas.{element, member_is_ble, output_at, output_count}
use Rattle.vpr_files.proofs.pin_words.driver_place.Goals as goal

pub loop-place-init : goal.loop-place-init
loop-place-init c = search_none (λ output. output == c.args.net) (outputs_of (elements_in c.args.packed.now c.args.cluster))

pub ble-requires : goal.ble-requires
ble-requires c =
    let members = c.cluster-number-items.result.now in
    let place = c.loop-place.place in
    member_is_ble c.args.packed.now c.args.cluster members place (get_or members place 0) c.circuit.ensures.lawful c.cluster-number-items.ensures
    (slice_get-get_or members place 0 c.loop-place-test.true)

pub returns-then-ble-net : goal.returns-then-ble-net
returns-then-ble-net c =
    let packed = c.args.packed.now in
    let members = c.cluster-number-items.result.now in
    let place = c.loop-place.place in
    search_hit (λ output. output == c.args.net) (outputs_of (elements_in packed c.args.cluster)) place c.ble.result.output (driver_place packed c.args.cluster c.args.net)
    (output_at packed c.args.cluster members place (get_or members place 0) (element c.ble.result.inputs.now c.ble.result.output c.ble.result.clock) c.cluster-number-items.ensures (slice_get-get_or members place 0 c.loop-place-test.true) c.ble.ensures)
    (eq-eqb _ _ c.if-ble-net.true)
    c.loop-place.invariant

pub loop-place-preserved : goal.loop-place-preserved
loop-place-preserved c =
    let packed = c.args.packed.now in
    let members = c.cluster-number-items.result.now in
    let place = c.loop-place.place in
    search_miss (λ output. output == c.args.net) (outputs_of (elements_in packed c.args.cluster)) place c.ble.result.output (driver_place packed c.args.cluster c.args.net)
    (output_at packed c.args.cluster members place (get_or members place 0) (element c.ble.result.inputs.now c.ble.result.output c.ble.result.clock) c.cluster-number-items.ensures (slice_get-get_or members place 0 c.loop-place-test.true) c.ble.ensures)
    (ne_eqb _ _ c.if-ble-net.false)
    c.loop-place.invariant

pub returns : goal.returns
returns c =
    let packed = c.args.packed.now in
    let members = c.cluster-number-items.result.now in
    let outputs = outputs_of (elements_in packed c.args.cluster) in
    let count : length outputs ≡ length members = output_count packed c.args.cluster members c.cluster-number-items.ensures in
    search_end (λ output. output == c.args.net) outputs c.loop-place.place (driver_place packed c.args.cluster c.args.net) (let h = c.loop-place-test.false in omega (arith, count)) c.loop-place.invariant
