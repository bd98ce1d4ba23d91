use Rattle.vpr_files.proofs.Prelude.{◌≡◌, ◌∙◌, ◌≤◌, Some, ap, length, get_or, sym, arith, flat_map-map, slice_get-get_or, bles_of, elements_in, line_of, element_line, all_loop, all_loop_end, all_same, part_loop, part_same, writes_part}
use Rattle.vpr_files.proofs.ClusterLemmas.{element, element_count, element_in_at, element_is}
use Rattle.vpr_files.proofs.net_file.write_elements.Goals as goal

pub returns-in_err-write_element : goal.returns-in_err-write_element
returns-in_err-write_element g c =
    let packed = c.args.packed.now in
    let cluster = c.args.cluster in
    let members = c.cluster-number-items.result.now in
    let place = c.loop-number.number-index in
    let number = get_or members place 0 in
    let ble = element c.ble-ble.result.inputs.now c.ble-ble.result.output c.ble-ble.result.clock in
    writes_part c.from_residual.result c.from_residual.ensures.0
    (part_same
    (part_loop (λ element. line_of (element_line packed cluster element)) (elements_in packed cluster) place ble
    (element_in_at packed cluster members place number c.cluster-number-items.ensures (slice_get-get_or members place 0 c.loop-number-test.true) ∙ ap Some (element_is (bles_of packed.circuit) number ble c.ble-ble.ensures))
    c.loop-number.invariant c.in_err-write_element.ensures)
    (sym (flat_map-map line_of (element_line packed cluster) (elements_in packed cluster))))

pub loop-number-preserved : goal.loop-number-preserved
loop-number-preserved g c =
    let packed = c.args.packed.now in
    let cluster = c.args.cluster in
    let members = c.cluster-number-items.result.now in
    let place = c.loop-number.number-index in
    let number = get_or members place 0 in
    let ble = element c.ble-ble.result.inputs.now c.ble-ble.result.output c.ble-ble.result.clock in
    all_loop (λ element. line_of (element_line packed cluster element)) (elements_in packed cluster) place ble
    (element_in_at packed cluster members place number c.cluster-number-items.ensures (slice_get-get_or members place 0 c.loop-number-test.true) ∙ ap Some (element_is (bles_of packed.circuit) number ble c.ble-ble.ensures))
    c.loop-number.invariant c.in_ok-write_element.ensures

pub returns : goal.returns
returns g c =
    let packed = c.args.packed.now in
    let cluster = c.args.cluster in
    let elements = elements_in packed cluster in
    let count : length elements ≡ length c.cluster-number-items.result.now = element_count packed cluster c.cluster-number-items.result.now c.cluster-number-items.ensures in
    let long : length elements ≤ c.loop-number.number-index = (let h = c.loop-number-test.false in omega (arith, count, h)) in
    all_same (all_loop_end (λ element. line_of (element_line packed cluster element)) elements c.loop-number.number-index long c.loop-number.invariant)
    (sym (flat_map-map line_of (element_line packed cluster) elements))
