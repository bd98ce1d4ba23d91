use Rattle.vpr_files.proofs.Prelude.{◌≡◌, ◌∙◌, ◌≤◌, length, sym, ap, arith, flat_map-map, Arch, net_name, pins_of, word_after_space, or_open, all_loop, all_loop_end, all_same, part_loop, part_same, writes_part}
use Rattle.vpr_files.proofs.ClusterLemmas.{by_circuit, pin_count}
use Rattle.vpr_files.proofs.net_file.write_pins.Goals as goal

pub returns-in_err-write_word : goal.returns-in_err-write_word
returns-in_err-write_word g c =
    let packed = c.args.packed.now in
    let pins = pins_of packed c.args.cluster in
    writes_part c.from_residual.result c.from_residual.ensures.0
    (part_same
    (part_loop (λ carried. word_after_space (or_open (net_name packed.circuit) carried)) pins c.loop-pin.pin c.pin.result c.pin.ensures c.loop-pin.invariant
    (part_same c.in_err-write_word.ensures (ap word_after_space (by_circuit (λ circuit. or_open (net_name circuit) c.pin.result) c.pin_name.result.now c.circuit.result.now c.args.packed.now.circuit c.pin_name.ensures c.circuit.ensures.value))))
    (sym (flat_map-map word_after_space (or_open (net_name packed.circuit)) pins)))

pub loop-pin-preserved : goal.loop-pin-preserved
loop-pin-preserved g c =
    let packed = c.args.packed.now in
    all_loop (λ carried. word_after_space (or_open (net_name packed.circuit) carried)) (pins_of packed c.args.cluster) c.loop-pin.pin c.pin.result c.pin.ensures c.loop-pin.invariant
    (all_same c.in_ok-write_word.ensures (ap word_after_space (by_circuit (λ circuit. or_open (net_name circuit) c.pin.result) c.pin_name.result.now c.circuit.result.now c.args.packed.now.circuit c.pin_name.ensures c.circuit.ensures.value)))

pub returns : goal.returns
returns g c =
    let packed = c.args.packed.now in
    let pins = pins_of packed c.args.cluster in
    let count : length pins ≡ length packed.arch.pins = pin_count packed c.args.cluster in
    let same : length c.as_slice-pin-end.result.now ≡ length packed.arch.pins = ap length c.as_slice-pin-end.ensures ∙ ap (λ (a : Arch). length a.pins) c.arch.ensures.value in
    let long : length pins ≤ c.loop-pin.pin = (let h = c.loop-pin-test.false in omega (arith, count, same, h)) in
    all_same (all_loop_end (λ carried. word_after_space (or_open (net_name packed.circuit) carried)) pins c.loop-pin.pin long c.loop-pin.invariant) (sym (flat_map-map word_after_space (or_open (net_name packed.circuit)) pins))
