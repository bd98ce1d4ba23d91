use Rattle.vpr_files.proofs.Prelude.{◌∷◌, ◌++◌, [], refl, decimal, option_and_then, Output, Clock, net_name, word_after_space, or_open, pin_with, part_first, part_same, part_then, writes_part, writes_same, writes_then}
use Rattle.vpr_files.proofs.ClusterLemmas.{by_circuit, element}
use Rattle.vpr_files.proofs.TextLemmas.{element_text, inputs_text}
use Rattle.vpr_files.proofs.pin_words.write_element.Goals as goal

pub returns-in_err-write_slices : goal.returns-in_err-write_slices
returns-in_err-write_slices g c =
    let packed = c.args.packed.now in
    let cluster = c.args.cluster in
    let ble = element c.args.ble.inputs.now c.args.ble.output c.args.ble.clock in
    let output = pin_with packed cluster Output ble.output in
    let clock = option_and_then (pin_with packed cluster Clock) ble.clock in
    writes_part c.from_residual.result c.from_residual.ensures.0
    (part_same (part_first (inputs_text packed cluster ble.inputs ++ (word_after_space (or_open decimal output) ++ (word_after_space (or_open decimal clock) ++ 10 ∷ []))) c.in_err-write_slices.ensures)
    (element_text packed cluster ble c.net_name.result.now output clock
    (by_circuit (λ circuit. net_name circuit ble.output) c.net_name.result.now c.circuit.result.now c.args.packed.now.circuit c.net_name.ensures c.circuit.ensures.value)
    refl refl))

pub returns-in_err-write_inputs : goal.returns-in_err-write_inputs
returns-in_err-write_inputs g c =
    let packed = c.args.packed.now in
    let cluster = c.args.cluster in
    let ble = element c.args.ble.inputs.now c.args.ble.output c.args.ble.clock in
    let output = pin_with packed cluster Output ble.output in
    let clock = option_and_then (pin_with packed cluster Clock) ble.clock in
    writes_part c.from_residual-in_err-write_inputs.result c.from_residual-in_err-write_inputs.ensures.0
    (part_same (part_then c.in_ok-write_slices.ensures (part_first (word_after_space (or_open decimal output) ++ (word_after_space (or_open decimal clock) ++ 10 ∷ [])) c.in_err-write_inputs.ensures))
    (element_text packed cluster ble c.net_name.result.now output clock
    (by_circuit (λ circuit. net_name circuit ble.output) c.net_name.result.now c.circuit.result.now c.args.packed.now.circuit c.net_name.ensures c.circuit.ensures.value)
    refl refl))

pub returns-in_err-write_pin : goal.returns-in_err-write_pin
returns-in_err-write_pin g c =
    let packed = c.args.packed.now in
    let cluster = c.args.cluster in
    let ble = element c.args.ble.inputs.now c.args.ble.output c.args.ble.clock in
    let output = c.pin_with.result in
    let clock = option_and_then (pin_with packed cluster Clock) ble.clock in
    writes_part c.from_residual-in_err-write_pin.result c.from_residual-in_err-write_pin.ensures.0
    (part_same (part_then c.in_ok-write_slices.ensures (part_then c.in_ok-write_inputs.ensures (part_first (word_after_space (or_open decimal clock) ++ 10 ∷ []) c.in_err-write_pin.ensures)))
    (element_text packed cluster ble c.net_name.result.now output clock
    (by_circuit (λ circuit. net_name circuit ble.output) c.net_name.result.now c.circuit.result.now c.args.packed.now.circuit c.net_name.ensures c.circuit.ensures.value)
    c.pin_with.ensures refl))

pub returns-in_err-write_pin-2 : goal.returns-in_err-write_pin-2
returns-in_err-write_pin-2 g c =
    let packed = c.args.packed.now in
    let cluster = c.args.cluster in
    let ble = element c.args.ble.inputs.now c.args.ble.output c.args.ble.clock in
    let output = c.pin_with.result in
    let clock = c.clock_pin.result in
    writes_part c.from_residual-in_err-write_pin-2.result c.from_residual-in_err-write_pin-2.ensures.0
    (part_same (part_then c.in_ok-write_slices.ensures (part_then c.in_ok-write_inputs.ensures (part_then c.in_ok-write_pin.ensures (part_first (10 ∷ []) c.in_err-write_pin-2.ensures))))
    (element_text packed cluster ble c.net_name.result.now output clock
    (by_circuit (λ circuit. net_name circuit ble.output) c.net_name.result.now c.circuit.result.now c.args.packed.now.circuit c.net_name.ensures c.circuit.ensures.value)
    c.pin_with.ensures c.clock_pin.ensures))

pub returns : goal.returns
returns g c =
    let packed = c.args.packed.now in
    let cluster = c.args.cluster in
    let ble = element c.args.ble.inputs.now c.args.ble.output c.args.ble.clock in
    let output = c.pin_with.result in
    let clock = c.clock_pin.result in
    writes_same g.W.Sink.contents g.W.Sink.has_failed _ _ _ _ c.end_line.result
    (element_text packed cluster ble c.net_name.result.now output clock
    (by_circuit (λ circuit. net_name circuit ble.output) c.net_name.result.now c.circuit.result.now c.args.packed.now.circuit c.net_name.ensures c.circuit.ensures.value)
    c.pin_with.ensures c.clock_pin.ensures)
    (writes_then c.in_ok-write_slices.ensures _ _ c.end_line.result (writes_then c.in_ok-write_inputs.ensures _ _ c.end_line.result (writes_then c.in_ok-write_pin.ensures _ _ c.end_line.result (writes_then c.in_ok-write_pin-2.ensures c.end_line.new.sink (10 ∷ []) c.end_line.result c.end_line.ensures))))
