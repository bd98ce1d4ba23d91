use Rattle.layout_files.proofs.Prelude.{◌∙◌, ◌++◌, ◌∷◌, [], ℕ, List, ap, codes, decimal, slice_get, flat_map, range_with_len, line_of, word_after_space, ble_line, feed_or_open, or_open, net_name}
use Rattle.layout_files.proofs.Lines.{ble_text}
use Rattle.layout_files.proofs.Printing.{finish, printed_then}
use Rattle.layout_files.proofs.net_print.print_ble.Goals as goal

pub returns : goal.returns
returns c =
    let start = c.args.print.now in
    let named = c.print.new.self in
    let fed = c.print_inputs.new.print in
    let left = c.print_pin.new.print in
    let clocked = c.print_pin-2.new.print in
    let name : List ℕ = codes "subblock: " ++ (c.net_name.result.now ++ []) in
    let inputs : List ℕ = flat_map (λ place. word_after_space (feed_or_open (slice_get c.inputs.result.now place))) (range_with_len 0 c.args.arch.now.lut_size) in
    let output : List ℕ = word_after_space (or_open decimal c.output.result) in
    let clock : List ℕ = word_after_space (or_open decimal c.clock.result) in
    finish start clocked c.print-2.new.self (name ++ inputs ++ output ++ clock) (10 ∷ []) (line_of (ble_line c.args.circuit.now c.args.arch.now c.args.ble.now))
    (printed_then start left clocked (name ++ inputs ++ output) clock (printed_then start fed left (name ++ inputs) output (printed_then start named fed name inputs c.print.ensures.left c.print_inputs.ensures) c.print_pin.ensures) c.print_pin-2.ensures)
    (ble_text c.args.circuit.now c.args.arch.now c.args.ble.now c.net_name.result.now c.inputs.result.now c.output.result c.clock.result
    (c.net_name.ensures ∙ ap (net_name c.args.circuit.now) c.name.ensures) c.inputs.ensures c.output.ensures c.clock.ensures)
    c.print-2.ensures.left
