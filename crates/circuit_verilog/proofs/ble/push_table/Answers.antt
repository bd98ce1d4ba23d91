use Rattle.circuit_verilog.proofs.Prelude.{◌++◌, ◌∙◌, ℕ, List, ap, codes, table_front, table_middle, inputs_text, traced_ble, values_in, bit_digit, map}
use Rattle.circuit_verilog.proofs.Lists.{ok_then, then}
use Rattle.circuit_verilog.proofs.ble.push_table.Goals as goal

pub returns : goal.returns
returns c =
    ok_then c.push_parts.result
    (λ e. (then c.args.text.now.items c.push_front.new.text.items c.push_parts.new.text.items (table_front c.args.ble.now.name c.args.design.arch.now.lut_size) ((map bit_digit (values_in c.args.design.netlist.now c.args.design.circuit.now c.args.design.arch.now c.args.laid.now c.args.ble.now)) ++ ((table_middle c.args.ble.now.name) ++ ((inputs_text c.args.design.arch.now.lut_size (traced_ble c.args.design.arch.now c.args.laid.now c.args.ble.now).inputs) ++ (codes "1'b0}));\n")))) c.in_ok-push_front.ensures
    (then c.push_front.new.text.items c.push_table_bits.new.text.items c.push_parts.new.text.items (map bit_digit (values_in c.args.design.netlist.now c.args.design.circuit.now c.args.design.arch.now c.args.laid.now c.args.ble.now)) ((table_middle c.args.ble.now.name) ++ ((inputs_text c.args.design.arch.now.lut_size (traced_ble c.args.design.arch.now c.args.laid.now c.args.ble.now).inputs) ++ (codes "1'b0}));\n"))) c.in_ok-push_table_bits.ensures
    (then c.push_table_bits.new.text.items c.push_middle.new.text.items c.push_parts.new.text.items (table_middle c.args.ble.now.name) ((inputs_text c.args.design.arch.now.lut_size (traced_ble c.args.design.arch.now c.args.laid.now c.args.ble.now).inputs) ++ (codes "1'b0}));\n")) c.in_ok-push_middle.ensures
    (then c.push_middle.new.text.items c.push_inputs.new.text.items c.push_parts.new.text.items (inputs_text c.args.design.arch.now.lut_size (traced_ble c.args.design.arch.now c.args.laid.now c.args.ble.now).inputs) (codes "1'b0}));\n") (c.in_ok-push_inputs.ensures ∙ ap (λ (ns : List ℕ). c.push_middle.new.text.items ++ inputs_text c.args.design.arch.now.lut_size ns) (c.as_slice-nets.ensures.value ∙ c.in_ok-inputs.ensures))
    e)))))
    c.push_parts.ensures
