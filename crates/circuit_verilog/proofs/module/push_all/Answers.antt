use Rattle.circuit_verilog.proofs.Prelude.{◌++◌, codes, block_text, verilog_of, declarations, drives_line, head_text, shows_line, table_module, flat_map}
use Rattle.circuit_verilog.proofs.Lists.{ok_then, then}
use Rattle.circuit_verilog.proofs.module.push_all.Goals as goal

pub returns : goal.returns
unfolding verilog_of
returns c =
    ok_then c.push_parts.result
    (λ e. (then c.args.text.now.items c.push_table_module.new.text.items c.push_parts.new.text.items (table_module c.args.design.arch.now.lut_size) ((head_text c.args.design.netlist.now c.args.design.circuit.now) ++ ((declarations c.args.design.netlist.now c.args.design.circuit.now) ++ ((flat_map (drives_line c.args.design.circuit.now) c.args.design.circuit.now.inputs) ++ ((flat_map (block_text c.args.design.netlist.now c.args.design.circuit.now c.args.design.arch.now) c.args.design.layout.now.blocks) ++ ((flat_map (shows_line c.args.design.circuit.now) c.args.design.circuit.now.outputs) ++ (codes "endmodule\n")))))) c.in_ok-push_table_module.ensures
    (then c.push_table_module.new.text.items c.push_module_head.new.text.items c.push_parts.new.text.items (head_text c.args.design.netlist.now c.args.design.circuit.now) ((declarations c.args.design.netlist.now c.args.design.circuit.now) ++ ((flat_map (drives_line c.args.design.circuit.now) c.args.design.circuit.now.inputs) ++ ((flat_map (block_text c.args.design.netlist.now c.args.design.circuit.now c.args.design.arch.now) c.args.design.layout.now.blocks) ++ ((flat_map (shows_line c.args.design.circuit.now) c.args.design.circuit.now.outputs) ++ (codes "endmodule\n"))))) c.in_ok-push_module_head.ensures
    (then c.push_module_head.new.text.items c.push_declarations.new.text.items c.push_parts.new.text.items (declarations c.args.design.netlist.now c.args.design.circuit.now) ((flat_map (drives_line c.args.design.circuit.now) c.args.design.circuit.now.inputs) ++ ((flat_map (block_text c.args.design.netlist.now c.args.design.circuit.now c.args.design.arch.now) c.args.design.layout.now.blocks) ++ ((flat_map (shows_line c.args.design.circuit.now) c.args.design.circuit.now.outputs) ++ (codes "endmodule\n")))) c.in_ok-push_declarations.ensures
    (then c.push_declarations.new.text.items c.push_inputs.new.text.items c.push_parts.new.text.items (flat_map (drives_line c.args.design.circuit.now) c.args.design.circuit.now.inputs) ((flat_map (block_text c.args.design.netlist.now c.args.design.circuit.now c.args.design.arch.now) c.args.design.layout.now.blocks) ++ ((flat_map (shows_line c.args.design.circuit.now) c.args.design.circuit.now.outputs) ++ (codes "endmodule\n"))) c.in_ok-push_inputs.ensures
    (then c.push_inputs.new.text.items c.push_blocks.new.text.items c.push_parts.new.text.items (flat_map (block_text c.args.design.netlist.now c.args.design.circuit.now c.args.design.arch.now) c.args.design.layout.now.blocks) ((flat_map (shows_line c.args.design.circuit.now) c.args.design.circuit.now.outputs) ++ (codes "endmodule\n")) c.in_ok-push_blocks.ensures
    (then c.push_blocks.new.text.items c.push_outputs.new.text.items c.push_parts.new.text.items (flat_map (shows_line c.args.design.circuit.now) c.args.design.circuit.now.outputs) (codes "endmodule\n") c.in_ok-push_outputs.ensures
    e)))))))
    c.push_parts.ensures
