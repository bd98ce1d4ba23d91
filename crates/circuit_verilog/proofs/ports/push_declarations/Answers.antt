use Rattle.circuit_verilog.proofs.Prelude.{◌++◌, flat_map, range_with_len, length, clock_line, input_line, output_line, wire_line}
use Rattle.circuit_verilog.proofs.Lists.{ok_then, then}
use Rattle.circuit_verilog.proofs.ports.push_declarations.Goals as goal

pub returns : goal.returns
returns c =
    ok_then c.push_wires.result
    (λ e. (then c.args.text.now.items c.push_inputs.new.text.items c.push_wires.new.text.items (flat_map (input_line c.args.circuit.now) c.args.circuit.now.inputs) ((flat_map (output_line c.args.circuit.now) c.args.circuit.now.outputs) ++ ((clock_line c.args.netlist.now c.args.circuit.now) ++ (flat_map wire_line (range_with_len 0 (length c.args.circuit.now.nets))))) c.in_ok-push_inputs.ensures
    (then c.push_inputs.new.text.items c.push_outputs.new.text.items c.push_wires.new.text.items (flat_map (output_line c.args.circuit.now) c.args.circuit.now.outputs) ((clock_line c.args.netlist.now c.args.circuit.now) ++ (flat_map wire_line (range_with_len 0 (length c.args.circuit.now.nets)))) c.in_ok-push_outputs.ensures
    (then c.push_outputs.new.text.items c.push_clock.new.text.items c.push_wires.new.text.items (clock_line c.args.netlist.now c.args.circuit.now) (flat_map wire_line (range_with_len 0 (length c.args.circuit.now.nets))) c.in_ok-push_clock.ensures
    e))))
    c.push_wires.ensures
