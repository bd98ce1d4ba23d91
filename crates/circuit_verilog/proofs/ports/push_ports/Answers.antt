use Rattle.circuit_verilog.proofs.Prelude.{◌++◌, flat_map, clock_ports, next_input, next_output}
use Rattle.circuit_verilog.proofs.Lists.{ok_then, then}
use Rattle.circuit_verilog.proofs.ports.push_ports.Goals as goal

pub returns : goal.returns
returns c =
    ok_then c.push_clock_port.result
    (λ e. (then c.args.ports.now.items c.push_inputs.new.text.items c.push_clock_port.new.ports.items (flat_map (next_input c.args.circuit.now) c.args.circuit.now.inputs) ((flat_map (next_output c.args.circuit.now) c.args.circuit.now.outputs) ++ (clock_ports c.args.netlist.now c.args.circuit.now)) c.in_ok-push_inputs.ensures
    (then c.push_inputs.new.text.items c.push_outputs.new.text.items c.push_clock_port.new.ports.items (flat_map (next_output c.args.circuit.now) c.args.circuit.now.outputs) (clock_ports c.args.netlist.now c.args.circuit.now) c.in_ok-push_outputs.ensures
    e)))
    c.push_clock_port.ensures
