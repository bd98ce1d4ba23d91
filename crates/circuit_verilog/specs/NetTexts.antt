-- Private: what is written of a net.
use Rattle.std.specs.Prelude.{ℕ, List}
use Rattle.blif.specs.declared.circuit.Circuit.{Circuit}
use Rattle.circuit_verilog.specs.declared.ports.NetText.{NetText}
use Rattle.circuit_verilog.specs.declared.ports.NetText.TheVariants.{InputPort, OutputPort, Input, Output, Drives, Shows}
use Rattle.circuit_verilog.specs.Verilog.{drives_line, input_line, next_input, next_output, output_line, shows_line}

abbrev pub net_text : NetText → Circuit → ℕ → List ℕ
net_text InputPort circuit = next_input circuit
net_text OutputPort circuit = next_output circuit
net_text Input circuit = input_line circuit
net_text Output circuit = output_line circuit
net_text Drives circuit = drives_line circuit
net_text Shows circuit = shows_line circuit
