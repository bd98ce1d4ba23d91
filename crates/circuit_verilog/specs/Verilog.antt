-- The Verilog of what a configured device computes.
use Rattle.std.specs.Prelude.{ℕ, ◌^◌, ◌==◌, Bool, true, false, List, [], ◌∷◌, ◌++◌, Option, Some, None, codes, decimal, drop, is_some, length, map, slice_index_or, if◌then◌else◌}
use Rattle.std.specs.List.{concat, flat_map, list_any, range_with_len}
use Rattle.line_text.specs.Lines.{JoinedLine}
use Rattle.arch_file.specs.declared.arch.Arch.{Arch}
use Rattle.blif.specs.declared.circuit.Circuit.{Circuit}
use Rattle.blif.specs.declared.latches.Latch.{Latch}
use Rattle.implements.specs.Layouts.{LaidBle, LaidBlock, Layout, traced_ble}
use Rattle.configuration.specs.Configuration.{latch_driving, values_in}
use Rattle.configuration.specs.ConfigurationText.{bit_digit}
use Rattle.table_rows.specs.CellLines.{args_at, init_in, type_in}
use Rattle.circuit_verilog.specs.declared.latch.StoreEdge.{StoreEdge}
use Rattle.circuit_verilog.specs.declared.latch.StoreEdge.TheVariants.{Rising, Falling, High, Low, Free}
use Rattle.circuit_verilog.specs.Parts.{clock_name, edge_of, free_clock, initial_text, inputs_text, store_text, table_module}

-- the name of a net; empty if there is no such net
abbrev pub net_name : Circuit → ℕ → List ℕ
net_name circuit net = slice_index_or circuit.nets net []

-- the port of an input, and that of an output: an output that is an input too has a name of its own
abbrev pub input_port : Circuit → ℕ → List ℕ
input_port circuit net = concat (codes "\\" ∷ net_name circuit net ∷ codes " " ∷ [])

abbrev pub is_input : Circuit → ℕ → Bool
is_input circuit net = list_any (λ input. input == net) circuit.inputs

abbrev pub output_port : Circuit → ℕ → List ℕ
output_port circuit net = if is_input circuit net then concat (codes "\\#out:" ∷ net_name circuit net ∷ codes " " ∷ []) else concat (codes "\\" ∷ net_name circuit net ∷ codes " " ∷ [])

-- how the latch of a line stores, and its initial value
abbrev pub latch_edge : List JoinedLine → Latch → StoreEdge
latch_edge lines latch = if is_some latch.control then edge_of (type_in (args_at lines latch.line)) else Free

abbrev pub is_free_edge : StoreEdge → Bool
is_free_edge Rising = false
is_free_edge Falling = false
is_free_edge High = false
is_free_edge Low = false
is_free_edge Free = true

-- whether a latch needs a clock that no net of the circuit is
abbrev pub needs_clock : List JoinedLine → Circuit → Bool
needs_clock lines circuit = list_any (λ latch. is_free_edge (latch_edge lines latch)) circuit.latches

abbrev pub clock_ports : List JoinedLine → Circuit → List ℕ
clock_ports lines circuit = if needs_clock lines circuit then codes ", " ++ free_clock else []

-- the ports after a comma
abbrev pub next_input : Circuit → ℕ → List ℕ
next_input circuit net = codes ", " ++ input_port circuit net

abbrev pub next_output : Circuit → ℕ → List ℕ
next_output circuit net = codes ", " ++ output_port circuit net

-- the ports: inputs, outputs, and that clock if it is needed
abbrev pub ports_text : List JoinedLine → Circuit → List ℕ
ports_text lines circuit =
    flat_map (next_input circuit) circuit.inputs
    ++ (flat_map (next_output circuit) circuit.outputs ++ clock_ports lines circuit)

-- the head of the module, with these ports
abbrev pub head_front : Circuit → List ℕ
head_front circuit = concat (codes "module \\" ∷ circuit.model ∷ codes " (" ∷ [])

abbrev pub head_around : Circuit → List ℕ → List ℕ
head_around circuit ports = head_front circuit ++ (ports ++ codes ");\n")

abbrev pub head_text : List JoinedLine → Circuit → List ℕ
head_text lines circuit = head_around circuit (drop 2 (ports_text lines circuit))

-- the declarations of ports and wires
abbrev pub input_line : Circuit → ℕ → List ℕ
input_line circuit net = concat (codes "  input \\" ∷ net_name circuit net ∷ codes " ;\n" ∷ [])

abbrev pub output_line : Circuit → ℕ → List ℕ
output_line circuit net = (codes "  output " ++ output_port circuit net) ++ codes ";\n"

abbrev pub clock_line : List JoinedLine → Circuit → List ℕ
clock_line lines circuit = if needs_clock lines circuit then codes "  input \\#clock ;\n" else []

abbrev pub wire_line : ℕ → List ℕ
wire_line net = concat (codes "  wire \\#" ∷ decimal net ∷ codes " ;\n" ∷ [])

abbrev pub declarations : List JoinedLine → Circuit → List ℕ
declarations lines circuit =
    flat_map (input_line circuit) circuit.inputs
    ++ (flat_map (output_line circuit) circuit.outputs ++ (clock_line lines circuit ++ flat_map wire_line (range_with_len 0 (length circuit.nets))))

-- an input drives the wire of its net, and the wire of an output's net drives the output
abbrev pub drives_line : Circuit → ℕ → List ℕ
drives_line circuit net = concat (codes "  assign \\#" ∷ decimal net ∷ codes " = \\" ∷ net_name circuit net ∷ codes " ;\n" ∷ [])

abbrev pub shows_line : Circuit → ℕ → List ℕ
shows_line circuit net = (codes "  assign " ++ output_port circuit net) ++ concat (codes "= \\#" ∷ decimal net ∷ codes " ;\n" ∷ [])

abbrev pub table_front : ℕ → ℕ → List ℕ
table_front net width = concat (codes "  wire \\#t" ∷ decimal net ∷ codes " ;\n  \\#table #(.bits(" ∷ decimal (2 ^ width) ∷ codes "'b" ∷ [])

abbrev pub table_middle : ℕ → List ℕ
table_middle net = concat (codes ")) \\#u" ∷ decimal net ∷ codes " (.o(\\#t" ∷ decimal net ∷ codes " ), .i({" ∷ [])

-- the table of a BLE, with the bits of the configuration
abbrev pub table_text : List JoinedLine → Circuit → Arch → LaidBlock → LaidBle → List ℕ
table_text lines circuit arch laid ble =
    table_front ble.name arch.lut_size
    ++ (map bit_digit (values_in lines circuit arch laid ble)
    ++ (table_middle ble.name
    ++ (inputs_text arch.lut_size (traced_ble arch laid ble).inputs ++ codes "1'b0}));\n")))

-- the latch of a BLE: what it stores goes to the wire of its net
abbrev pub declared_text : ℕ → List ℕ
declared_text net = concat (codes "  reg \\#q" ∷ decimal net ∷ codes " ;\n  assign \\#" ∷ decimal net ∷ codes " = \\#q" ∷ decimal net ∷ codes " ;\n" ∷ [])

abbrev pub stored_text : List JoinedLine → Arch → LaidBlock → LaidBle → Latch → List ℕ
stored_text lines arch laid ble latch =
    declared_text ble.name
    ++ (initial_text (init_in (args_at lines latch.line)) ble.name
    ++ store_text (latch_edge lines latch) ble.name (clock_name (traced_ble arch laid ble).clock))

-- without a latch, what its table gives does
abbrev pub plain_text : ℕ → List ℕ
plain_text net = concat (codes "  assign \\#" ∷ decimal net ∷ codes " = \\#t" ∷ decimal net ∷ codes " ;\n" ∷ [])

abbrev pub state_text : List JoinedLine → Arch → LaidBlock → LaidBle → Option Latch → List ℕ
state_text lines arch laid ble (Some latch) = stored_text lines arch laid ble latch
state_text lines arch laid ble None = plain_text ble.name

abbrev pub ble_text : List JoinedLine → Circuit → Arch → LaidBlock → LaidBle → List ℕ
ble_text lines circuit arch laid ble = table_text lines circuit arch laid ble ++ state_text lines arch laid ble (latch_driving circuit ble.name)

abbrev pub block_text : List JoinedLine → Circuit → Arch → LaidBlock → List ℕ
block_text lines circuit arch laid = flat_map (ble_text lines circuit arch laid) laid.bles

-- The Verilog of a device that is configured by this layout of the circuit.
unfoldable pub verilog_of : List JoinedLine → Circuit → Arch → Layout → List ℕ
verilog_of lines circuit arch layout =
    table_module arch.lut_size
    ++ (head_text lines circuit
    ++ (declarations lines circuit
    ++ (flat_map (drives_line circuit) circuit.inputs
    ++ (flat_map (block_text lines circuit arch) layout.blocks
    ++ (flat_map (shows_line circuit) circuit.outputs ++ codes "endmodule\n")))))
