-- The names and the parts of a circuit's Verilog.
use Rattle.std.specs.Prelude.{ℕ, ◌+◌, ◌-◌, ◌^◌, ◌||◌, Bool, List, [], ◌∷◌, ◌++◌, Option, Some, None, codes, decimal, if◌then◌else◌}
use Rattle.std.specs.List.{concat, flat_map, range_with_len, slice_get}
use Rattle.std.specs.Str.{bytes_eq}
use Rattle.circuit_verilog.specs.declared.latch.StoreEdge.{StoreEdge}
use Rattle.circuit_verilog.specs.declared.latch.StoreEdge.TheVariants.{Rising, Falling, High, Low, Free}

-- the wire of a net. No name of a netlist has a `#`
abbrev pub wire_name : ℕ → List ℕ
wire_name net = concat (codes "\\#" ∷ decimal net ∷ codes " " ∷ [])

-- the clock of latches that no net of the circuit controls
abbrev pub free_clock : List ℕ
free_clock = codes "\\#clock "

-- by its type: of a latch that no net controls, and of other types, at each rising edge of a clock
-- of their own
abbrev pub edge_of : List ℕ → StoreEdge
edge_of type =
    if bytes_eq type (codes "re") then Rising
    else (if bytes_eq type (codes "fe") then Falling
    else (if bytes_eq type (codes "ah") then High
    else (if bytes_eq type (codes "al") then Low else Free)))

-- the net that controls a latch
abbrev pub clock_name : Option ℕ → List ℕ
clock_name (Some net) = wire_name net
clock_name None = free_clock

-- the statement by which a latch stores
abbrev pub when_text : List ℕ → List ℕ → List ℕ → List ℕ → ℕ → List ℕ
when_text front clock back becomes net = (front ++ clock) ++ concat (back ∷ codes "\\#q" ∷ decimal net ∷ codes " " ∷ becomes ∷ codes "\\#t" ∷ decimal net ∷ codes " ;\n" ∷ [])

abbrev pub store_text : StoreEdge → ℕ → List ℕ → List ℕ
store_text Rising net clock = when_text (codes "  always @(posedge ") clock (codes ") ") (codes "<= ") net
store_text Falling net clock = when_text (codes "  always @(negedge ") clock (codes ") ") (codes "<= ") net
store_text High net clock = when_text (codes "  always @* if (") clock (codes ") ") (codes "= ") net
store_text Low net clock = when_text (codes "  always @* if (!") clock (codes ") ") (codes "= ") net
store_text Free net clock = when_text (codes "  always @(posedge ") free_clock (codes ") ") (codes "<= ") net

-- the initial value of a latch, if it is known
abbrev pub is_bit : List ℕ → Bool
is_bit init = bytes_eq init (codes "0") || bytes_eq init (codes "1")

abbrev pub bit_text : List ℕ → ℕ → List ℕ
bit_text init net = concat (codes "  initial \\#q" ∷ decimal net ∷ codes " = 1'b" ∷ init ∷ codes ";\n" ∷ [])

abbrev pub initial_text : List ℕ → ℕ → List ℕ
initial_text init net = if is_bit init then bit_text init net else []

-- the input of a table at an index; one that takes nothing is 0
abbrev pub input_text : Option ℕ → List ℕ
input_text (Some net) = concat (codes "\\#" ∷ decimal net ∷ codes " , " ∷ [])
input_text None = concat (codes "1'b0, " ∷ [])

abbrev pub inputs_text : ℕ → List ℕ → List ℕ
inputs_text width nets = flat_map (λ place. input_text (slice_get nets place)) (range_with_len 0 width)

-- a line of the module of tables: with the value of one more input half of the bits are left, from
-- the last input to the first
abbrev pub level_line : ℕ → ℕ → List ℕ
level_line width place =
    let input = width - (place + 1) in
    concat (
    codes "  wire [0:" ∷ decimal (2 ^ input - 1) ∷ codes "] v" ∷ decimal input ∷ codes " = i[" ∷ decimal input ∷ codes "] ? v" ∷ decimal (input + 1)
    ∷ codes "[" ∷ decimal (2 ^ input) ∷ codes ":" ∷ decimal (2 ^ (input + 1) - 1) ∷ codes "] : v" ∷ decimal (input + 1) ∷ codes "[0:" ∷ decimal (2 ^ input - 1) ∷ codes "];\n" ∷ [])

-- the module of tables: output `o` is the bit at the number whose bits are the inputs `i`, the
-- first one the lowest. Input `i[width]` is not used
abbrev pub table_head : ℕ → List ℕ
table_head width = concat (
    codes "module \\#table (o, i);\n  parameter [0:" ∷ decimal (2 ^ width - 1) ∷ codes "] bits = 0;\n  output o;\n  input [0:" ∷ decimal width
    ∷ codes "] i;\n  wire [0:" ∷ decimal (2 ^ width - 1) ∷ codes "] v" ∷ decimal width ∷ codes " = bits;\n" ∷ [])

abbrev pub table_module : ℕ → List ℕ
table_module width = table_head width ++ (flat_map (level_line width) (range_with_len 0 width) ++ codes "  assign o = v0[0];\nendmodule\n\n")
