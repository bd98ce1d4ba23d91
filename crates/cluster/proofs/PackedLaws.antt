-- The blocks and pins of a packed circuit.
use Rattle.cluster.proofs.Prelude.{◌≡◌, sym, ap, ◌∙◌, ℕ, ◌+◌, ◌-◌, ◌<◌, ◌≤◌, true, false, Option, Some, None, List, [], ◌++◌, length, get_or, map, option_and_then, slice_get, slice_index, arith, length-append, range_with_len, enumerate_from, length-map, get_or-map, get_or_append_left, get_or-append_right, length-enumerate_from, get_or-enumerate_from, length-range_with_len, get_or-range_with_len, slice_get-get_or, get_or_from_slice_get, Pin, PinClass, Input, Output, Clock, PackedTables, Block, InputPad, OutputPad, Cluster, LogicElement, bles_of, element_at, elements_at, outputs_of, PackedCircuit, AreTablesOf, blocks_of, net_on_pin, leaves_block, pins_of, cluster_block, if_leaving, pin_ranks, rank_of}

-- the number of blocks
pub length-blocks_of : (packed : PackedCircuit) → length (blocks_of packed) ≡ length packed.circuit.inputs + length packed.circuit.outputs + length packed.clusters
length-blocks_of packed = grind (arith, length-append, length-map, length-range_with_len)

-- the blocks of each kind
pub input_pad_at : (packed : PackedCircuit) (number : ℕ) → number < length packed.circuit.inputs → slice_get (blocks_of packed) number ≡ Some (InputPad (slice_index packed.circuit.inputs number))
input_pad_at packed number h =
    let none = InputPad 0 in
    let inputs = map InputPad packed.circuit.inputs in
    let outputs = map OutputPad packed.circuit.outputs in
    let clusters = map Cluster (range_with_len 0 (length packed.clusters)) in
    let pads : number < length (inputs ++ outputs) = omega (arith, length-append inputs outputs, length-map packed.circuit.inputs InputPad) in
    slice_get-get_or (blocks_of packed) number none (omega (arith, length-blocks_of packed))
    ∙ ap (λ (block : Block). Some block) (get_or_append_left (inputs ++ outputs) clusters none number pads ∙ get_or_append_left inputs outputs none number (omega (arith, length-map packed.circuit.inputs InputPad)) ∙ get_or-map InputPad packed.circuit.inputs number 0 none h)

pub output_pad_at : (packed : PackedCircuit) (number : ℕ) → length packed.circuit.inputs ≤ number → number - length packed.circuit.inputs < length packed.circuit.outputs → slice_get (blocks_of packed) number ≡ Some (OutputPad (slice_index packed.circuit.outputs (number - length packed.circuit.inputs)))
output_pad_at packed number past h =
    let none = InputPad 0 in
    let inputs = map InputPad packed.circuit.inputs in
    let outputs = map OutputPad packed.circuit.outputs in
    let clusters = map Cluster (range_with_len 0 (length packed.clusters)) in
    let pads : number < length (inputs ++ outputs) = omega (arith, length-append inputs outputs, length-map packed.circuit.inputs InputPad, length-map packed.circuit.outputs OutputPad) in
    slice_get-get_or (blocks_of packed) number none (omega (arith, length-blocks_of packed))
    ∙ ap (λ (block : Block). Some block) (get_or_append_left (inputs ++ outputs) clusters none number pads ∙ get_or-append_right inputs outputs (length packed.circuit.inputs) number none (length-map packed.circuit.inputs InputPad) past ∙ get_or-map OutputPad packed.circuit.outputs (number - length packed.circuit.inputs) 0 none h)

pub cluster_at : (packed : PackedCircuit) (number : ℕ) → number < length (blocks_of packed) → length packed.circuit.inputs ≤ number → length packed.circuit.outputs ≤ number - length packed.circuit.inputs → slice_get (blocks_of packed) number ≡ Some (Cluster (number - length packed.circuit.inputs - length packed.circuit.outputs))
cluster_at packed number within past_inputs past_outputs =
    let none = InputPad 0 in
    let inputs = map InputPad packed.circuit.inputs in
    let outputs = map OutputPad packed.circuit.outputs in
    let numbers = range_with_len 0 (length packed.clusters) in
    let pads = length packed.circuit.inputs + length packed.circuit.outputs in
    let pads_are : length (inputs ++ outputs) ≡ pads = omega (arith, length-append inputs outputs, length-map packed.circuit.inputs InputPad, length-map packed.circuit.outputs OutputPad) in
    let here : number - pads < length packed.clusters = omega (arith, length-blocks_of packed) in
    slice_get-get_or (blocks_of packed) number none within
    ∙ ap (λ (block : Block). Some block) (get_or-append_right (inputs ++ outputs) (map Cluster numbers) pads number none pads_are (omega arith)
    ∙ get_or-map Cluster numbers (number - pads) 0 none (omega (arith, length-range_with_len 0 (length packed.clusters)))
    ∙ ap Cluster (get_or-range_with_len 0 (length packed.clusters) (number - pads) 0 here ∙ omega arith))

-- the net on a pin
pub pin_at : (packed : PackedCircuit) (cluster pin rank : ℕ) (class : PinClass) (ranks : List ℕ) (d : Pin) (net : Option ℕ) → pin < length packed.arch.pins → (get_or packed.arch.pins pin d).class ≡ class → ranks ≡ pin_ranks packed.arch.pins → rank ≡ get_or ranks pin rank → net ≡ net_on_pin packed cluster class rank → slice_get (pins_of packed cluster) pin ≡ Some net
pin_at packed cluster pin rank class ranks d net h is ranks_are read net_is =
    let pins = packed.arch.pins in
    let first : ℕ × Pin = (0, d) in
    let f : ℕ × Pin → Option ℕ = λ pin. net_on_pin packed cluster pin.1.class (rank_of pins pin.0 pin.1.class) in
    let g : ℕ × Pin → ℕ = λ pin. rank_of pins pin.0 pin.1.class in
    let numbered : pin < length (enumerate_from 0 pins) = omega (arith, length-enumerate_from 0 pins) in
    let here : get_or (enumerate_from 0 pins) pin first ≡ (pin, get_or pins pin d) = get_or-enumerate_from 0 pins pin first h ∙ ap (λ (n : ℕ). let p : ℕ × Pin = (n, get_or pins pin d) in p) (omega arith) in
    let rank_is : rank ≡ rank_of pins pin class = read ∙ ap (λ (ranks : List ℕ). get_or ranks pin rank) ranks_are ∙ get_or-map g (enumerate_from 0 pins) pin first rank numbered ∙ ap g here ∙ ap (rank_of pins pin) is in
    let carries : f (pin, get_or pins pin d) ≡ net = ap (λ (class : PinClass). net_on_pin packed cluster class (rank_of pins pin class)) is ∙ ap (net_on_pin packed cluster class) (sym rank_is) ∙ sym net_is in
    slice_get-get_or (pins_of packed cluster) pin None (omega (arith, length-map (enumerate_from 0 pins) f, length-enumerate_from 0 pins))
    ∙ ap (λ (net : Option ℕ). Some net) (get_or-map f (enumerate_from 0 pins) pin first None numbered ∙ ap f here ∙ carries)

-- there are as many ranks as pins
pub length-pin_ranks : (pins : List Pin) → length (pin_ranks pins) ≡ length pins
length-pin_ranks pins = length-map (enumerate_from 0 pins) (λ (pin : ℕ × Pin). rank_of pins pin.0 pin.1.class) ∙ length-enumerate_from 0 pins

-- the row of a cluster
pub row_at : (f : List ℕ → List ℕ) (clusters rows : List (List ℕ)) (cluster : ℕ) (row : List ℕ) → cluster < length clusters → rows ≡ map f clusters → slice_get rows cluster ≡ Some row → row ≡ f (get_or clusters cluster [])
row_at f clusters rows cluster row h are found = grind (arith, get_or-map, get_or_from_slice_get rows cluster row [] found, get_or-map f clusters cluster [] [] h)

-- the net on an output pin
output_at : (packed : PackedCircuit) (cluster place : ℕ) → place < length (get_or packed.clusters cluster []) → net_on_pin packed cluster Output place ≡ if_leaving packed (cluster_block packed cluster) (element_at (bles_of packed.circuit) (get_or (get_or packed.clusters cluster []) place 0)).output
output_at packed cluster place h =
    let members = get_or packed.clusters cluster [] in
    let elements = elements_at (bles_of packed.circuit) members in
    let none : LogicElement = record { inputs = []; output = 0; clock = None } in
    let f = if_leaving packed (cluster_block packed cluster) in
    let among : place < length elements = omega (arith, length-map members (element_at (bles_of packed.circuit))) in
    let outputs : place < length (outputs_of elements) = omega (arith, length-map elements (λ (element : LogicElement). element.output)) in
    ap (option_and_then f) (slice_get-get_or (outputs_of elements) place 0 outputs)
    ∙ ap f (get_or-map (λ (element : LogicElement). element.output) elements place none 0 among ∙ ap (λ (element : LogicElement). element.output) (get_or-map (element_at (bles_of packed.circuit)) members place 0 none h))

-- the output of the BLE at an index
pub output_of_member : (packed : PackedCircuit) (elements : List LogicElement) (cluster place : ℕ) (members : List ℕ) (element : LogicElement) → elements ≡ bles_of packed.circuit → slice_get packed.clusters cluster ≡ Some members → place < length members → slice_get elements (get_or members place 0) ≡ Some element → net_on_pin packed cluster Output place ≡ if_leaving packed (cluster_block packed cluster) element.output
output_of_member packed elements cluster place members element elements_are found h read = search (get_or_from_slice_get, output_at, arith)

pub output_leaves : (packed : PackedCircuit) (elements : List LogicElement) (cluster place : ℕ) (members : List ℕ) (element : LogicElement) → elements ≡ bles_of packed.circuit → slice_get packed.clusters cluster ≡ Some members → place < length members → slice_get elements (get_or members place 0) ≡ Some element → leaves_block packed (cluster_block packed cluster) element.output ≡ true → Some element.output ≡ net_on_pin packed cluster Output place
output_leaves packed elements cluster place members element elements_are found h read leaves = grind (arith, output_of_member packed elements cluster place members element elements_are found h read)

pub output_stays : (packed : PackedCircuit) (elements : List LogicElement) (cluster place : ℕ) (members : List ℕ) (element : LogicElement) → elements ≡ bles_of packed.circuit → slice_get packed.clusters cluster ≡ Some members → place < length members → slice_get elements (get_or members place 0) ≡ Some element → leaves_block packed (cluster_block packed cluster) element.output ≡ false → None ≡ net_on_pin packed cluster Output place
output_stays packed elements cluster place members element elements_are found h read stays = grind (arith, output_of_member packed elements cluster place members element elements_are found h read)

-- the nets on an input pin and on the clock pin
pub input_entry : (packed : PackedCircuit) (tables : PackedTables) (cluster rank : ℕ) (row : List ℕ) → cluster < length packed.clusters → AreTablesOf packed tables → slice_get tables.inputs cluster ≡ Some row → slice_get row rank ≡ net_on_pin packed cluster Input rank
input_entry packed tables cluster rank row h kept found = grind (arith, row_at)

pub clock_entry : (packed : PackedCircuit) (tables : PackedTables) (cluster rank : ℕ) (row : List ℕ) → cluster < length packed.clusters → AreTablesOf packed tables → slice_get tables.clocks cluster ≡ Some row → slice_get row rank ≡ net_on_pin packed cluster Clock rank
clock_entry packed tables cluster rank row h kept found = grind (arith, row_at)
