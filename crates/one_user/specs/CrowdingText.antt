-- The lines that list the overused nodes of a routing that was given up.
use Rattle.std.specs.Prelude.{ℕ, List, [], ◌∷◌, ◌++◌, codes, decimal}
use Rattle.std.specs.List.{concat, flat_map}
use Rattle.one_user.specs.Prelude.{PackedCircuit, node_text_of}
use Rattle.one_user.specs.Crowding.{net_between}
use Rattle.one_user.specs.declared.crowding.CrowdedNode.{CrowdedNode}
use Rattle.one_user.specs.declared.crowding.Crowding.{Crowding}

-- the line with the number of all overused nodes
abbrev pub overused_line : ℕ → List ℕ
overused_line count = concat (codes "nodes left overused: " ∷ decimal count ∷ codes "\n" ∷ [])

-- the numbers of nets that use a node and that it can carry
abbrev pub load_text : CrowdedNode → List ℕ
load_text crowded = concat (codes ", " ∷ decimal crowded.occupancy ∷ codes " nets, room for " ∷ decimal crowded.capacity ∷ codes ":" ∷ [])

-- the name of a net after a blank
abbrev pub net_word : PackedCircuit → ℕ → List ℕ
net_word packed net = concat (codes " " ∷ net_between packed net ∷ [])

abbrev pub line_end : List ℕ
line_end = concat (codes "\n" ∷ [])

-- the line of a node: its name as the `.route` file has it, the numbers, and the names of the nets
-- that use it
abbrev pub crowded_line : PackedCircuit → ℕ → CrowdedNode → List ℕ
crowded_line packed rows crowded =
    node_text_of rows crowded.node ++ (load_text crowded ++ (flat_map (net_word packed) crowded.nets.items ++ line_end))

-- the number of all overused nodes, and a line for each that is listed
abbrev pub crowding_text : Crowding → List ℕ
crowding_text crowding = overused_line crowding.overused ++ flat_map (crowded_line crowding.packed crowding.rows) crowding.nodes.items
