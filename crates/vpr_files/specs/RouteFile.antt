-- The `.route` file of a placed and routed circuit: the nodes of each net.
use Rattle.std.specs.Prelude.{ℕ, List, [], ◌∷◌, ◌++◌, map, codes, decimal, slice_index_or, if◌then◌else◌}
use Rattle.std.specs.List.{enumerate_from, flat_map}
use Rattle.vpr_files.specs.Prelude.{PackedCircuit, BlockNet, block_name, block_nets, net_name, Strip, Place, Node, block_at, place_of}
use Rattle.vpr_files.specs.NodeText.{node_text_of, position_text}
use Rattle.vpr_files.specs.TextLines.{text_of}

-- the line of a block that a global net connects: its name, its number, and its position
abbrev pub connected_line : PackedCircuit → ℕ → Place → List (List ℕ)
connected_line packed block place =
    codes "Block" ∷ block_name packed (block_at packed block) ∷ (codes "(#" ++ decimal block ++ codes ")") ∷ codes "at" ∷ (position_text place.x place.y ++ codes ".") ∷ []

-- the lines of a net: its number, its name and whether it is global, and an empty line; for a
-- global net the blocks that it connects, the driver first, otherwise the nodes of each of its
-- paths; and an empty line
abbrev pub net_lines : Strip → PackedCircuit → List Place → ℕ → BlockNet → List (List Node) → List (List (List ℕ))
net_lines strip packed places number net paths =
    (codes "Net" ∷ decimal number ∷ (codes "(" ++ net_name packed.circuit net.net ++ (if net.global then codes "): global net connecting:" else codes ")")) ∷ []) ∷ []
    ∷ (if net.global then map (λ block. connected_line packed block (place_of places block)) (net.driver ∷ net.readers)
    else flat_map (map (λ node. node_text_of strip.rows node ∷ [])) paths)
    ++ [] ∷ []

-- The bytes of the `.route` file of blocks at these places, and of nets with these paths: the size
-- of the strip, and the lines of the nets by number.
unfoldable pub route_text_of : Strip → PackedCircuit → List Place → List (List (List Node)) → List ℕ
route_text_of strip packed places routes = text_of (
    (codes "Array size:" ∷ decimal strip.width ∷ codes "x" ∷ decimal strip.rows ∷ codes "logic blocks." ∷ []) ∷ [] ∷ (codes "Routing:" ∷ []) ∷ []
    ∷ flat_map (λ net. net_lines strip packed places net.0 net.1 (slice_index_or routes net.0 [])) (enumerate_from 0 (block_nets packed)))
