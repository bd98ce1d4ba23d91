-- Private: parts of the files, as they are written one after another.
use Rattle.std.specs.Prelude.{ℕ, ◌<◌, Bool, false, List, [], ◌∷◌, ◌++◌, All, map, filter, length, codes, decimal, slice_index_or, if◌then◌else◌}
use Rattle.std.specs.List.{enumerate_from, flat_map, list_any, range_with_len}
use Rattle.vpr_files.specs.Prelude.{PackedCircuit, BlockNet, block_nets, blocks_of, net_name, Strip, Place, Node, place_of}
use Rattle.vpr_files.specs.NodeText.{node_text_of}
use Rattle.vpr_files.specs.PlaceFile.{placed_line}
use Rattle.vpr_files.specs.RouteFile.{connected_line, net_lines}

-- the lines of the global nets, followed by an empty line if there are any
abbrev pub global_lines : PackedCircuit → List (List (List ℕ))
global_lines packed =
    map (λ net. codes ".global" ∷ net_name packed.circuit net.net ∷ []) (filter (λ net. net.global) (block_nets packed))
    ++ (if list_any (λ net. net.global) (block_nets packed) then [] ∷ [] else [])

-- the netlist's name, the size of the strip, and the headings of the columns
abbrev pub place_headings : Strip → PackedCircuit → List (List (List ℕ))
place_headings strip packed =
    (codes "Netlist file:" ∷ (packed.circuit.model ++ codes ".net") ∷ codes "Architecture file: device.arch" ∷ [])
    ∷ (codes "Array size:" ∷ decimal strip.width ∷ codes "x" ∷ decimal strip.rows ∷ codes "logic blocks" ∷ []) ∷ []
    ∷ (codes "#block name x y subblk block number" ∷ []) ∷ (codes "#---------- - - ------ ------------" ∷ []) ∷ []

-- the lines of the blocks, by block number
abbrev pub placed_lines : PackedCircuit → List Place → List (List (List ℕ))
placed_lines packed places = map (λ block. placed_line packed block (place_of places block)) (range_with_len 0 (length (blocks_of packed)))

-- the size of the strip, and the lines before the first net
abbrev pub route_headings : Strip → List (List (List ℕ))
route_headings strip =
    (codes "Array size:" ∷ decimal strip.width ∷ codes "x" ∷ decimal strip.rows ∷ codes "logic blocks." ∷ []) ∷ [] ∷ (codes "Routing:" ∷ []) ∷ [] ∷ []

-- the lines of the nets, by net number
abbrev pub routed_lines : Strip → PackedCircuit → List Place → List (List (List Node)) → List (List (List ℕ))
routed_lines strip packed places routes = flat_map (λ net. net_lines strip packed places net.0 net.1 (slice_index_or routes net.0 [])) (enumerate_from 0 (block_nets packed))

-- the first line of a net: its number, its name, and `global net connecting:` if it is global
abbrev pub net_heading : ℕ → List ℕ → Bool → List (List ℕ)
net_heading number name global = codes "Net" ∷ decimal number ∷ (codes "(" ++ name ++ (if global then codes "): global net connecting:" else codes ")")) ∷ []

-- the net with this number
abbrev pub numbered_net : PackedCircuit → ℕ → BlockNet
numbered_net packed number = slice_index_or (block_nets packed) number (record { net = 0; driver = 0; readers = []; global = false })

-- it is the number of a net, and the net has routes
pub record IsRouted (packed : PackedCircuit) (routes : List (List (List Node))) (number : ℕ) : Type 0 where
  pub net : number < length (block_nets packed)
  pub route : number < length routes

-- the driver and the readers are blocks
pub record AreBlocks (packed : PackedCircuit) (first : ℕ) (others : List ℕ) : Type 0 where
  pub driver : first < length (blocks_of packed)
  pub readers : All (λ reader. reader < length (blocks_of packed)) others

-- the lines of blocks that a global net connects
abbrev pub connected_lines : PackedCircuit → List Place → List ℕ → List (List (List ℕ))
connected_lines packed places blocks = map (λ block. connected_line packed block (place_of places block)) blocks

abbrev pub node_line : Strip → Node → List (List ℕ)
node_line strip node = node_text_of strip.rows node ∷ []

-- what a net connects: for a global net its blocks, the driver first, otherwise the nodes of each
-- of its paths
abbrev pub connections : Strip → PackedCircuit → List Place → BlockNet → List (List Node) → List (List (List ℕ))
connections strip packed places net paths =
    if net.global then connected_lines packed places (net.driver ∷ net.readers) else flat_map (map (node_line strip)) paths
