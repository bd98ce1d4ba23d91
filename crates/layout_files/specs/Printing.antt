-- Private: parts of the three texts of a layout, as they are printed one after another.
use Rattle.std.specs.Prelude.{ℕ, nat_lt, List, [], ◌∷◌, ◌++◌, codes, decimal, length, map, if◌then◌else◌}
use Rattle.std.specs.List.{flat_map}
use Rattle.layout_files.specs.Prelude.{Arch, Circuit, net_name, Cluster, Strip, LaidBlock, LaidNet, Layout, block_of, laid_lines_as, listed_line, Node, node_text_of, text_of}

-- the lines of the global nets, followed by an empty line if there are any
abbrev pub global_lines : Circuit → List ℕ → List (List (List ℕ))
global_lines circuit globals = map (λ net. codes ".global" ∷ net_name circuit net ∷ []) globals ++ (if nat_lt 0 (length globals) then [] ∷ [] else [])

-- the lines of a cluster
abbrev pub cluster_lines : Circuit → Arch → LaidBlock → List (List (List ℕ))
cluster_lines circuit arch laid = laid_lines_as circuit arch (record laid { block = Cluster 0 }) (Cluster 0)

-- the netlist's name, the size of the strip, and the headings of the columns
abbrev pub place_headings : Circuit → Strip → List (List (List ℕ))
place_headings circuit strip =
    (codes "Netlist file:" ∷ (circuit.model ++ codes ".net") ∷ codes "Architecture file: device.arch" ∷ [])
    ∷ (codes "Array size:" ∷ decimal strip.width ∷ codes "x" ∷ decimal strip.rows ∷ codes "logic blocks" ∷ []) ∷ []
    ∷ (codes "#block name x y subblk block number" ∷ []) ∷ (codes "#---------- - - ------ ------------" ∷ []) ∷ []

-- the size of the strip, and the lines before the first net
abbrev pub route_headings : Strip → List (List (List ℕ))
route_headings strip =
    (codes "Array size:" ∷ decimal strip.width ∷ codes "x" ∷ decimal strip.rows ∷ codes "logic blocks." ∷ []) ∷ [] ∷ (codes "Routing:" ∷ []) ∷ [] ∷ []

-- the lines of nodes of a strip with this number of rows
abbrev pub node_lines : ℕ → List Node → List (List (List ℕ))
node_lines rows path = map (λ node. node_text_of rows node ∷ []) path

-- the first line of a net, up to its name
abbrev pub heading_text : Circuit → ℕ → ℕ → List ℕ
heading_text circuit number net = codes "Net " ++ (decimal number ++ (codes " (" ++ net_name circuit net))

-- what follows a net's name: the lines of the blocks that are listed with it, or, if no block is,
-- the nodes of its paths
abbrev pub connected_text : Circuit → Strip → Layout → LaidNet → List ℕ → List ℕ
connected_text circuit strip layout net [] = codes ")\n\n" ++ text_of (flat_map (node_lines strip.rows) net.paths)
connected_text circuit strip layout net (first ∷ others) =
    codes "): global net connecting:\n\n" ++ text_of (map (λ block. listed_line circuit block (block_of layout block)) (first ∷ others))
