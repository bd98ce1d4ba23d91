-- Private: where a text is the print of a part of a routing, this part is read.
use Rattle.std.specs.Prelude.{ℕ, ◌≡◌, ◌<◌, ◌^◌, Bool, true, false, List, [], ◌∷◌, ◌++◌, All, Option, Some, map, length, codes, decimal}
use Rattle.std.specs.List.{enumerate_from, flat_map}
use Rattle.layout_files.specs.Prelude.{Circuit, net_name, Strip, LaidNet, Layout, between_lines, block_of, listed_line, Node, NodeKind, kind_word, node_text_of, number_word, line_of, text_of}
use Rattle.layout_files.specs.Cursors.{IsPlain}
use Rattle.layout_files.specs.Fitting.{FitsNet, HasFileNames, IsSmallNode, IsSmallPlace}
use Rattle.layout_files.specs.LayoutFiles.{EndsAtSink, HasWholePaths}
use Rattle.layout_files.specs.Printing.{heading_text, node_lines}

-- ---- nodes

abbrev pub IsKindRead : Option (List ℕ) → NodeKind → Option (List ℕ) → Type 0
IsKindRead old found new = (kind : NodeKind) (after : List ℕ) → old ≡ Some (kind_word kind ++ (codes " (" ++ after)) → (found ≡ kind) × (new ≡ Some after)

abbrev pub IsCountedRead : Option (List ℕ) → Option (List ℕ) → Type 0
IsCountedRead old new = (kind : NodeKind) (pad : Bool) (after : List ℕ) → old ≡ Some (codes ") " ++ (number_word kind pad ++ (32 ∷ after))) → new ≡ Some after

abbrev pub IsNodeRead : Option (List ℕ) → Node → Option (List ℕ) → Type 0
IsNodeRead old found new = (rows : ℕ) (node : Node) (after : List ℕ) → IsSmallNode node → old ≡ Some (line_of (node_text_of rows node ∷ []) ++ after) → (found ≡ node) × (new ≡ Some after)

-- ---- paths

abbrev pub IsPathRead : Option (List ℕ) → List Node → Option (List ℕ) → Type 0
IsPathRead old found new = (rows : ℕ) (path : List Node) (after : List ℕ) → All IsSmallNode path → EndsAtSink path → old ≡ Some (text_of (node_lines rows path) ++ after) → (found ≡ path) × (new ≡ Some after)

-- paths, and an empty line
abbrev pub ArePathsRead : Option (List ℕ) → List (List Node) → Option (List ℕ) → Type 0
ArePathsRead old found new = (rows : ℕ) (paths : List (List Node)) (after : List ℕ) → All (All IsSmallNode) paths → All EndsAtSink paths → old ≡ Some (text_of (flat_map (node_lines rows) paths) ++ (10 ∷ after)) → (found ≡ paths) × (new ≡ Some after)

-- ---- listed blocks

-- the rest of the line of a listed block
abbrev pub IsListedRead : Option (List ℕ) → ℕ → Option (List ℕ) → Type 0
IsListedRead old found new = (name : List ℕ) (block x y : ℕ) (after : List ℕ) → IsPlain name → block < 2 ^ 32 → x < 2 ^ 32 → y < 2 ^ 32
    → old ≡ Some (name ++ (codes " (#" ++ (decimal block ++ (codes ") at (" ++ (decimal x ++ (codes "," ++ (decimal y ++ (codes ").\n" ++ after)))))))) → (found ≡ block) × (new ≡ Some after)

-- the lines of listed blocks, and an empty line
abbrev pub AreListedRead : Option (List ℕ) → List ℕ → Option (List ℕ) → Type 0
AreListedRead old found new = (circuit : Circuit) (layout : Layout) (listed after : List ℕ) → HasFileNames circuit → All (λ laid. IsSmallPlace laid.place) layout.blocks → All (λ block. block < 2 ^ 32) listed
    → old ≡ Some (text_of (map (λ block. listed_line circuit block (block_of layout block)) listed) ++ (10 ∷ after)) → (found ≡ listed) × (new ≡ Some after)

-- ---- nets

-- what follows a net's name
abbrev pub name_end : Bool → List ℕ
name_end true = codes "):"
name_end false = codes ")"

-- the end of a net's first line, and the empty line after it
abbrev pub heading_end : Bool → List ℕ
heading_end true = codes "): global net connecting:\n\n"
heading_end false = codes ")\n\n"

-- a word has the name of a net before its end
abbrev pub IsNetBefore : List (List ℕ) → List ℕ → List ℕ → Option (List ℕ) → ℕ → Option (List ℕ) → Type 0
IsNetBefore names word end old found new = (circuit : Circuit) (net : ℕ) → names ≡ circuit.nets → HasFileNames circuit → net < length circuit.nets → word ≡ net_name circuit net ++ end → (found ≡ net) × (new ≡ old)

abbrev pub IsHeadingRead : List (List ℕ) → ℕ → Option (List ℕ) → ℕ → Bool → Option (List ℕ) → Type 0
IsHeadingRead names number old found found_global new = (circuit : Circuit) (net : ℕ) (global : Bool) (after : List ℕ) → names ≡ circuit.nets → HasFileNames circuit → net < length circuit.nets
    → old ≡ Some (heading_text circuit number net ++ (heading_end global ++ after)) → (found ≡ net) × (found_global ≡ global) × (new ≡ Some after)

-- what follows a net's first line: its listed blocks, or, if there are none, the nodes of its paths
abbrev pub net_rest : Circuit → Strip → Layout → LaidNet → List ℕ → List ℕ
net_rest circuit strip layout between [] = text_of (flat_map (node_lines strip.rows) between.paths)
net_rest circuit strip layout between (first ∷ others) = text_of (map (λ block. listed_line circuit block (block_of layout block)) (first ∷ others))

abbrev pub is_listed : List ℕ → Bool
is_listed [] = false
is_listed (first ∷ others) = true

abbrev pub IsNetRead : List (List ℕ) → ℕ → Option (List ℕ) → LaidNet → Option (List ℕ) → Type 0
IsNetRead names number old found new = (circuit : Circuit) (strip : Strip) (layout : Layout) (between : LaidNet) (after : List ℕ) → names ≡ circuit.nets → HasFileNames circuit → All (λ laid. IsSmallPlace laid.place) layout.blocks
    → FitsNet (length circuit.nets) between → HasWholePaths between → old ≡ Some (text_of (between_lines circuit strip layout number between between.listed) ++ after) → (found ≡ between) × (new ≡ Some after)

abbrev pub nets_text : Circuit → Strip → Layout → List ℕ
nets_text circuit strip layout = text_of (flat_map (λ net. between_lines circuit strip layout net.0 net.1 net.1.listed) (enumerate_from 0 layout.nets))

abbrev pub AreNetsRead : List (List ℕ) → Option (List ℕ) → List LaidNet → Option (List ℕ) → Type 0
AreNetsRead names old found new = (circuit : Circuit) (strip : Strip) (layout : Layout) → names ≡ circuit.nets → HasFileNames circuit → All (λ laid. IsSmallPlace laid.place) layout.blocks
    → All (FitsNet (length circuit.nets)) layout.nets → All HasWholePaths layout.nets → old ≡ Some (nets_text circuit strip layout) → (found ≡ layout.nets) × (new ≡ Some [])
