-- The `.place` and `.route` files of small circuits.
use Rattle.vpr_files.proofs.Prelude.{◌≡◌, ℕ, [], ◌∷◌, Some, refl, codes, Circuit, bles_of, cluster_of, clusters_after, packed_of, Strip, Node, NodeKind, Source, Sink, Opin, Ipin, ChanX, node_text_of, place_text_of, route_text_of}
use Rattle.grid.specs.Places.{place_at}
use Rattle.vpr_files.proofs.Examples.{circuit, digit_0, digit_1, digit_2, digit_3, single}

-- one block, with two pads at each end of its column
abbrev one_block : Strip
one_block = record { width = 1; rows = 1; io_rat = 2 }

abbrev node : ℕ → NodeKind → ℕ → ℕ → Node
node x kind y n = record { x = x; kind = kind; y = y; n = n }

-- a pad above the last row, a wire below the first row, and a pin of a block
pad_above : node_text_of 1 (node 1 Ipin 2 0) ≡ codes "IPIN (1,2) Pad: 0"
unfolding node_text_of
pad_above = rw (digit_0, digit_1, digit_2) refl

wire_below : node_text_of 1 (node 1 ChanX 0 1) ≡ codes "CHANX (1,0) Track: 1"
unfolding node_text_of
wire_below = rw (digit_0, digit_1) refl

pin_of_block : node_text_of 1 (node 1 Opin 1 2) ≡ codes "OPIN (1,1) Pin: 2"
unfolding node_text_of
pin_of_block = rw (digit_1, digit_2) refl

class_of_block : node_text_of 1 (node 1 Sink 1 0) ≡ codes "SINK (1,1) Class: 0"
unfolding node_text_of
class_of_block = rw (digit_0, digit_1) refl

-- an empty circuit
empty_places : place_text_of one_block (packed_of (circuit [] [] [] [] []) single) []
    ≡ codes "Netlist file: m.net Architecture file: device.arch\nArray size: 1 x 1 logic blocks\n\n#block name x y subblk block number\n#---------- - - ------ ------------\n"
unfolding place_text_of packed_of clusters_after cluster_of bles_of
empty_places = rw digit_1 refl

empty_routes : route_text_of one_block (packed_of (circuit [] [] [] [] []) single) [] [] ≡ codes "Array size: 1 x 1 logic blocks.\n\nRouting:\n\n"
unfolding route_text_of packed_of clusters_after cluster_of bles_of
empty_routes = rw digit_1 refl

-- one table of two inputs
abbrev and_table : Circuit
and_table = circuit (codes "a" ∷ codes "b" ∷ codes "f" ∷ []) (0 ∷ 1 ∷ []) (2 ∷ []) (record { line = 4; inputs = 0 ∷ 1 ∷ []; output = 2 } ∷ []) []

whole_chain_places : place_text_of one_block (packed_of and_table single) (place_at 1 0 0 ∷ place_at 1 0 1 ∷ place_at 1 2 0 ∷ place_at 1 1 0 ∷ [])
    ≡ codes "Netlist file: m.net Architecture file: device.arch\nArray size: 1 x 1 logic blocks\n\n#block name x y subblk block number\n#---------- - - ------ ------------\na 1 0 0 #0\nb 1 0 1 #1\nout:f 1 2 0 #2\nf 1 1 0 #3\n"
unfolding place_text_of packed_of clusters_after cluster_of bles_of
whole_chain_places = rw (digit_0, digit_1, digit_2, digit_3) refl

-- a latch with a clock: its clock is a global net
abbrev clocked : Circuit
clocked = circuit (codes "d" ∷ codes "c" ∷ codes "q" ∷ []) (0 ∷ 1 ∷ []) (2 ∷ []) [] (record { line = 4; input = 0; output = 2; control = Some 1 } ∷ [])

clocked_routes : route_text_of one_block (packed_of clocked single) (place_at 1 0 0 ∷ place_at 1 0 1 ∷ place_at 1 2 0 ∷ place_at 1 1 0 ∷ [])
    (((node 1 Source 0 0 ∷ node 1 Opin 0 0 ∷ node 1 ChanX 0 0 ∷ node 1 Ipin 1 0 ∷ node 1 Sink 1 0 ∷ []) ∷ []) ∷ [] ∷ [] ∷ [])
    ≡ codes "Array size: 1 x 1 logic blocks.\n\nRouting:\n\nNet 0 (d)\n\nSOURCE (1,0) Pad: 0\nOPIN (1,0) Pad: 0\nCHANX (1,0) Track: 0\nIPIN (1,1) Pin: 0\nSINK (1,1) Class: 0\n\nNet 1 (c): global net connecting:\n\nBlock c (#1) at (1,0).\nBlock q (#3) at (1,1).\n\nNet 2 (q)\n\n\n"
unfolding route_text_of node_text_of packed_of clusters_after cluster_of bles_of
clocked_routes = rw (digit_0, digit_1, digit_2, digit_3) refl
