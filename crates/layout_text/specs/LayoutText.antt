-- The three result files as the printing of a layout: what they say of a circuit, and no more.
use Rattle.std.specs.Prelude.{ℕ, nat_lt, List, [], ◌∷◌, ◌++◌, codes, decimal, length, map, slice_get, slice_index_or, Option, if◌then◌else◌}
use Rattle.std.specs.List.{enumerate_from, flat_map, range_with_len}
use Rattle.std.specs.Option.{option_map_or}
use Rattle.arch_file.specs.declared.arch.Arch.{Arch}
use Rattle.blif.specs.declared.circuit.Circuit.{Circuit}
use Rattle.cluster.specs.Blocks.{net_name}
use Rattle.cluster.specs.declared.block.Block.{Block}
use Rattle.cluster.specs.declared.block.Block.TheVariants.{InputPad, OutputPad, Cluster}
use Rattle.grid.specs.Places.{place_at}
use Rattle.grid.specs.declared.Strip.{Strip}
use Rattle.implements.specs.Layouts.{LaidBle, LaidBlock, LaidNet, Layout}
use Rattle.implements.specs.declared.feed.Feed.{Feed}
use Rattle.implements.specs.declared.feed.Feed.TheVariants.{Pin, Ble}
use Rattle.vpr_files.specs.NetFile.{or_open}
use Rattle.vpr_files.specs.NodeText.{node_text_of, position_text}
use Rattle.vpr_files.specs.TextLines.{text_of}

-- the name of a block: that of a pad's net, and that of the net that a cluster's first BLE drives
abbrev pub laid_name_as : Circuit → LaidBlock → Block → List ℕ
laid_name_as circuit laid (InputPad net) = net_name circuit net
laid_name_as circuit laid (OutputPad net) = codes "out:" ++ net_name circuit net
laid_name_as circuit laid (Cluster number) = option_map_or (λ ble. net_name circuit ble.name) (slice_get laid.bles 0) []

abbrev pub laid_name : Circuit → LaidBlock → List ℕ
laid_name circuit laid = laid_name_as circuit laid laid.block

-- ---- the `.net` file

-- the word for where an input comes from
abbrev pub feed_word : Feed → List ℕ
feed_word (Pin pin) = decimal pin
feed_word (Ble place) = codes "ble_" ++ decimal place

abbrev pub feed_or_open : Option Feed → List ℕ
feed_or_open feed = option_map_or feed_word feed (codes "open")

-- the line of a BLE: its name, its inputs, as many as a table has at most, its output pin and its
-- clock pin
abbrev pub ble_line : Circuit → Arch → LaidBle → List (List ℕ)
ble_line circuit arch ble =
    codes "subblock:" ∷ net_name circuit ble.name ∷ map (λ place. feed_or_open (slice_get ble.inputs place)) (range_with_len 0 arch.lut_size)
    ++ or_open decimal ble.output ∷ or_open decimal ble.clock ∷ []

-- the lines of a block
abbrev pub laid_lines_as : Circuit → Arch → LaidBlock → Block → List (List (List ℕ))
laid_lines_as circuit arch laid (InputPad net) = (codes ".input" ∷ laid_name circuit laid ∷ []) ∷ (codes "pinlist:" ∷ net_name circuit net ∷ []) ∷ [] ∷ []
laid_lines_as circuit arch laid (OutputPad net) = (codes ".output" ∷ laid_name circuit laid ∷ []) ∷ (codes "pinlist:" ∷ net_name circuit net ∷ []) ∷ [] ∷ []
laid_lines_as circuit arch laid (Cluster number) =
    (codes ".clb" ∷ laid_name circuit laid ∷ []) ∷ (codes "pinlist:" ∷ map (or_open (net_name circuit)) laid.pins) ∷ map (ble_line circuit arch) laid.bles ++ [] ∷ []

abbrev pub laid_lines : Circuit → Arch → LaidBlock → List (List (List ℕ))
laid_lines circuit arch laid = laid_lines_as circuit arch laid laid.block

unfoldable pub net_text : Circuit → Arch → Layout → List ℕ
net_text circuit arch layout = text_of (
    map (λ net. codes ".global" ∷ net_name circuit net ∷ []) layout.globals
    ++ (if nat_lt 0 (length layout.globals) then [] ∷ [] else [])
    ++ flat_map (laid_lines circuit arch) layout.blocks)

-- ---- the `.place` file

-- the line of a block with its number
abbrev pub place_line : Circuit → ℕ → LaidBlock → List (List ℕ)
place_line circuit number laid = laid_name circuit laid ∷ decimal laid.place.x ∷ decimal laid.place.y ∷ decimal laid.place.subblock ∷ (codes "#" ++ decimal number) ∷ []

unfoldable pub place_text : Circuit → Strip → Layout → List ℕ
place_text circuit strip layout = text_of (
    (codes "Netlist file:" ∷ (circuit.model ++ codes ".net") ∷ codes "Architecture file: device.arch" ∷ [])
    ∷ (codes "Array size:" ∷ decimal strip.width ∷ codes "x" ∷ decimal strip.rows ∷ codes "logic blocks" ∷ []) ∷ []
    ∷ (codes "#block name x y subblk block number" ∷ []) ∷ (codes "#---------- - - ------ ------------" ∷ [])
    ∷ map (λ block. place_line circuit block.0 block.1) (enumerate_from 0 layout.blocks))

-- ---- the `.route` file

-- the block of that number
abbrev pub block_of : Layout → ℕ → LaidBlock
block_of layout number = slice_index_or layout.blocks number (record { block = Cluster 0; pins = []; bles = []; place = place_at 0 0 0 })

-- the line of a block that is listed with a global net
abbrev pub listed_line : Circuit → ℕ → LaidBlock → List (List ℕ)
listed_line circuit number laid =
    codes "Block" ∷ laid_name circuit laid ∷ (codes "(#" ++ decimal number ++ codes ")") ∷ codes "at" ∷ (position_text laid.place.x laid.place.y ++ codes ".") ∷ []

-- the lines of a net with its number: the blocks that are listed with it, or, if no block is, the
-- nodes of each of its paths
abbrev pub between_lines : Circuit → Strip → Layout → ℕ → LaidNet → List ℕ → List (List (List ℕ))
between_lines circuit strip layout number between [] =
    (codes "Net" ∷ decimal number ∷ (codes "(" ++ net_name circuit between.net ++ codes ")") ∷ []) ∷ [] ∷ flat_map (map (λ node. node_text_of strip.rows node ∷ [])) between.paths ++ [] ∷ []
between_lines circuit strip layout number between (first ∷ listed) =
    (codes "Net" ∷ decimal number ∷ (codes "(" ++ net_name circuit between.net ++ codes "): global net connecting:") ∷ []) ∷ []
    ∷ map (λ block. listed_line circuit block (block_of layout block)) (first ∷ listed) ++ [] ∷ []

unfoldable pub route_text : Circuit → Strip → Layout → List ℕ
route_text circuit strip layout = text_of (
    (codes "Array size:" ∷ decimal strip.width ∷ codes "x" ∷ decimal strip.rows ∷ codes "logic blocks." ∷ []) ∷ [] ∷ (codes "Routing:" ∷ []) ∷ []
    ∷ flat_map (λ net. between_lines circuit strip layout net.0 net.1 net.1.listed) (enumerate_from 0 layout.nets))
