-- Lines of the three texts, as they are printed part by part.
use Rattle.layout_files.proofs.Prelude.{◌≡◌, ◌==◌, ℕ, nat_lt, List, [], ◌∷◌, ◌++◌, length, map, true, false, Option, refl, sym, ap, ◌∙◌, codes, decimal, slice_get, append_assoc, append-nil, arith, enumerate_from, flat_map, range_with_len, option_map_or, flat_map-append, flat_map-map, Arch, Circuit, net_name, InputPad, OutputPad, Strip, LaidBle, LaidBlock, LaidNet, Layout, Feed, between_lines, ble_line, block_of, feed_or_open, laid_lines, listed_line, net_text, place_line, place_text, route_text, global_heading_text, local_heading_text, place_headings_text, route_headings_text, or_open, line_of, word_after_space, text_of, cluster_lines, connected_text, global_lines, heading_text, node_lines, place_headings, route_headings}
use Rattle.vpr_files.proofs.FileTexts.{net_text as net_lines_text}

-- ---- the `.net` text

joined : (name inputs output clock : List ℕ) → (name ++ []) ++ inputs ++ output ++ clock ++ 10 ∷ [] ≡ (name ++ (inputs ++ (output ++ (clock ++ [])))) ++ 10 ∷ []
joined name inputs output clock = simp (append_assoc, append-nil)

words_text : (name inputs output clock : List ℕ) (words : List (List ℕ)) → inputs ≡ flat_map word_after_space words
    → (name ++ []) ++ inputs ++ word_after_space output ++ word_after_space clock ++ 10 ∷ [] ≡ (name ++ flat_map word_after_space (words ++ output ∷ clock ∷ [])) ++ 10 ∷ []
words_text name inputs output clock words e = grind (arith, joined, flat_map-append)

-- the line of a BLE, from the parts that are printed
pub ble_text : (circuit : Circuit) (arch : Arch) (ble : LaidBle) (name : List ℕ) (inputs : List Feed) (output clock : Option ℕ)
    → name ≡ net_name circuit ble.name → inputs ≡ ble.inputs → output ≡ ble.output → clock ≡ ble.clock
    → codes "subblock: " ++ (name ++ []) ++ flat_map (λ place. word_after_space (feed_or_open (slice_get inputs place))) (range_with_len 0 arch.lut_size) ++ word_after_space (or_open decimal output) ++ word_after_space (or_open decimal clock) ++ 10 ∷ []
    ≡ line_of (ble_line circuit arch ble)
ble_text circuit arch ble name inputs output clock e f g h = grind (arith, words_text, flat_map-map)

pad_tail : (name word : List ℕ) → name ++ (10 ∷ (word ++ (name ++ 10 ∷ 10 ∷ []))) ≡ ((name ++ []) ++ 10 ∷ []) ++ ((word ++ ((name ++ []) ++ 10 ∷ [])) ++ 10 ∷ [])
pad_tail name word = simp (append_assoc, append-nil)

-- the lines of a pad of an input, from the parts that are printed
pub input_text : (circuit : Circuit) (arch : Arch) (laid : LaidBlock) (net : ℕ) (name : List ℕ) → InputPad net ≡ laid.block → name ≡ net_name circuit net
    → codes ".input " ++ (name ++ (codes "\npinlist: " ++ (name ++ (10 ∷ 10 ∷ [])))) ≡ text_of (laid_lines circuit arch laid)
input_text circuit arch laid net name is named = grind (arith, pad_tail (net_name circuit net) (codes "pinlist: "))

-- the lines of a pad of an output
pub output_text : (circuit : Circuit) (arch : Arch) (laid : LaidBlock) (net : ℕ) (name : List ℕ) → OutputPad net ≡ laid.block → name ≡ net_name circuit net
    → codes ".output out:" ++ (name ++ (codes "\npinlist: " ++ (name ++ (10 ∷ 10 ∷ [])))) ≡ text_of (laid_lines circuit arch laid)
output_text circuit arch laid net name is named = grind (arith, pad_tail (net_name circuit net) (codes "pinlist: "))

cluster_joined : (head name word pins bles end : List ℕ)
    → ((((head ++ (name ++ (end ++ word))) ++ pins) ++ end) ++ bles) ++ end
    ≡ (head ++ ((name ++ []) ++ end)) ++ ((word ++ (pins ++ end)) ++ (bles ++ end))
cluster_joined head name word pins bles end = simp (append_assoc, append-nil)

-- the lines of a cluster, from the parts that are printed
pub cluster_text : (circuit : Circuit) (arch : Arch) (laid : LaidBlock) (name : List ℕ) (pins : List (Option ℕ)) (bles : List LaidBle)
    → name ≡ option_map_or (λ ble. net_name circuit ble.name) (slice_get laid.bles 0) [] → pins ≡ laid.pins → bles ≡ laid.bles
    → ((((codes ".clb " ++ (name ++ codes "\npinlist:")) ++ flat_map word_after_space (map (or_open (net_name circuit)) pins)) ++ 10 ∷ []) ++ text_of (map (ble_line circuit arch) bles)) ++ 10 ∷ []
    ≡ text_of (cluster_lines circuit arch laid)
cluster_text circuit arch laid name pins bles e f g =
    rw (e, f, g) (
    let named = option_map_or (λ (ble : LaidBle). net_name circuit ble.name) (slice_get laid.bles 0) [] in
    let words = flat_map word_after_space (map (or_open (net_name circuit)) laid.pins) in
    let lines = map (ble_line circuit arch) laid.bles in
    cluster_joined (codes ".clb ") named (codes "pinlist:") words (text_of lines) (10 ∷ [])
    ∙ ap (λ rest. (codes ".clb" ++ ((32 ∷ named) ++ []) ++ 10 ∷ []) ++ ((codes "pinlist:" ++ (words ++ 10 ∷ [])) ++ rest)) (sym (flat_map-append line_of lines ([] ∷ []))))

-- the lines of the global nets, if there are any, and the empty line after them
pub globals_text : (circuit : Circuit) (globals : List ℕ) → nat_lt 0 (length globals) ≡ true
    → flat_map (λ net. line_of (codes ".global" ∷ net_name circuit net ∷ [])) globals ++ 10 ∷ [] ≡ text_of (global_lines circuit globals)
globals_text circuit globals some = grind (arith, flat_map-map, flat_map-append)

-- the `.net` text, from its two parts
pub net_parts : (circuit : Circuit) (arch : Arch) (layout : Layout) (globals : List ℕ) (blocks : List LaidBlock) → globals ≡ layout.globals → blocks ≡ layout.blocks
    → text_of (global_lines circuit globals) ++ text_of (flat_map (laid_lines circuit arch) blocks) ≡ net_text circuit arch layout
unfolding net_text
net_parts circuit arch layout globals blocks e f = grind (arith, flat_map-append)

-- joined lists of lines
pub flat_map-flat_map : {X Y Z : Type 0} (h : Y → List Z) (g : X → List Y) (xs : List X) → flat_map h (flat_map g xs) ≡ flat_map (λ x. flat_map h (g x)) xs
flat_map-flat_map h g [] = refl
flat_map-flat_map h g (x ∷ xs) = flat_map-append h (g x) (flat_map g xs) ∙ ap (λ rest. flat_map h (g x) ++ rest) (flat_map-flat_map h g xs)

-- ---- the `.place` text

no_arch : Arch
no_arch = record { io_rat = 0; pins = []; cluster_size = 0; lut_size = 0; tracks = 0; fc_output = 0; fc_input = 0; fc_pad = 0 }

pub place_heading : (circuit : Circuit) (strip : Strip) (model : List ℕ) → model ≡ circuit.model
    → codes "Netlist file: " ++ (model ++ (codes ".net Architecture file: device.arch\nArray size: " ++ (decimal strip.width ++ (codes " x " ++ (decimal strip.rows ++ codes " logic blocks\n\n#block name x y subblk block number\n#---------- - - ------ ------------\n")))))
    ≡ text_of (place_headings circuit strip)
place_heading circuit strip model e = place_headings_text strip (record { circuit = circuit; arch = no_arch; clusters = [] }) model (decimal strip.width) (decimal strip.rows) e refl refl

pub place_parts : (circuit : Circuit) (strip : Strip) (layout : Layout) (blocks : List LaidBlock) → blocks ≡ layout.blocks
    → text_of (place_headings circuit strip) ++ text_of (map (λ block. place_line circuit block.0 block.1) (enumerate_from 0 blocks)) ≡ place_text circuit strip layout
unfolding place_text
place_parts circuit strip layout blocks e =
    rw e (sym (flat_map-append line_of (place_headings circuit strip) (map (λ block. place_line circuit block.0 block.1) (enumerate_from 0 layout.blocks))))

-- ---- the `.route` text

pub route_heading : (strip : Strip) → codes "Array size: " ++ (decimal strip.width ++ (codes " x " ++ (decimal strip.rows ++ codes " logic blocks.\n\nRouting:\n\n"))) ≡ text_of (route_headings strip)
route_heading strip = route_headings_text strip (decimal strip.width) (decimal strip.rows) refl refl

pub route_parts : (circuit : Circuit) (strip : Strip) (layout : Layout)
    → text_of (route_headings strip) ++ text_of (flat_map (λ net. between_lines circuit strip layout net.0 net.1 net.1.listed) (enumerate_from 0 layout.nets)) ≡ route_text circuit strip layout
unfolding route_text
route_parts circuit strip layout = sym (flat_map-append line_of (route_headings strip) (flat_map (λ net. between_lines circuit strip layout net.0 net.1 net.1.listed) (enumerate_from 0 layout.nets)))

opened : (number name end rest : List ℕ)
    → ((number ++ (32 ∷ 40 ∷ name)) ++ (end ++ rest)) ++ 10 ∷ [] ≡ (number ++ (32 ∷ 40 ∷ (name ++ end))) ++ (rest ++ 10 ∷ [])
opened number name end rest = simp append_assoc

-- the lines of a net, from the parts that are printed
pub net_printed : (circuit : Circuit) (strip : Strip) (layout : Layout) (number : ℕ) (between : LaidNet) (listed : List ℕ)
    → heading_text circuit number between.net ++ connected_text circuit strip layout between listed ++ 10 ∷ [] ≡ text_of (between_lines circuit strip layout number between listed)
net_printed circuit strip layout number between [] =
    let name = net_name circuit between.net in
    let lines = flat_map (node_lines strip.rows) between.paths in
    ap (λ t. codes "Net " ++ t) (opened (decimal number) name (codes ")\n\n") (text_of lines))
    ∙ ap (λ t. t ++ (text_of lines ++ 10 ∷ [])) (local_heading_text number false (decimal number) name refl refl)
    ∙ net_lines_text (codes "Net" ∷ decimal number ∷ (codes "(" ++ name ++ codes ")") ∷ []) lines
net_printed circuit strip layout number between (first ∷ others) =
    let name = net_name circuit between.net in
    let lines = map (λ block. listed_line circuit block (block_of layout block)) (first ∷ others) in
    ap (λ t. codes "Net " ++ t) (opened (decimal number) name (codes "): global net connecting:\n\n") (text_of lines))
    ∙ ap (λ t. t ++ (text_of lines ++ 10 ∷ [])) (global_heading_text number true (decimal number) name refl refl)
    ∙ net_lines_text (codes "Net" ∷ decimal number ∷ (codes "(" ++ name ++ codes "): global net connecting:") ∷ []) lines

-- what follows the name of a net with listed blocks
pub connected_listed : (circuit : Circuit) (strip : Strip) (layout : Layout) (net : LaidNet) (listed : List ℕ) → (length listed == 0) ≡ false
    → codes "): global net connecting:\n\n" ++ text_of (map (λ block. listed_line circuit block (block_of layout block)) listed) ≡ connected_text circuit strip layout net listed
connected_listed circuit strip layout net listed e = grind arith
