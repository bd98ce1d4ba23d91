-- Lines of the `.place` and `.route` files, as they are written part by part.
use Rattle.vpr_files.proofs.Prelude.{◌≡◌, ℕ, ◌==◌, ◌||◌, nat_lt, Bool, true, false, List, [], ◌∷◌, ◌++◌, Some, cond, sym, ap, ◌∙◌, codes, decimal, map, slice_get, append_assoc, append-nil, arith, flat_map, flat_map-append, get_or_from_slice_get, Circuit, Block, PackedCircuit, BlockNet, block_name, block_nets, blocks_of, net_name, Strip, Place, Node, block_at, place_of, line_of, word_after_space, text_of, placed_line, kind_word, node_text_of, number_word, connected_line, connected_lines, connections, net_heading, node_line, numbered_net, place_headings, route_headings}

-- lists that are joined
three : (a b c d : List ℕ) → ((a ++ b) ++ c) ++ d ≡ a ++ (b ++ (c ++ d))
three a b c d = append_assoc (a ++ b) c d ∙ append_assoc a b (c ++ d)

four : (a b c d e : List ℕ) → (((a ++ b) ++ c) ++ d) ++ e ≡ a ++ (b ++ (c ++ (d ++ e)))
four a b c d e = append_assoc ((a ++ b) ++ c) d e ∙ three a b c (d ++ e)

last : (a b c : List ℕ) → ((a ++ b) ++ []) ++ c ≡ a ++ (b ++ c)
last a b c = ap (λ t. t ++ c) (append-nil (a ++ b)) ∙ append_assoc a b c

-- a name in two parts
named : (before net name rest : List ℕ) → before ++ net ≡ name → before ++ (net ++ rest) ≡ name ++ rest
named before net name rest e = sym (append_assoc before net rest) ∙ ap (λ n. n ++ rest) e

-- two numbers and the end of their line
size_text : (width rows end rest : List ℕ) → ((width ++ (codes " x " ++ (rows ++ end))) ++ 10 ∷ []) ++ rest ≡ width ++ (codes " x " ++ (rows ++ (end ++ 10 ∷ rest)))
size_text width rows end rest = grind (arith, append_assoc)

-- the headings of the columns
abbrev columns_text : List ℕ
columns_text = codes "\n#block name x y subblk block number\n#---------- - - ------ ------------\n"

-- the headings of a `.place` file, from the parts that are written
pub place_headings_text : (strip : Strip) (packed : PackedCircuit) (model width rows : List ℕ) → model ≡ packed.circuit.model → width ≡ decimal strip.width → rows ≡ decimal strip.rows
    → codes "Netlist file: " ++ (model ++ (codes ".net Architecture file: device.arch\nArray size: " ++ (width ++ (codes " x " ++ (rows ++ codes " logic blocks\n\n#block name x y subblk block number\n#---------- - - ------ ------------\n")))))
    ≡ text_of (place_headings strip packed)
place_headings_text strip packed model width rows e f g =
    let size = (decimal strip.width ++ (codes " x " ++ (decimal strip.rows ++ codes " logic blocks"))) ++ 10 ∷ [] in
    rw (e, f, g) (sym (
    ap (λ t. codes "Netlist file: " ++ t) (four packed.circuit.model (codes ".net") (codes " Architecture file: device.arch") (10 ∷ []) (codes "Array size: " ++ (size ++ columns_text)))
    ∙ ap (λ t. codes "Netlist file: " ++ (packed.circuit.model ++ (codes ".net Architecture file: device.arch\nArray size: " ++ t))) (size_text (decimal strip.width) (decimal strip.rows) (codes " logic blocks") columns_text)))

-- the headings of a `.route` file
pub route_headings_text : (strip : Strip) (width rows : List ℕ) → width ≡ decimal strip.width → rows ≡ decimal strip.rows
    → codes "Array size: " ++ (width ++ (codes " x " ++ (rows ++ codes " logic blocks.\n\nRouting:\n\n"))) ≡ text_of (route_headings strip)
route_headings_text strip width rows f g = rw (f, g) (sym (ap (λ t. codes "Array size: " ++ t) (size_text (decimal strip.width) (decimal strip.rows) (codes " logic blocks.") (codes "\nRouting:\n\n"))))

-- the line of a placed block
placed_tail : (x y subblock number : List ℕ)
    → (x ++ (32 ∷ (y ++ (32 ∷ (subblock ++ (codes " #" ++ (number ++ []))))))) ++ 10 ∷ [] ≡ x ++ (32 ∷ (y ++ (32 ∷ (subblock ++ (codes " #" ++ (number ++ 10 ∷ []))))))
placed_tail x y subblock number = grind (arith, append_assoc)

placed_text : (before net name x y subblock number : List ℕ) → before ++ net ≡ name
    → before ++ (net ++ (32 ∷ (x ++ (32 ∷ (y ++ (32 ∷ (subblock ++ (codes " #" ++ (number ++ 10 ∷ [])))))))))
    ≡ line_of (name ∷ x ∷ y ∷ subblock ∷ (codes "#" ++ number) ∷ [])
placed_text before net name x y subblock number e = named before net name _ e ∙ ap (λ t. name ++ 32 ∷ t) (sym (placed_tail x y subblock number))

-- a column and a row, and what follows
position_tail : (x y rest : List ℕ) → (codes "(" ++ x ++ codes "," ++ y ++ codes ")") ++ rest ≡ codes "(" ++ (x ++ (codes "," ++ (y ++ (codes ")" ++ rest))))
position_tail x y rest = ap (λ t. codes "(" ++ t) (four x (codes ",") y (codes ")") rest)

-- the line of a block that a global net connects
connected_text : (before net name number x y : List ℕ) → before ++ net ≡ name
    → codes "Block " ++ (before ++ (net ++ (codes " (#" ++ (number ++ (codes ") at (" ++ (x ++ (codes "," ++ (y ++ codes ").\n"))))))))
    ≡ line_of (codes "Block" ∷ name ∷ (codes "(#" ++ number ++ codes ")") ∷ codes "at" ∷ ((codes "(" ++ x ++ codes "," ++ y ++ codes ")") ++ codes ".") ∷ [])
connected_text before net name number x y e =
    let place = codes "(" ++ x ++ codes "," ++ y ++ codes ")" in
    let rest = codes " at " ++ ((place ++ codes ".") ++ []) in
    ap (λ t. codes "Block " ++ t) (named before net name _ e)
    ∙ ap (λ t. codes "Block " ++ t) (sym (
    append_assoc name (codes " (#" ++ ((number ++ codes ")") ++ rest)) (10 ∷ [])
    ∙ ap (λ t. name ++ (codes " (#" ++ t)) (three number (codes ")") rest (10 ∷ [])
    ∙ ap (λ t. number ++ (codes ") at " ++ t)) (last place (codes ".") (10 ∷ []) ∙ position_tail x y (codes ".\n")))))

-- a node, part by part
node_parts : (start kind x y between label number : List ℕ) → start ≡ kind ++ codes " (" → between ≡ codes ") " ++ label ++ codes " "
    → start ++ (x ++ (codes "," ++ (y ++ (between ++ (number ++ [])))))
    ≡ kind ++ word_after_space (codes "(" ++ x ++ codes "," ++ y ++ codes ")") ++ word_after_space label ++ word_after_space number
node_parts start kind x y between label number e f = grind (arith, append_assoc, append-nil)

-- the first line of a net, with its end, and an empty line
first_text : (number name end : List ℕ) → codes "Net " ++ (number ++ (codes " (" ++ (name ++ (end ++ codes "\n\n")))) ≡ text_of ((codes "Net" ∷ number ∷ (codes "(" ++ name ++ end) ∷ []) ∷ [] ∷ [])
first_text number name end = grind (arith, three)

-- the lines of a net
pub net_text : (heading : List (List ℕ)) (lines : List (List (List ℕ))) → text_of (heading ∷ [] ∷ []) ++ (text_of lines ++ 10 ∷ []) ≡ text_of (heading ∷ [] ∷ lines ++ [] ∷ [])
net_text heading lines = grind (arith, append_assoc, flat_map-append)

-- a block, from its number
name_is : (packed : PackedCircuit) (block : ℕ) (found : Block) (name : List ℕ) → slice_get (blocks_of packed) block ≡ Some found → name ≡ block_name packed found → name ≡ block_name packed (block_at packed block)
name_is packed block found name at e = e ∙ ap (block_name packed) (sym (get_or_from_slice_get (blocks_of packed) block found _ at))

-- the line of a placed block, from the parts that are written
pub placed_line_text : (packed : PackedCircuit) (block : ℕ) (found : Block) (place : Place) (before net x y subblock number : List ℕ)
    → slice_get (blocks_of packed) block ≡ Some found → before ++ net ≡ block_name packed found
    → x ≡ decimal place.x → y ≡ decimal place.y → subblock ≡ decimal place.subblock → number ≡ decimal block
    → before ++ (net ++ (32 ∷ (x ++ (32 ∷ (y ++ (32 ∷ (subblock ++ (codes " #" ++ (number ++ 10 ∷ [])))))))))
    ≡ line_of (placed_line packed block place)
placed_line_text packed block found place before net x y subblock number at e f g h k = grind (arith, placed_text, name_is)

-- the line of a block that a global net connects
pub connected_line_text : (packed : PackedCircuit) (block : ℕ) (found : Block) (place : Place) (before net number x y : List ℕ)
    → slice_get (blocks_of packed) block ≡ Some found → before ++ net ≡ block_name packed found
    → number ≡ decimal block → x ≡ decimal place.x → y ≡ decimal place.y
    → codes "Block " ++ (before ++ (net ++ (codes " (#" ++ (number ++ (codes ") at (" ++ (x ++ (codes "," ++ (y ++ codes ").\n"))))))))
    ≡ line_of (connected_line packed block place)
connected_line_text packed block found place before net number x y at e f g h = grind (arith, connected_text, name_is)

-- a node, from the parts that are written
pub node_text : (rows : ℕ) (node : Node) (start x y between number : List ℕ)
    → start ≡ kind_word node.kind ++ codes " (" → x ≡ decimal node.x → y ≡ decimal node.y
    → between ≡ codes ") " ++ number_word node.kind ((node.y == 0) || nat_lt rows node.y) ++ codes " " → number ≡ decimal node.n
    → start ++ (x ++ (codes "," ++ (y ++ (between ++ (number ++ []))))) ≡ node_text_of rows node
unfolding node_text_of
node_text rows node start x y between number e f g h k = grind (arith, node_parts)

-- a net, from its parts
abbrev pub net_value : ℕ → ℕ → List ℕ → Bool → BlockNet
net_value net driver readers global = record { net = net; driver = driver; readers = readers; global = global }

-- a function of the net with a number, from the net that was looked up
pub by_number : {X : Type 0} (f : BlockNet → X) (packed : PackedCircuit) (number : ℕ) (found : BlockNet) → slice_get (block_nets packed) number ≡ Some found → f found ≡ f (numbered_net packed number)
by_number f packed number found at = ap f (sym (get_or_from_slice_get (block_nets packed) number found _ at))

-- the first line of a net, and an empty line
abbrev heading_text : PackedCircuit → ℕ → BlockNet → List ℕ
heading_text packed number net = text_of (net_heading number (net_name packed.circuit net.net) net.global ∷ [] ∷ [])

pub global_heading_text : (number : ℕ) (global : Bool) (digits name : List ℕ) → global ≡ true → digits ≡ decimal number
    → codes "Net " ++ (digits ++ (codes " (" ++ (name ++ codes "): global net connecting:\n\n"))) ≡ text_of (net_heading number name global ∷ [] ∷ [])
global_heading_text number global digits name is e =
    rw e (first_text (decimal number) name (codes "): global net connecting:") ∙ ap (λ global. text_of (net_heading number name global ∷ [] ∷ [])) (sym is))

pub local_heading_text : (number : ℕ) (global : Bool) (digits name : List ℕ) → global ≡ false → digits ≡ decimal number
    → codes "Net " ++ (digits ++ (codes " (" ++ (name ++ codes ")\n\n"))) ≡ text_of (net_heading number name global ∷ [] ∷ [])
local_heading_text number global digits name is e =
    rw e (first_text (decimal number) name (codes ")") ∙ ap (λ global. text_of (net_heading number name global ∷ [] ∷ [])) (sym is))

-- what a net connects, depending on whether it is global
choice_true : {X : Type 0} (global : Bool) (a b : X) → global ≡ true → a ≡ cond global a b
choice_true global a b e = ap (λ g. cond g a b) (sym e)

choice_false : {X : Type 0} (global : Bool) (a b : X) → global ≡ false → b ≡ cond global a b
choice_false global a b e = ap (λ g. cond g a b) (sym e)

pub global_connections : (strip : Strip) (packed : PackedCircuit) (places : List Place) (paths : List (List Node)) (number : ℕ) (found : BlockNet)
    → slice_get (block_nets packed) number ≡ Some found → found.global ≡ true
    → connected_lines packed places (found.driver ∷ found.readers) ≡ connections strip packed places (numbered_net packed number) paths
global_connections strip packed places paths number found at is =
    choice_true found.global (connected_lines packed places (found.driver ∷ found.readers)) _ is
    ∙ by_number (λ net. connections strip packed places net paths) packed number found at

pub local_connections : (strip : Strip) (packed : PackedCircuit) (places : List Place) (paths : List (List Node)) (number : ℕ) (found : BlockNet)
    → slice_get (block_nets packed) number ≡ Some found → found.global ≡ false
    → flat_map (map (node_line strip)) paths ≡ connections strip packed places (numbered_net packed number) paths
local_connections strip packed places paths number found at is =
    choice_false found.global _ (flat_map (map (node_line strip)) paths) is
    ∙ by_number (λ net. connections strip packed places net paths) packed number found at

-- the line of a block at its place
pub at_its_place : (line : PackedCircuit → ℕ → Place → List ℕ) (packed found : PackedCircuit) (places : List Place) (block : ℕ) (place : Place) → found ≡ packed → slice_get places block ≡ Some place → line found block place ≡ line packed block (place_of places block)
at_its_place line packed found places block place e at = grind (arith, get_or_from_slice_get)

-- the headings, from the strip and packing that were looked up
pub headings_found : {strip found_strip : Strip} {packed found : PackedCircuit} → found_strip ≡ strip → found ≡ packed → text_of (place_headings found_strip found) ≡ text_of (place_headings strip packed)
headings_found {strip = strip} {found = found} e f = ap (λ s. text_of (place_headings s found)) e ∙ ap (λ p. text_of (place_headings strip p)) f

-- the first line of a net, from the packing, the net and the name that were looked up
pub heading_found : (packed found : PackedCircuit) (circuit : Circuit) (number : ℕ) (net : BlockNet) (name : List ℕ)
    → found ≡ packed → slice_get (block_nets found) number ≡ Some net → circuit ≡ found.circuit → name ≡ net_name circuit net.net
    → text_of (net_heading number name net.global ∷ [] ∷ []) ≡ heading_text packed number (numbered_net packed number)
heading_found packed found circuit number net name e at is named =
    ap (λ n. text_of (net_heading number n net.global ∷ [] ∷ [])) (named ∙ ap (λ (c : Circuit). net_name c net.net) (is ∙ ap (λ (p : PackedCircuit). p.circuit) e))
    ∙ by_number (heading_text packed number) packed number net (ap (λ (p : PackedCircuit). slice_get (block_nets p) number) (sym e) ∙ at)
