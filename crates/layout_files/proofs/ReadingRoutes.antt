-- Printed routes as they are read, part by part.
use Rattle.layout_files.proofs.Prelude.{◌≡◌, ◌≢◌, ℕ, ◌+◌, ◌-◌, get_or, ◌<◌, ◌==◌, ◌||◌, nat_lt, Bool, true, false, List, [], ◌∷◌, ◌++◌, length, map, Option, Some, All, codes, decimal, slice_get, refl, sym, ap, ◌∙◌, arith, append_assoc, append-nil, length-append, flat_map, true≢false, nat_tests, position-Some, get_or_from_slice_get, slice_get_within, get_or_past, flat_map-map, is_some, if◌then◌else◌, Circuit, net_name, Strip, LaidBlock, LaidNet, Layout, between_lines, block_of, laid_name, listed_line, Node, NodeKind, kind_word, node_text_of, number_word, line_of, text_of, Stops, IsPlain, has_line, is_word_end, left_after, IsSmallPlace, size_text, heading_end, is_listed, name_end, net_rest, nets_text, EndsAtSink, is_sink_kind, heading_text, node_lines, route_headings}
use Rattle.layout_files.proofs.Halfway.{texts_from, texts_numbered, texts_plain}
use Rattle.layout_files.proofs.Lines.{flat_map-flat_map, net_printed}

node_joined : (kind paren x comma y close space label n end after : List ℕ)
    → ((((kind ++ (space ++ ((((paren ++ x) ++ comma) ++ y) ++ close))) ++ (space ++ label)) ++ (space ++ n)) ++ end) ++ after
    ≡ kind ++ (space ++ (paren ++ (x ++ (comma ++ (y ++ (close ++ (space ++ (label ++ (space ++ (n ++ (end ++ after)))))))))))
node_joined kind paren x comma y close space label n end after = simp append_assoc

-- the line of a node, as it is read
pub node_read : (rows : ℕ) (node : Node) (after : List ℕ)
    → line_of (node_text_of rows node ∷ []) ++ after
    ≡ kind_word node.kind ++ (codes " (" ++ (decimal node.x ++ (codes "," ++ (decimal node.y ++ (codes ") " ++ (number_word node.kind ((node.y == 0) || nat_lt rows node.y) ++ (32 ∷ (decimal node.n ++ (10 ∷ after)))))))))
unfolding node_text_of
node_read rows node after = grind (arith, node_joined (kind_word node.kind) (codes "(") (decimal node.x) (codes ",") (decimal node.y) (codes ")") (codes " ") (number_word node.kind ((node.y == 0) || nat_lt rows node.y)) (decimal node.n) (10 ∷ []) after)

pub same_node : (node : Node) (x y n : ℕ) (kind : NodeKind) → x ≡ node.x → kind ≡ node.kind → y ≡ node.y → n ≡ node.n → record { x = x; kind = kind; y = y; n = n } ≡ node
same_node node x y n kind e f g h = rw (e, f, g, h) refl

-- ---- paths

nodes_text : (rows : ℕ) (path : List Node) → text_of (node_lines rows path) ≡ texts_from (λ k node. line_of (node_text_of rows node ∷ [])) 0 path
nodes_text rows path = flat_map-map line_of (λ node. node_text_of rows node ∷ []) path ∙ texts_plain (λ node. line_of (node_text_of rows node ∷ [])) 0 path

pub path_texts : (rows : ℕ) (path : List Node) (after : List ℕ) → text_of (node_lines rows path) ++ after ≡ texts_from (λ k node. line_of (node_text_of rows node ∷ [])) 0 path ++ after
path_texts rows path after = ap (λ t. t ++ after) (nodes_text rows path)

pub paths_texts : (rows : ℕ) (paths : List (List Node)) (after : List ℕ) → text_of (flat_map (node_lines rows) paths) ++ after ≡ texts_from (λ k path. text_of (node_lines rows path)) 0 paths ++ after
paths_texts rows paths after = ap (λ t. t ++ after) (flat_map-flat_map line_of (node_lines rows) paths ∙ texts_plain (λ path. text_of (node_lines rows path)) 0 paths)

-- where a path's first sink is
pub sink_is_last : (path : List Node) (k : ℕ) (node : Node) → EndsAtSink path → slice_get path k ≡ Some node → is_sink_kind node.kind ≡ (k + 1 == length path)
sink_is_last path k node ends at = by (is_sink_kind node.kind) refl
  where
    within : k < length path
    within = slice_get_within path k node at

    found : get_or path k node ≡ node
    found = get_or_from_slice_get path k node node at

    spot : (length path - 1 < length path) × (is_sink_kind (get_or path (length path - 1) node).kind ≡ true) × ((j : ℕ) → j < length path - 1 → is_sink_kind (get_or path j node).kind ≡ false)
    spot = position-Some (λ (n : Node). is_sink_kind n.kind) path (length path - 1) node ends

    passed : (t : Bool) → (k + 1 == length path) ≡ t → is_sink_kind node.kind ≡ true → is_sink_kind node.kind ≡ t
    passed true t e = e
    passed false t e = absurd (true≢false (sym e ∙ sym (ap (λ (n : Node). is_sink_kind n.kind) found) ∙ spot.2 k (grind (arith, nat_tests, t, within))))

    failed : (t : Bool) → (k + 1 == length path) ≡ t → is_sink_kind node.kind ≡ false → is_sink_kind node.kind ≡ t
    failed true t e = let place : length path - 1 ≡ k = grind (arith, nat_tests, t, within) in absurd (true≢false (sym spot.1 ∙ ap (λ i. is_sink_kind (get_or path i node).kind) place ∙ ap (λ (n : Node). is_sink_kind n.kind) found ∙ e))
    failed false t e = e

    by : (b : Bool) → is_sink_kind node.kind ≡ b → is_sink_kind node.kind ≡ (k + 1 == length path)
    by true e = passed (k + 1 == length path) refl e
    by false e = failed (k + 1 == length path) refl e

pub path_some : (path : List Node) → EndsAtSink path → 0 < length path
path_some path ends = grind arith

kind_first : (kind : NodeKind) (rest : List ℕ) → has_line (Some (kind_word kind ++ rest)) ≡ true
kind_first kind rest = grind arith

node_first : (rows : ℕ) (node : Node) (after : List ℕ) → has_line (Some (line_of (node_text_of rows node ∷ []) ++ after)) ≡ true
node_first rows node after = ap (λ t. has_line (Some t)) (node_read rows node after) ∙ kind_first node.kind _

-- a path begins with a line
pub path_first : (rows : ℕ) (path : List Node) (after : List ℕ) → EndsAtSink path → has_line (Some (text_of (node_lines rows path) ++ after)) ≡ true
path_first rows [] after ends = absurd cc
path_first rows (node ∷ path) after ends = grind (arith, append_assoc, node_first)

pub node_begins : (left : Option (List ℕ)) (rows : ℕ) (node : Node) (rest : List ℕ) → has_line left ≡ false → left ≡ Some (line_of (node_text_of rows node ∷ []) ++ rest) → ⊥
node_begins left rows node rest none e = true≢false (sym (node_first rows node rest) ∙ sym (ap has_line e) ∙ none)

pub path_begins : (left : Option (List ℕ)) (rows : ℕ) (path : List Node) (rest : List ℕ) → EndsAtSink path → has_line left ≡ false → left ≡ Some (text_of (node_lines rows path) ++ rest) → ⊥
path_begins left rows path rest ends none e = true≢false (sym (path_first rows path rest ends) ∙ sym (ap has_line e) ∙ none)

pub line_there : (left : Option (List ℕ)) (after : List ℕ) → has_line left ≡ true → left ≢ Some (10 ∷ after)
line_there left after more e = true≢false (sym more ∙ ap has_line e)

-- ---- listed blocks

listed_joined : (block space name mark number close at paren x comma y shut dot end after : List ℕ)
    → (block ++ (((space ++ name) ++ ((space ++ ((mark ++ number) ++ close)) ++ ((space ++ at) ++ ((space ++ (((((paren ++ x) ++ comma) ++ y) ++ shut) ++ dot)) ++ [])))) ++ end)) ++ after
    ≡ block ++ (space ++ (name ++ (space ++ (mark ++ (number ++ (close ++ (space ++ (at ++ (space ++ (paren ++ (x ++ (comma ++ (y ++ (shut ++ (dot ++ (end ++ after))))))))))))))))
listed_joined block space name mark number close at paren x comma y shut dot end after = simp (append_assoc, append-nil)

pub listed_read : (circuit : Circuit) (number : ℕ) (laid : LaidBlock) (after : List ℕ)
    → line_of (listed_line circuit number laid) ++ after
    ≡ codes "Block " ++ (laid_name circuit laid ++ (codes " (#" ++ (decimal number ++ (codes ") at (" ++ (decimal laid.place.x ++ (codes "," ++ (decimal laid.place.y ++ (codes ").\n" ++ after))))))))
listed_read circuit number laid after = grind (arith, listed_joined (codes "Block") (codes " ") (laid_name circuit laid) (codes "(#") (decimal number) (codes ")") (codes "at") (codes "(") (decimal laid.place.x) (codes ",") (decimal laid.place.y) (codes ")") (codes ".") (10 ∷ []) after)

pub block_place : (layout : Layout) (block : ℕ) → All (λ laid. IsSmallPlace laid.place) layout.blocks → IsSmallPlace (block_of layout block).place
block_place layout block small = grind (arith, get_or_past)

pub listed_texts : (circuit : Circuit) (layout : Layout) (listed after : List ℕ) → text_of (map (λ block. listed_line circuit block (block_of layout block)) listed) ++ after ≡ texts_from (λ k block. line_of (listed_line circuit block (block_of layout block))) 0 listed ++ after
listed_texts circuit layout listed after =
    ap (λ t. t ++ after) (flat_map-map line_of (λ block. listed_line circuit block (block_of layout block)) listed ∙ texts_plain (λ block. line_of (listed_line circuit block (block_of layout block))) 0 listed)

-- ---- nets

pub heading_read : (circuit : Circuit) (number net : ℕ) (rest : List ℕ) → heading_text circuit number net ++ rest ≡ codes "Net " ++ (decimal number ++ (codes " (" ++ (net_name circuit net ++ rest)))
heading_read circuit number net rest = grind (arith, append_assoc)

-- what follows a net's name in its line, and the empty line
abbrev pub heading_rest : Bool → List ℕ
heading_rest true = codes " global net connecting:\n\n"
heading_rest false = codes "\n\n"

pub heading_split : (global : Bool) (name after : List ℕ) → name ++ (heading_end global ++ after) ≡ (name ++ name_end global) ++ (heading_rest global ++ after)
heading_split global name after = grind (arith, append_assoc)

pub rest_stops : (global : Bool) (after : List ℕ) → Stops is_word_end (heading_rest global ++ after)
rest_stops global after = grind arith

pub end_plain : (global : Bool) → IsPlain (name_end global)
end_plain global = grind arith

-- whether a net is global is read
pub global_read : (global found : Bool) (after : List ℕ) (old new : Option (List ℕ)) → old ≡ Some (heading_rest global ++ after) → found ≡ is_some (left_after old (codes " global net connecting:"))
    → new ≡ (if found then left_after old (codes " global net connecting:") else old) → (found ≡ global) × (new ≡ Some (codes "\n\n" ++ after))
global_read global found after old new e f g = grind arith

pub start_read : (strip : Strip) (after : List ℕ) → text_of (route_headings strip) ++ after ≡ size_text strip ++ (codes " logic blocks.\n\nRouting:\n\n" ++ after)
start_read strip after = grind (arith, append_assoc)

pub nets_texts : (circuit : Circuit) (strip : Strip) (layout : Layout) → nets_text circuit strip layout ≡ texts_from (λ k net. text_of (between_lines circuit strip layout k net net.listed)) 0 layout.nets ++ []
nets_texts circuit strip layout = grind (arith, flat_map-flat_map, texts_numbered, append-nil)

-- a net's lines, from its first line and the rest
pub net_read : (circuit : Circuit) (strip : Strip) (layout : Layout) (number : ℕ) (between : LaidNet) (listed after : List ℕ)
    → text_of (between_lines circuit strip layout number between listed) ++ after ≡ heading_text circuit number between.net ++ (heading_end (is_listed listed) ++ (net_rest circuit strip layout between listed ++ (10 ∷ after)))
net_read circuit strip layout number between [] after = grind (arith, net_printed, append_assoc, net_printed circuit strip layout number between [])
net_read circuit strip layout number between (first ∷ others) after =
    ap (λ t. t ++ after) (sym (net_printed circuit strip layout number between (first ∷ others))) ∙ three (heading_text circuit number between.net) (codes "): global net connecting:\n\n") (text_of (map (λ block. listed_line circuit block (block_of layout block)) (first ∷ others))) (10 ∷ []) after
  where
    three : (a b c d rest : List ℕ) → ((a ++ (b ++ c)) ++ d) ++ rest ≡ a ++ (b ++ (c ++ (d ++ rest)))
    three a b c d rest = simp append_assoc

pub longer : {X : Type 0} (done more : List X) (x : X) → more ≡ done ++ x ∷ [] → length more ≡ length done + 1
longer done more x e = ap length e ∙ length-append done (x ∷ [])

pub net_some : (circuit : Circuit) (strip : Strip) (layout : Layout) (k : ℕ) (net : LaidNet) (listed : List ℕ) → 0 < length (text_of (between_lines circuit strip layout k net listed))
net_some circuit strip layout k net listed = grind arith

pub rest_listed : (circuit : Circuit) (strip : Strip) (layout : Layout) (between : LaidNet) (listed : List ℕ) → is_listed listed ≡ true
    → (net_rest circuit strip layout between listed ≡ text_of (map (λ block. listed_line circuit block (block_of layout block)) listed)) × (listed ≢ [])
rest_listed circuit strip layout between listed is = grind arith

pub rest_paths : (circuit : Circuit) (strip : Strip) (layout : Layout) (between : LaidNet) (listed : List ℕ) → is_listed listed ≡ false
    → (net_rest circuit strip layout between listed ≡ text_of (flat_map (node_lines strip.rows) between.paths)) × ([] ≡ listed)
rest_paths circuit strip layout between listed is = grind arith

pub same_net : (net : LaidNet) (n : ℕ) (listed : List ℕ) (paths : List (List Node)) → n ≡ net.net → listed ≡ net.listed → paths ≡ net.paths → record { net = n; listed = listed; paths = paths } ≡ net
same_net net n listed paths e f g = rw (e, f, g) refl
