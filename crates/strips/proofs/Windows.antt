-- Which strips of the device the two ends of an edge belong to.
use Rattle.strips.proofs.Prelude.{ℕ, ◌≡◌, ◌+◌, ◌-◌, ◌<◌, ◌≤◌, ◌⊎◌, refl, sym, ap, ◌∙◌, arith, Bool, true, false, ◌&&◌, ◌||◌, nat_le, and_parts, eqb-true, leb-true, le-leb, false≢true, Arch, Strip, NodeKind, Source, Sink, Opin, Ipin, ChanX, ChanY, Node, is_node, is_edge, is_slot, is_chan_y, joins, runs_along, sides_at, crosses, is_next, node_at_offset, PlacedStrip, AreApart, strip_of_width, moved_back, is_in_window, IsPinOrAcross, IsBeside}

-- a column in which a strip has a node of that kind: one of its own, or, for a wire that runs
-- beside them, also the column to their left
abbrev IsInside : ℕ → ℕ → NodeKind → ℕ → Type 0
IsInside offset width Source x = (offset < x) × (x ≤ offset + width)
IsInside offset width Sink x = (offset < x) × (x ≤ offset + width)
IsInside offset width Opin x = (offset < x) × (x ≤ offset + width)
IsInside offset width Ipin x = (offset < x) × (x ≤ offset + width)
IsInside offset width ChanX x = (offset < x) × (x ≤ offset + width)
IsInside offset width ChanY x = (offset ≤ x) × (x ≤ offset + width)

from_inside : (offset width : ℕ) (kind : NodeKind) (x : ℕ) → IsInside offset width kind x → (offset ≤ x) × (x ≤ offset + width)
from_inside offset width kind x h = grind arith

or_false : (b : Bool) → (b || false) ≡ true → b ≡ true
or_false b h = grind arith

own_column : (offset width x : ℕ) → offset ≤ x → x - offset ≤ width → (nat_le 1 (x - offset) || false) ≡ true → (offset < x) × (x ≤ offset + width)
own_column offset width x lo hi h = (omega (arith, leb-true 1 (x - offset) (or_false (nat_le 1 (x - offset)) h)), omega (arith, lo, hi))

inside_from : (offset width : ℕ) (kind : NodeKind) (x : ℕ) → offset ≤ x → x - offset ≤ width → (nat_le 1 (x - offset) || is_chan_y kind) ≡ true → IsInside offset width kind x
inside_from offset width kind x lo hi h = grind arith

-- what a column contains doesn't depend on the number of columns
slot_of_width : (arch : Arch) (device : Strip) (width : ℕ) (kind : NodeKind) (y n : ℕ) → is_slot arch (strip_of_width device width) kind y n ≡ is_slot arch device kind y n
slot_of_width arch device width kind y n = grind arith

-- what follows when a node is in a strip's window
window_inside : (arch : Arch) (device : Strip) (strip : PlacedStrip) (node : Node) → is_in_window arch device strip node ≡ true → IsInside strip.offset strip.width node.kind node.x
window_inside arch device strip node h = grind (arith, inside_from, leb-true)

-- a node of the device in such a column is in the window
inside_window : (arch : Arch) (device : Strip) (strip : PlacedStrip) (node : Node) → is_node arch device node ≡ true → IsInside strip.offset strip.width node.kind node.x → is_in_window arch device strip node ≡ true
inside_window arch device strip node is inside = grind (arith, le-leb)

-- the columns of a pin and a wire that meet
meets_across : (arch : Arch) (strip : Strip) (pin wire : Node) → runs_along (sides_at arch strip pin) pin ChanX wire.x wire.y ≡ true → wire.x ≡ pin.x
meets_across arch strip pin wire h = eqb-true wire.x pin.x (and_parts _ _ h).0

meets_up : (arch : Arch) (strip : Strip) (pin wire : Node) → runs_along (sides_at arch strip pin) pin ChanY wire.x wire.y ≡ true → (wire.x ≡ pin.x) ⊎ (wire.x + 1 ≡ pin.x)
meets_up arch strip pin wire h = grind arith

crossing : (across up : Node) → crosses across up ≡ true → (up.x ≡ across.x) ⊎ (up.x + 1 ≡ across.x)
crossing across up h = grind arith

-- the column in which an edge that leaves a strip's columns ends
abbrev Ends : ℕ → ℕ → NodeKind → ℕ → Type 0
Ends offset width kind x = IsPinOrAcross kind × ((x ≡ offset) ⊎ (x ≡ offset + width + 1))

-- an edge within one column leaves no strip
stays : (offset width x x' : ℕ) → (offset < x) × (x ≤ offset + width) → x ≡ x' → ((offset < x') × (x' ≤ offset + width) → ⊥) → ⊥
stays offset width x x' inside e out = out (omega (arith, inside.0, e), omega (arith, inside.1, e))

-- from a wire right of a column to that column or the next
rim : (offset width x x' : ℕ) → (offset ≤ x) × (x ≤ offset + width) → (x ≡ x') ⊎ (x + 1 ≡ x') → ((offset < x') × (x' ≤ offset + width) → ⊥) → (x' ≡ offset) ⊎ (x' ≡ offset + width + 1)
rim offset width x x' inside h2 out = grind arith

-- to the wires on both sides of a column
sides_stay : (offset width x x' : ℕ) → (offset < x) × (x ≤ offset + width) → (x' ≡ x) ⊎ (x' + 1 ≡ x) → ((offset ≤ x') × (x' ≤ offset + width) → ⊥) → ⊥
sides_stay offset width x x' inside h2 out = grind arith

-- to the wire of the next column or the one before
next_leaves : (offset width x x' : ℕ) → (offset < x) × (x ≤ offset + width) → is_next x x' ≡ true → ((offset < x') × (x' ≤ offset + width) → ⊥) → (x' ≡ offset) ⊎ (x' ≡ offset + width + 1)
next_leaves offset width x x' inside h out = grind arith

leaves : (arch : Arch) (device : Strip) (offset width : ℕ) (ka kb : NodeKind) (a b : Node) → a.kind ≡ ka → b.kind ≡ kb → joins arch device ka kb a b ≡ true →
    IsInside offset width ka a.x → (IsInside offset width kb b.x → ⊥) → Ends offset width kb b.x
leaves arch device offset width ka kb a b ea eb h inside out = grind (arith, stays, eqb-true, and_parts, meets_across, sides_stay, meets_up, next_leaves, crossing, rim)

-- an edge that leaves a strip's window ends beside the strip
pub pair_leaves : (arch : Arch) (device : Strip) (strip : PlacedStrip) (a b : Node) → is_edge arch device a b ≡ true → is_in_window arch device strip a ≡ true →
    is_in_window arch device strip b ≡ false → IsBeside strip b
pair_leaves arch device strip a b edge within without' =
    let outer = and_parts (is_node arch device a) (is_node arch device b && joins arch device a.kind b.kind a b) edge in
    let inner = and_parts (is_node arch device b) (joins arch device a.kind b.kind a b) outer.1 in
    let ends = leaves arch device strip.offset strip.width a.kind b.kind a b refl refl inner.1 (window_inside arch device strip a within)
    (λ inside. false≢true (sym without' ∙ inside_window arch device strip b inner.0 inside)) in
    record { kind = ends.0; column = ends.1 }

pub beside_outside : (arch : Arch) (device : Strip) (strip other : PlacedStrip) (node : Node) → AreApart strip other → IsBeside strip node → is_in_window arch device other node ≡ false
beside_outside arch device strip other node apart beside = search arith

-- no node is in the windows of two strips that are apart
pub windows_apart : (arch : Arch) (device : Strip) (strip other : PlacedStrip) (node : Node) → AreApart strip other → is_in_window arch device strip node ≡ true → is_in_window arch device other node ≡ false
windows_apart arch device strip other node apart within = search (window_inside, arith)

-- moving a node right and back gives the node again
there_and_back : (d : ℕ) (node : Node) → moved_back d (node_at_offset d node) ≡ node
there_and_back d node = ap (λ x. record { x = x; kind = node.kind; y = node.y; n = node.n }) (omega arith)

-- a strip's node is in its window
pub node_there : (arch : Arch) (device : Strip) (strip : PlacedStrip) (node : Node) → is_node arch (strip_of_width device strip.width) node ≡ true →
    (is_in_window arch device strip (node_at_offset strip.offset node) ≡ true) × (moved_back strip.offset (node_at_offset strip.offset node) ≡ node)
node_there arch device strip node is = grind (arith, there_and_back, le-leb)

window_node : (arch : Arch) (device : Strip) (strip : PlacedStrip) (node : Node) → is_in_window arch device strip node ≡ true →
    (strip.offset ≤ node.x) × (is_node arch (strip_of_width device strip.width) (moved_back strip.offset node) ≡ true)
window_node arch device strip node h = grind arith

-- a pair of nodes in a window is an edge of the strip exactly if it is an edge of the device
pub pair_within : (arch : Arch) (device : Strip) (strip : PlacedStrip) (a b : Node) → is_in_window arch device strip a ≡ true → is_in_window arch device strip b ≡ true →
    (is_node arch (strip_of_width device strip.width) (moved_back strip.offset a) ≡ true → is_node arch (strip_of_width device strip.width) (moved_back strip.offset b) ≡ true →
    is_edge arch device (node_at_offset strip.offset (moved_back strip.offset a)) (node_at_offset strip.offset (moved_back strip.offset b)) ≡ is_edge arch (strip_of_width device strip.width) (moved_back strip.offset a) (moved_back strip.offset b)) →
    is_edge arch device a b ≡ is_edge arch (strip_of_width device strip.width) (moved_back strip.offset a) (moved_back strip.offset b)
pair_within arch device strip a b in_a in_b moves = grind (arith, window_node)
