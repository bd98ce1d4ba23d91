-- The numbers of the nodes of a kind in a column and row.
use Rattle.rr_graph.proofs.Prelude.{ℕ, ◌≡◌, ◌+◌, ◌-◌, ◌*◌, ◌<◌, ◌≤◌, ap, ◌∙◌, arith, true, ◌&&◌, ◌||◌, nat_le, NodeKind, Node, Numbering, rank_of, is_chan_y, IsAt, Separates, member_key, IsNumbering, node_of, member_at, in_column, column_count, no_member}
use Rattle.rr_graph.proofs.Columns.{same_kind, separates_order}
use Rattle.rr_graph.proofs.Numberings.{place_of, node_of_place, node_small, all_small}
use Rattle.rr_graph.proofs.Graphs.{nodes_there}

-- a node's number results from its column and its index there
pub indexed : (nodes : Numbering) (kind : NodeKind) (x y first end i : ℕ) → IsNumbering nodes → y < 67 →
    Separates nodes.members.items (rank_of kind * 65536 + y * 256) first → Separates nodes.members.items (rank_of kind * 65536 + (y + 1) * 256) end →
    x * column_count nodes + first ≤ i + nodes.before → i + nodes.before < x * column_count nodes + end → IsAt kind x y (node_of nodes i)
indexed nodes kind x y first end i lawful row at_first at_end from to =
    let r : ℕ = i + nodes.before - x * column_count nodes in
    let is : i + nodes.before ≡ x * column_count nodes + r = omega arith in
    let below : r < end = omega arith in
    let within : r < column_count nodes = omega (arith, at_end.within) in
    let member = member_at nodes r in
    let small = all_small nodes lawful r no_member within in
    let low : rank_of kind * 65536 + y * 256 ≤ member_key member = at_first.after r no_member (omega arith) within in
    let high : member_key member < rank_of kind * 65536 + (y + 1) * 256 = at_end.before r no_member below in
    let node : node_of nodes i ≡ in_column x member = node_of_place nodes x r i within is in
    let rank : rank_of member.kind ≡ rank_of kind = omega (arith, low, high, small.0, small.1, row) in
    record {
      x = ap (λ (a : Node). a.x) node;
      kind = ap (λ (a : Node). a.kind) node ∙ same_kind member.kind kind rank;
      y = ap (λ (a : Node). a.y) node ∙ omega (arith, low, high, rank, small.0, small.1, row);
    }

pub found : (nodes : Numbering) (kind : NodeKind) (x y first end i : ℕ) → IsNumbering nodes →
    Separates nodes.members.items (rank_of kind * 65536 + y * 256) first → Separates nodes.members.items (rank_of kind * 65536 + (y + 1) * 256) end →
    IsAt kind x y (node_of nodes i) → (x * column_count nodes + first ≤ i + nodes.before) × (i + nodes.before < x * column_count nodes + end)
found nodes kind x y first end i lawful at_first at_end at = grind (arith, all_small, place_of nodes i lawful)

-- a column that has nodes of the kind doesn't begin in the missing part of column 0
pub room : (nodes : Numbering) (kind : NodeKind) (x y first : ℕ) → IsNumbering nodes → (nat_le 1 x || is_chan_y kind) ≡ true →
    Separates nodes.members.items (rank_of kind * 65536 + y * 256) first → nodes.before ≤ x * column_count nodes + first
room nodes kind x y first lawful has at = grind (arith, separates_order nodes.members.items (5 * 65536) (rank_of kind * 65536 + y * 256) nodes.before first lawful.before)

-- the columns and rows of nodes are those of the strip
pub has_place : (nodes : Numbering) (kind : NodeKind) (x y i : ℕ) → IsNumbering nodes → i + nodes.before < (nodes.strip.width + 1) * column_count nodes →
    IsAt kind x y (node_of nodes i) → (y < 66) × ((nat_le x nodes.strip.width && (nat_le 1 x || is_chan_y kind)) ≡ true)
has_place nodes kind x y i lawful within at = grind (arith, nodes_there nodes i lawful within, node_small nodes i lawful)
