-- Wires of one track, and their indices in a column.
use Rattle.rr_graph.proofs.Prelude.{ℕ, zero, suc, ◌≡◌, ◌+◌, ◌-◌, ◌*◌, ◌<◌, ◌≤◌, List, [], ◌∷◌, ◌++◌, length, get_or, refl, sym, ap, ◌∙◌, subst, inl, inr, arith, true, false, Contains, cases_lt, le-leb, false≢true, mul-le, get_or_append_left, get_or_push, length_push, Arch, Strip, NodeKind, Node, Member, Numbering, IsWire, is_wire, is_slot, rank_of, Separates, member_key, IsRising, AreFirsts, IsNumbering, member_at, in_column, column_count, no_member, IsRowBelow, IsRowAt, may_reach, rows_above}
use Rattle.rr_graph.proofs.Columns.{member_of, member_found, same_kind, rank_few, separates_order, separates_some}
use Rattle.rr_graph.proofs.GeometryLaws.{own_track}
use Rattle.rr_graph.proofs.Numberings.{node_of_place, all_small}
use Rattle.rr_graph.proofs.Rows.{leads, leads_reached, row_skip, part_push, kind_begins, kind_ends}

-- ---- the first index of each kind and row

pub firsts_push : (members : List Member) (firsts : List ℕ) (kind : NodeKind) (y index : ℕ) → y < 68 → AreFirsts members firsts (rank_of kind * 68 + y) →
    Separates members (rank_of kind * 65536 + y * 256) index → AreFirsts members (firsts ++ index ∷ []) (rank_of kind * 68 + (y + 1))
firsts_push members firsts kind y index low old at = search (length_push, get_or_append_left, get_or_push, arith)

-- ---- the indices of the wires of a row

-- the member at a position is at the position's index
separates_at : (members : List Member) (p i : ℕ) (member : Member) → IsRising members → Separates members p i → Contains members member → member_key member ≡ p → (i < length members) × (get_or members i member ≡ member)
separates_at members p i member rising at (k, within, is) e =
    let key : member_key (get_or members k member) ≡ p = ap member_key is ∙ e in
    elim (cases_lt k i) [
      | inl lt ↦ absurd (let b : member_key (get_or members k member) < p = at.before k member lt in omega (arith, b, key))
      | inr ge ↦ elim (cases_lt i k) [
        | inl lt ↦ absurd (
            let r : member_key (get_or members i member) < member_key (get_or members k member) = rising i k member lt within in
            let a : p ≤ member_key (get_or members i member) = at.after i member (omega arith) (omega arith) in
            omega (arith, r, a, key))
        | inr le ↦ (let same : k ≡ i = omega arith in (omega (arith, same, within), subst (λ j. get_or members j member ≡ member) same is))
      ]
    ]

-- within a list the default doesn't matter
any_default : (xs : List Member) (j : ℕ) (c d : Member) → j < length xs → get_or xs j d ≡ get_or xs j c
any_default [] j c d lt = absurd (omega arith)
any_default (x ∷ xs) zero c d lt = refl
any_default (x ∷ xs) (suc j) c d lt = any_default xs j c d (omega arith)

-- the next position has the next index
separates_next : (members : List Member) (p i : ℕ) (member : Member) → IsRising members → Separates members p i → Contains members member → member_key member ≡ p → Separates members (p + 1) (i + 1)
separates_next members p i member rising at found e =
    let stands = separates_at members p i member rising at found e in
    let key : member_key (get_or members i member) ≡ p = ap member_key stands.1 ∙ e in
    record {
      within = omega (arith, stands.0);
      before = λ k d lt. elim (cases_lt k i) [
        | inl less ↦ (let b : member_key (get_or members k d) < p = at.before k d less in omega (arith, b))
        | inr ge ↦ (let same : i ≡ k = omega arith in
            let here : member_key (get_or members k d) ≡ p = subst (λ j. member_key (get_or members j d) ≡ p) same (ap member_key (any_default members i member d stands.0) ∙ key) in
            omega (arith, here))
      ];
      after = λ k d ge lt.
          let r : member_key (get_or members i d) < member_key (get_or members k d) = rising i k d (omega arith) lt in
          let here : member_key (get_or members i d) ≡ p = ap member_key (any_default members i member d stands.0) ∙ key in
          omega (arith, r, here);
    }

-- a row has all tracks before one that it has
earlier_track : (arch : Arch) (strip : Strip) (kind : NodeKind) (y m : ℕ) → is_wire kind ≡ true → is_slot arch strip kind y (suc m) ≡ true → is_slot arch strip kind y m ≡ true
earlier_track arch strip kind y m wire h = grind arith

-- a member of the column
contained : (nodes : Numbering) (kind : NodeKind) (y n : ℕ) → IsNumbering nodes → y < 68 → n < 256 → is_slot nodes.arch nodes.strip kind y n ≡ true → Contains nodes.members.items (member_of kind y n)
contained nodes kind y n lawful low few is = member_found nodes.members.items (member_of kind y n) (lawful.column.all.complete (member_of kind y n) is (omega (arith, rank_few kind, low, few)))

-- a track's index is that of the row's first track plus its number
pub track_index : (nodes : Numbering) (kind : NodeKind) (y first n : ℕ) → IsNumbering nodes → y < 68 → n < 256 → is_wire kind ≡ true → is_slot nodes.arch nodes.strip kind y n ≡ true →
    Separates nodes.members.items (rank_of kind * 65536 + y * 256) first → Separates nodes.members.items (rank_of kind * 65536 + y * 256 + n) (first + n)
track_index nodes kind y first zero lawful low few wire is at =
    let p : rank_of kind * 65536 + y * 256 ≡ rank_of kind * 65536 + y * 256 + 0 = omega arith in
    let i : first ≡ first + 0 = omega arith in
    subst (λ q. Separates nodes.members.items q (first + 0)) p (subst (Separates nodes.members.items (rank_of kind * 65536 + y * 256)) i at)
track_index nodes kind y first (suc m) lawful low few wire is at =
    let is' = earlier_track nodes.arch nodes.strip kind y m wire is in
    let before = track_index nodes kind y first m lawful low (omega arith) wire is' at in
    let p : rank_of kind * 65536 + y * 256 + m + 1 ≡ rank_of kind * 65536 + y * 256 + suc m = omega arith in
    let i : first + m + 1 ≡ first + suc m = omega arith in
    subst (λ q. Separates nodes.members.items q (first + suc m)) p (subst (Separates nodes.members.items (rank_of kind * 65536 + y * 256 + m + 1)) i
    (separates_next nodes.members.items (rank_of kind * 65536 + y * 256 + m) (first + m) (member_of kind y m) lawful.column.all.rising before (contained nodes kind y m lawful low (omega arith) is') refl))

-- ---- the wire of a's own track in a row

wire_is : (kind : NodeKind) → is_wire kind ≡ true → IsWire kind
wire_is kind h = grind arith

-- the members between the positions of two rows
row_member : (nodes : Numbering) (kind : NodeKind) (y r : ℕ) → IsNumbering nodes → y < 68 → r < column_count nodes →
    rank_of kind * 65536 + y * 256 ≤ member_key (member_at nodes r) → member_key (member_at nodes r) < rank_of kind * 65536 + (y + 1) * 256 →
    ((member_at nodes r).kind ≡ kind) × ((member_at nodes r).y ≡ y) × (member_key (member_at nodes r) ≡ rank_of kind * 65536 + y * 256 + (member_at nodes r).n)
row_member nodes kind y r lawful low here from to = grind (arith, all_small)

-- an edge from the wire into the row leads to its own track
own_number : (nodes : Numbering) (a : Node) (x : ℕ) (member : Member) → is_wire a.kind ≡ true → is_wire member.kind ≡ true → leads nodes a (in_column x member) ≡ true → a.n ≡ member.n
own_number nodes a x member wa wb h = own_track nodes.arch nodes.strip a.kind member.kind a (in_column x member) (wire_is a.kind wa) (wire_is member.kind wb) h

-- no edge leads to another member of the row
pass_others : (nodes : Numbering) (a : Node) (row : List ℕ) (x from to y : ℕ) (kind : NodeKind) → IsNumbering nodes → y < 68 → is_wire a.kind ≡ true → is_wire kind ≡ true → from ≤ to → to ≤ column_count nodes →
    IsRowBelow nodes a row (x * column_count nodes + from) →
    ((r : ℕ) → from ≤ r → r < to → (rank_of kind * 65536 + y * 256 ≤ member_key (member_at nodes r)) × (member_key (member_at nodes r) < rank_of kind * 65536 + (y + 1) * 256)) →
    ((r : ℕ) → from ≤ r → r < to → leads nodes a (in_column x (member_at nodes r)) ≡ true → member_key (member_at nodes r) ≡ rank_of kind * 65536 + y * 256 + a.n → ⊥) →
    IsRowBelow nodes a row (x * column_count nodes + to)
pass_others nodes a row x from to y kind lawful low wa wb order within old between none =
    row_skip nodes a row _ _ old (omega arith) (λ j least most leads'.
    let r : ℕ = j + nodes.before - x * column_count nodes in
    let e : j + nodes.before ≡ x * column_count nodes + r = omega arith in
    let here : r < column_count nodes = omega arith in
    let led : leads nodes a (in_column x (member_at nodes r)) ≡ true = subst (λ b. leads nodes a b ≡ true) (node_of_place nodes x r j here e) leads' in
    let span = between r (omega arith) (omega arith) in
    let member = row_member nodes kind y r lawful low here span.0 span.1 in
    let own : a.n ≡ (member_at nodes r).n = own_number nodes a x (member_at nodes r) wa (ap is_wire member.0 ∙ wb) led in
    none r (omega arith) (omega arith) led (omega (arith, member.2, own)))

-- the row doesn't have this wire
pub wire_none : (nodes : Numbering) (a : Node) (row : List ℕ) (x y : ℕ) (kind : NodeKind) → IsNumbering nodes → y < 68 → is_wire a.kind ≡ true → is_wire kind ≡ true →
    IsRowAt nodes a row x (rank_of kind * 65536 + y * 256) →
    (is_slot nodes.arch nodes.strip kind y a.n ≡ true → leads nodes a (in_column x (member_of kind y a.n)) ≡ true → ⊥) →
    IsRowAt nodes a row x (rank_of kind * 65536 + (y + 1) * 256)
wire_none nodes a row x y kind lawful low wa wb old isn't index at =
    let first = separates_some nodes.members.items (rank_of kind * 65536 + y * 256) lawful.column.all.rising in
    let order : first.0 ≤ index = separates_order nodes.members.items _ _ first.0 index first.1 at (omega arith) in
    let span : (r : ℕ) → first.0 ≤ r → r < index → (rank_of kind * 65536 + y * 256 ≤ member_key (member_at nodes r)) × (member_key (member_at nodes r) < rank_of kind * 65536 + (y + 1) * 256) =
    λ r least most. (first.1.after r no_member least (omega (arith, at.within)), at.before r no_member most) in
    pass_others nodes a row x first.0 index y kind lawful low wa wb order at.within (old first.0 first.1) span
    (λ r least most led key.
    let here : r < column_count nodes = omega (arith, at.within) in
    let two = span r least most in
    let member = row_member nodes kind y r lawful low here two.0 two.1 in
    let n : (member_at nodes r).n ≡ a.n = omega (arith, member.2, key) in
    let same : member_at nodes r ≡ member_of kind y a.n = same_parts (member_at nodes r) kind y a.n member.0 member.1 n in
    let there : is_slot nodes.arch nodes.strip (member_at nodes r).kind (member_at nodes r).y (member_at nodes r).n ≡ true = lawful.column.all.sound r no_member here in
    isn't (subst (λ (s : Member). is_slot nodes.arch nodes.strip s.kind s.y s.n ≡ true) same there) (subst (λ s. leads nodes a (in_column x s) ≡ true) same led))
  where
    same_parts : (member : Member) (k : NodeKind) (v n : ℕ) → member.kind ≡ k → member.y ≡ v → member.n ≡ n → member ≡ member_of k v n
    same_parts member k v n ek ev en = ap (λ z. member_of z member.y member.n) ek ∙ (ap (λ z. member_of k z member.n) ev ∙ ap (λ z. member_of k v z) en)

-- column 0 has only the vertical channel
pub wire_there : (nodes : Numbering) (x y first n : ℕ) (kind : NodeKind) → IsNumbering nodes → Separates nodes.members.items (rank_of kind * 65536 + y * 256) first → ((x ≡ 0) → rank_of kind ≡ 5) →
    nodes.before ≤ x * column_count nodes + (first + n)
wire_there nodes x y first n kind lawful at there = elim (cases_lt 0 x) [
  | inl some ↦ (let many : 1 * column_count nodes ≤ x * column_count nodes = mul-le 1 (column_count nodes) x (column_count nodes) some (omega arith) in
      omega (arith, lawful.before.within))
  | inr none ↦ (let rank : rank_of kind ≡ 5 = there (omega arith) in
      let order : nodes.before ≤ first = separates_order nodes.members.items _ _ nodes.before first lawful.before at (omega arith) in
      omega arith)
]

-- the row has this wire, and it is appended
pub wire_added : (nodes : Numbering) (a : Node) (row : List ℕ) (x y first : ℕ) (kind : NodeKind) → IsNumbering nodes → y < 68 → a.n < 145 → is_wire a.kind ≡ true → is_wire kind ≡ true →
    ((x ≡ 0) → rank_of kind ≡ 5) → Separates nodes.members.items (rank_of kind * 65536 + y * 256) first →
    IsRowAt nodes a row x (rank_of kind * 65536 + y * 256) →
    is_slot nodes.arch nodes.strip kind y a.n ≡ true → leads nodes a (in_column x (member_of kind y a.n)) ≡ true →
    IsRowAt nodes a (row ++ (x * column_count nodes + (first + a.n) - nodes.before) ∷ []) x (rank_of kind * 65536 + (y + 1) * 256)
wire_added nodes a row x y first kind lawful low few wa wb there at_first old is led index at =
    let p : ℕ = rank_of kind * 65536 + y * 256 in
    let i : ℕ = first + a.n in
    let here = track_index nodes kind y first a.n lawful low (omega arith) wb is at_first in
    let found = contained nodes kind y a.n lawful low (omega arith) is in
    let stands = separates_at nodes.members.items (p + a.n) i (member_of kind y a.n) lawful.column.all.rising here found refl in
    let member_is : member_at nodes i ≡ member_of kind y a.n = any_default nodes.members.items i (member_of kind y a.n) no_member stands.0 ∙ stands.1 in
    let next = separates_next nodes.members.items (p + a.n) i (member_of kind y a.n) lawful.column.all.rising here found refl in
    let order : i + 1 ≤ index = separates_order nodes.members.items _ _ (i + 1) index next at (omega arith) in
    let start = pass_others nodes a row x first i y kind lawful low wa wb (omega arith) here.within (old first at_first)
    (λ r least most. (at_first.after r no_member least (omega (arith, here.within)), (let b : member_key (member_at nodes r) < p + a.n = here.before r no_member most in omega (arith, b, few))))
    (λ r least most led' key. (let b : member_key (member_at nodes r) < p + a.n = here.before r no_member most in omega (arith, b, key))) in
    let pushed = part_push nodes a row x i stands.0 (wire_there nodes x y first a.n kind lawful at_first there) start (subst (λ s. leads nodes a (in_column x s) ≡ true) (sym member_is) led) in
    pass_others nodes a _ x (i + 1) index y kind lawful low wa wb order at.within pushed
    (λ r least most. ((let b : p + a.n + 1 ≤ member_key (member_at nodes r) = next.after r no_member least (omega (arith, at.within)) in omega (arith, b)), at.before r no_member most))
    (λ r least most led' key. (let b : p + a.n + 1 ≤ member_key (member_at nodes r) = next.after r no_member least (omega (arith, at.within)) in omega (arith, b, key)))

-- ---- all rows of a kind

-- a node to which an edge leads can be reached
reached : (nodes : Numbering) (a b : Node) → leads nodes a b ≡ true → may_reach a b.kind b.x ≡ true
reached nodes a b led = grind (arith, leads_reached, le-leb)

pub kind_none : (nodes : Numbering) (a : Node) (row : List ℕ) (x : ℕ) (kind : NodeKind) → IsNumbering nodes → may_reach a kind x ≡ false →
    IsRowAt nodes a row x (rank_of kind * 65536) → IsRowAt nodes a row x ((rank_of kind + 1) * 65536)
kind_none nodes a row x kind lawful isn't old index at =
    let first = separates_some nodes.members.items (rank_of kind * 65536) lawful.column.all.rising in
    let order : first.0 ≤ index = separates_order nodes.members.items _ _ first.0 index first.1 at (omega arith) in
    row_skip nodes a row _ _ (old first.0 first.1) (omega arith) (λ j least most leads'.
    let r : ℕ = j + nodes.before - x * column_count nodes in
    let e : j + nodes.before ≡ x * column_count nodes + r = omega arith in
    let here : r < column_count nodes = omega (arith, at.within) in
    let led : leads nodes a (in_column x (member_at nodes r)) ≡ true = subst (λ b. leads nodes a b ≡ true) (node_of_place nodes x r j here e) leads' in
    let small = all_small nodes lawful r no_member here in
    let from : rank_of kind * 65536 ≤ member_key (member_at nodes r) = first.1.after r no_member (omega arith) here in
    let to : member_key (member_at nodes r) < (rank_of kind + 1) * 65536 = at.before r no_member (omega arith) in
    let same : (member_at nodes r).kind ≡ kind = same_kind (member_at nodes r).kind kind (omega (arith, small.0, small.1, from, to)) in
    false≢true (sym isn't ∙ (ap (λ k. may_reach a k x) (sym same) ∙ reached nodes a (in_column x (member_at nodes r)) led)))

-- the rows before those that can have ends
pub track_begins : (nodes : Numbering) (a : Node) (row : List ℕ) (x : ℕ) (kind : NodeKind) → IsNumbering nodes → a.y < 66 →
    IsRowAt nodes a row x (rank_of kind * 65536) → IsRowAt nodes a row x (rank_of kind * 65536 + (a.y - rows_above kind a.kind) * 256)
track_begins nodes a row x kind lawful low old index at = kind_begins nodes a row x index kind lawful low at old

-- the rows after those that can have ends
pub track_ends : (nodes : Numbering) (a : Node) (row : List ℕ) (x : ℕ) (kind : NodeKind) → IsNumbering nodes → a.y + rows_above a.kind kind + 1 < 68 →
    IsRowAt nodes a row x (rank_of kind * 65536 + (a.y + rows_above a.kind kind + 1) * 256) → IsRowAt nodes a row x ((rank_of kind + 1) * 65536)
track_ends nodes a row x kind lawful few old =
    let stop = separates_some nodes.members.items (rank_of kind * 65536 + (a.y + rows_above a.kind kind + 1) * 256) lawful.column.all.rising in
    kind_ends nodes a row x stop.0 kind lawful few stop.1 (old stop.0 stop.1)
