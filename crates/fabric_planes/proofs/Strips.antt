-- A strip's routing graph consists of planes.
use Rattle.fabric_planes.proofs.Prelude.{◌≡◌, ℕ, ◌+◌, ◌*◌, ◌^◌, ◌<◌, ◌≤◌, ◌⊎◌, List, [], ◌∷◌, refl, sym, ap, ◌∙◌, subst, inl, inr, arith, true, Some, ◌==◌, ◌&&◌, ◌||◌, nat_le, All, Contains, and_parts, and_from, eqb-true, eq-eqb, leb-true, ltb-true, All-contains, All-contains_itself, All-nil, All-cons, few_pins, Strip, NodeKind, Source, Sink, Opin, Ipin, ChanX, ChanY, Node, IsBefore, rank_of, IsWire, is_node, is_slot, is_chan_y, is_together, Basis, IsBasis, IsRoutingGraph, graph_of, get_within, same_kind, member_small, member_of, definition_lawful, ends_few, few_nodes, edge_joins, IsLawful, Leads, IsFamily, AreLabels, Terminals, pins_of, stride_of, place_count, offset_of, place_of, is_same_spot, shows, track_by, graph_at, labels_of, planes_of, AreCosts, IsStart, AreTerminals, IsNetSearch, IsNearby, IsWireAt}
use Rattle.fabric_planes.proofs.Labeled.{is_family}
use Rattle.fabric_planes.proofs.Joins.{IsReached, reached}
use Rattle.fabric_planes.proofs.Offsets.{low_of, high_of, below_stride, kinds_apart, columns_apart, place_below}

-- ---- tests

pub spot_parts : (a b : Node) → is_same_spot a b ≡ true → (a.x ≡ b.x) × (a.y ≡ b.y) × (a.n ≡ b.n)
spot_parts a b h = grind arith

pub spot_itself : (a b : Node) → a ≡ b → is_same_spot a b ≡ true
spot_itself a b e = rw e (and_from (b.x == b.x) ((b.y == b.y) && (b.n == b.n)) (eq-eqb b.x b.x refl) (and_from (b.y == b.y) (b.n == b.n) (eq-eqb b.y b.y refl) (eq-eqb b.n b.n refl)))

pub together_parts : (strip : Strip) (a b : Node) → is_together strip a b ≡ true → (a.x ≡ b.x) × (a.y ≡ b.y)
together_parts strip a b h = grind arith

-- what is together with a node is together with one at the same spot
pub together_spot : (strip : Strip) (a b c : Node) → is_same_spot a b ≡ true → is_together strip a c ≡ true → is_together strip b c ≡ true
together_spot strip a b c s h = let e = spot_parts a b s in rw (sym e.0, sym e.1, sym e.2) h

-- the wires of a track are shown
pub wire_shows : (strip : Strip) (t : Terminals) (track : ℕ) (kind : NodeKind) (v : Node) → IsWire kind → v.n ≡ track → shows strip t track kind v ≡ true
wire_shows strip t track kind v w e = grind arith

-- ---- nodes

-- what is known of a node's row and number
abbrev pub IsSlot : Basis → NodeKind → Node → Type 0
IsSlot basis Opin node = node.n < pins_of basis
IsSlot basis Ipin node = node.n < pins_of basis
IsSlot basis ChanX node = (node.y ≤ basis.strip.rows) × (node.n < basis.arch.tracks)
IsSlot basis ChanY node = (node.y ≤ basis.strip.rows) × (node.n < basis.arch.tracks)
IsSlot basis _ node = Unit {0}

pub slot_facts : (basis : Basis) (kind : NodeKind) (node : Node) → is_slot basis.arch basis.strip kind node.y node.n ≡ true → IsSlot basis kind node
slot_facts basis kind node h = grind (arith, ltb-true, and_parts, get_within, leb-true)

pub node_column : (basis : Basis) (node : Node) → is_node basis.arch basis.strip node ≡ true → node.x ≤ basis.strip.width
node_column basis node h = leb-true node.x basis.strip.width (and_parts (nat_le node.x basis.strip.width) ((nat_le 1 node.x || is_chan_y node.kind) && is_slot basis.arch basis.strip node.kind node.y node.n) h).0

pub node_slot : (basis : Basis) (node : Node) → is_node basis.arch basis.strip node ≡ true → is_slot basis.arch basis.strip node.kind node.y node.n ≡ true
node_slot basis node h = grind arith

-- of two nodes of a kind in a column and row the first one has the lesser number
pub before_number : (a b : Node) → a.x ≡ b.x → rank_of a.kind ≡ rank_of b.kind → a.y ≡ b.y → IsBefore a b → a.n < b.n
before_number a b x k y h4 = grind arith

-- ---- wires and ends

abbrev IsEnd : NodeKind → Type 0
IsEnd Ipin = Unit {0}
IsEnd Sink = Unit {0}
IsEnd _ = ⊥

-- an edge from a pin before a sink, or from a sink, leads to another such node
end_next : (strip : Strip) (ka kb : NodeKind) (a b : Node) → IsEnd ka → IsReached strip ka kb a b → IsEnd kb
end_next strip ka kb a b e r = grind arith

-- such a node is no wire
end_track : (kind : NodeKind) (n track other : ℕ) → IsEnd kind → track_by kind n ≡ Some other → other ≡ track
end_track kind n track other i e = grind arith

-- the track of a wire is its number
pub track_number : (kind : NodeKind) (n track : ℕ) → track_by kind n ≡ Some track → IsWire kind × (n ≡ track)
track_number kind n track e = grind arith

module _ {basis : Basis} (is : IsBasis basis) where
  pub lawful : IsRoutingGraph basis (graph_of basis)
  lawful = definition_lawful basis is

  -- ---- edges

  abbrev node : ℕ → Node
  node = (graph_of basis).node

  pub edge_reached : (i j : ℕ) → i < (graph_of basis).count → Contains ((graph_of basis).ends i) j → (j < (graph_of basis).count) × IsReached basis.strip (node i).kind (node j).kind (node i) (node j)
  edge_reached i j b c =
      let p = (lawful.pairs i j b).0 c in
      (p.0, reached basis.arch basis.strip (node i).kind (node j).kind (node i) (node j) (edge_joins basis.arch basis.strip (node i) (node j) p.1))

  abbrev On : ℕ → ℕ → Type 0
  On track i = (other : ℕ) → track_by (node i).kind (node i).n ≡ Some other → other ≡ track

  module _ (cost : ℕ → ℕ) (goal : ℕ) where
    -- after a pin before a sink there is no wire
    ends_stay : (rest : List ℕ) (i track : ℕ) → i < (graph_of basis).count → IsEnd (node i).kind → Leads (graph_at basis cost) goal i rest → All (On track) rest
    ends_stay [] i track b e l = All-nil (On track)
    ends_stay (j ∷ rest) i track b e l =
        let r = edge_reached i j b l.0 in
        let n = end_next basis.strip (node i).kind (node j).kind (node i) (node j) e r.1 in
        All-cons (On track) j rest (λ other t. end_track (node j).kind (node j).n track other n t) (ends_stay rest j track r.0 n l.1)

    abbrev Stays : List ℕ → Type 0
    Stays rest = (i track : ℕ) → i < (graph_of basis).count → track_by (node i).kind (node i).n ≡ Some track → Leads (graph_at basis cost) goal i rest → All (On track) rest

    stays_more : (kb : NodeKind) (j : ℕ) (rest : List ℕ) (i track : ℕ) → (node j).kind ≡ kb → i < (graph_of basis).count → track_by (node i).kind (node i).n ≡ Some track
        → j < (graph_of basis).count → IsReached basis.strip (node i).kind kb (node i) (node j) → Leads (graph_at basis cost) goal j rest → Stays rest → All (On track) (j ∷ rest)
    stays_more Source j rest i track e b t bj r l next = absurd r
    stays_more Opin j rest i track e b t bj r l next = absurd (subst IsWire r.0 (track_number (node i).kind (node i).n track t).0)
    stays_more ChanX j rest i track e b t bj (inl o) l next = absurd (subst IsWire o (track_number (node i).kind (node i).n track t).0)
    stays_more ChanX j rest i track e b t bj (inr w) l next =
        let n : (node j).n ≡ track = sym w.1 ∙ (track_number (node i).kind (node i).n track t).1 in
        let s : track_by (node j).kind (node j).n ≡ Some track = rw e (ap Some n) in
        All-cons (On track) j rest (λ other o. cc) (next j track bj s l)
    stays_more ChanY j rest i track e b t bj (inl o) l next = absurd (subst IsWire o (track_number (node i).kind (node i).n track t).0)
    stays_more ChanY j rest i track e b t bj (inr w) l next =
        let n : (node j).n ≡ track = sym w.1 ∙ (track_number (node i).kind (node i).n track t).1 in
        let s : track_by (node j).kind (node j).n ≡ Some track = rw e (ap Some n) in
        All-cons (On track) j rest (λ other o. cc) (next j track bj s l)
    stays_more _ j rest i track e b t bj r l next =
        let n : IsEnd (node j).kind = subst IsEnd (sym e) tt in
        All-cons (On track) j rest (λ other s. end_track (node j).kind (node j).n track other n s) (ends_stay rest j track bj n l)

    stays : (rest : List ℕ) → Stays rest
    stays [] i track b t l = All-nil (On track)
    stays (j ∷ rest) i track b t l = grind (arith, stays_more, edge_reached i j b l.0, stays rest)

    -- a sink leads nowhere
    pub sink_last : (rest : List ℕ) (i : ℕ) → i < (graph_of basis).count → (node i).kind ≡ Sink → Leads (graph_at basis cost) goal i rest → (i ≡ goal) × (rest ≡ [])
    sink_last [] i b e l = (l, refl)
    sink_last (j ∷ rest) i b e l = grind (arith, edge_reached i j b l.0)

    -- an input pin leads to a sink of its block
    pin_last : (rest : List ℕ) (i : ℕ) → i < (graph_of basis).count → (node i).kind ≡ Ipin → (node goal).kind ≡ Sink → Leads (graph_at basis cost) goal i rest → is_together basis.strip (node i) (node goal) ≡ true
    pin_last [] i b e k l = grind arith
    pin_last (j ∷ rest) i b e k l = grind (arith, sink_last, edge_reached i j b l.0)

  -- ---- places

  slot_of : (i : ℕ) → i < (graph_of basis).count → IsSlot basis (node i).kind (node i)
  slot_of i b = slot_facts basis (node i).kind (node i) (node_slot basis (node i) (lawful.nodes i b))

  -- a node is among the places of its kind
  offset_in : (i : ℕ) → i < (graph_of basis).count → (low_of basis (node i).kind ≤ offset_of basis (node i).kind (node i)) × (offset_of basis (node i).kind (node i) < high_of basis (node i).kind)
  offset_in i b = grind (arith, slot_of i b)

  pub offset_few : (i : ℕ) → i < (graph_of basis).count → offset_of basis (node i).kind (node i) < stride_of basis
  offset_few i b = omega (arith, (offset_in i b).1, below_stride basis (node i).kind)

  module _ (t : Terminals) where
    abbrev pub Shown : ℕ → ℕ → Type 0
    Shown track i = shows basis.strip t track (node i).kind (node i) ≡ true

    pub low : (track i : ℕ) → i < (graph_of basis).count → Shown track i → place_of basis (node i) < place_count basis
    low track i b s = place_below basis (node i).x (offset_of basis (node i).kind (node i)) (node_column basis (node i) (lawful.nodes i b)) (offset_few i b)

    -- nodes of a kind in a column are in the order of their places
    row_order : (track i j : ℕ) → i < j → i < (graph_of basis).count → j < (graph_of basis).count → (kind : NodeKind) → (node i).kind ≡ kind → (node j).kind ≡ kind
        → shows basis.strip t track kind (node i) ≡ true → shows basis.strip t track kind (node j) ≡ true
        → ((node i).y < (node j).y) ⊎ (((node i).y ≡ (node j).y) × ((node i).n < (node j).n)) → offset_of basis kind (node i) < offset_of basis kind (node j)
    row_order track i j l bi bj kind ki kj si sj r = grind (arith, eqb-true)

    kind_order : (track i j : ℕ) → i < j → i < (graph_of basis).count → j < (graph_of basis).count → Shown track i → Shown track j
        → (rank_of (node i).kind < rank_of (node j).kind) ⊎ ((rank_of (node i).kind ≡ rank_of (node j).kind) × (((node i).y < (node j).y) ⊎ (((node i).y ≡ (node j).y) × ((node i).n < (node j).n))))
        → offset_of basis (node i).kind (node i) < offset_of basis (node j).kind (node j)
    kind_order track i j l bi bj si sj (inl r) =
        omega (arith, (offset_in i bi).1, (offset_in j bj).0, kinds_apart basis (node i).kind (node j).kind r)
    kind_order track i j l bi bj si sj (inr (r, more)) =
        let k : (node j).kind ≡ (node i).kind = sym (same_kind (node i).kind (node j).kind r) in
        subst (λ kind. offset_of basis (node i).kind (node i) < offset_of basis kind (node j)) (sym k)
        (row_order track i j l bi bj (node i).kind refl k si (subst (λ kind. shows basis.strip t track kind (node j) ≡ true) k sj) more)

    pub place_order : (track i j : ℕ) → i < j → i < (graph_of basis).count → j < (graph_of basis).count → Shown track i → Shown track j → IsBefore (node i) (node j) → place_of basis (node i) < place_of basis (node j)
    place_order track i j l bi bj si sj (inl x) =
        columns_apart basis (node i).x (node j).x (offset_of basis (node i).kind (node i)) (offset_of basis (node j).kind (node j)) x (offset_few i bi)
    place_order track i j l bi bj si sj (inr (x, more)) =
        let o = kind_order track i j l bi bj si sj more in
        let e : (((node i).x + 2) * stride_of basis) ≡ (((node j).x + 2) * stride_of basis) = ap (λ (x : ℕ). (x + 2) * stride_of basis) x in
        omega (arith, o, e)

  module _ {goal : ℕ} {t : Terminals} (terminals : AreTerminals basis goal t) where
    -- ---- what planes show

    goal_shown : (track : ℕ) → Shown t track goal
    goal_shown track = grind arith

    module _ (cost : ℕ → ℕ) where
      -- a pin before the sink, the sink and wires of the track are shown
      rest_shown : (track i : ℕ) (rest : List ℕ) → i < (graph_of basis).count → On track i → Leads (graph_at basis cost) goal i rest → (kind : NodeKind) → (node i).kind ≡ kind
          → (kind ≡ Source → shows basis.strip t track Source (node i) ≡ true) → (kind ≡ Opin → shows basis.strip t track Opin (node i) ≡ true) → shows basis.strip t track kind (node i) ≡ true
      rest_shown track i rest b on l Source k source output = source refl
      rest_shown track i rest b on l Sink k source output = spot_itself (node i) t.sink (ap node (sink_last cost goal rest i b k l).0 ∙ terminals.goal_is)
      rest_shown track i rest b on l Opin k source output = output refl
      rest_shown track i rest b on l Ipin k source output = grind (arith, pin_last)
      rest_shown track i rest b on l ChanX k source output = eq-eqb (node i).n track (on (node i).n (rw k refl))
      rest_shown track i rest b on l ChanY k source output = eq-eqb (node i).n track (on (node i).n (rw k refl))

      start_shown : (track i : ℕ) (rest : List ℕ) → IsStart basis t i → On track i → Leads (graph_at basis cost) goal i rest → Shown t track i
      start_shown track i rest s on l = grind (arith, rest_shown)

      end_shown : (track i j : ℕ) (rest : List ℕ) → i < (graph_of basis).count → Shown t track i → Contains ((graph_of basis).ends i) j → On track j → Leads (graph_at basis cost) goal j rest → Shown t track j
      end_shown track i j rest b s c on l = grind (arith, rest_shown, together_spot, edge_reached i j b c)

  -- ---- all

  -- the number of a wire is that of a track
  pub track_low : (i : ℕ) → IsWireAt basis i → (node i).n < basis.arch.tracks
  track_low i w = grind (arith, slot_facts basis (node i).kind (node i) (node_slot basis (node i) (lawful.nodes i w.within)))

  wire_low : (i track : ℕ) → i < (graph_of basis).count → track_by (node i).kind (node i).n ≡ Some track → track < basis.arch.tracks
  wire_low i track b e = grind (arith, track_low)

  graph_lawful : (cost : ℕ → ℕ) → AreCosts basis cost → IsLawful (graph_at basis cost)
  graph_lawful cost costs = record {
    few = few_nodes basis is;
    ends_below = λ i b. All-from_contains ((graph_of basis).ends i) (λ j c. (edge_reached i j b c).0);
    ends_few = λ i b. omega (arith, ends_few basis (graph_of basis) i lawful b, few_nodes basis is);
    cost_from = costs.some;
    cost_to = costs.few;
  }
    where
      All-from_contains : (xs : List ℕ) → ((x : ℕ) → Contains xs x → x < (graph_of basis).count) → All (λ x. x < (graph_of basis).count) xs
      All-from_contains xs each = λ k d b. each _ (All-contains_itself xs k d b)

  pub places_few : place_count basis ≤ 2 ^ 22
  places_few = grind (arith, few_pins)

  pub are_labels : (cost : ℕ → ℕ) (starts : List ℕ) (goal : ℕ) (t : Terminals) → IsNetSearch basis cost starts goal t → AreLabels (labels_of basis cost starts goal t)
  unfolding labels_of
  are_labels cost starts goal t s = record {
    lawful = graph_lawful cost s.costs;
    starts = λ k d b. (s.starts_are k d b).within;
    goal = s.terminals.goal_within;
    some = is.arch.tracks.0;
    few = places_few;
    wires = wire_low;
    stays = λ i track rest b e l. stays cost goal rest i track b e l;
    goal_shown = λ track few. goal_shown s.terminals track;
    low = λ track i b h. low t track i b h;
    order = λ track i j l b hi hj. place_order t track i j l (omega (arith, l, b)) b hi hj (lawful.ordered i j l b);
    starts_shown = λ track i rest few c on l. start_shown s.terminals cost track i rest (All-contains (IsStart basis t) starts i s.starts_are c) on l;
    ends_shown = λ track i j rest few b h c on l. end_shown s.terminals cost track i j rest b h c on l;
  }

  pub strip_family : (cost : ℕ → ℕ) (starts : List ℕ) (goal : ℕ) (t : Terminals) → IsNetSearch basis cost starts goal t → IsFamily (planes_of basis cost starts goal t)
  strip_family cost starts goal t s = is_family (labels_of basis cost starts goal t) (are_labels cost starts goal t s)

  -- the row of a wire
  pub wire_row : (i : ℕ) → i < (graph_of basis).count → IsWire (node i).kind → (node i).y ≤ basis.strip.rows
  wire_row i b w = grind (arith, node_slot basis (node i) (lawful.nodes i b))

-- a node's fields are within their limits
pub node_fields : {basis : Basis} → IsBasis basis → (v : Node) → is_node basis.arch basis.strip v ≡ true → IsNearby v
node_fields {basis} is v h = grind (arith, member_small basis.arch basis.strip is.arch is.strip (member_of v.kind v.y v.n) (node_slot basis v h))

pub node_near : {basis : Basis} → IsBasis basis → (i : ℕ) → i < (graph_of basis).count → (v : Node) → v ≡ (graph_of basis).node i → IsNearby v
node_near {basis} is i b v e = node_fields is v (subst (λ (v : Node). is_node basis.arch basis.strip v ≡ true) (sym e) ((lawful is).nodes i b))
