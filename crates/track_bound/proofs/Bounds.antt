-- Of legal routes no more cross a column than it has horizontal wires.
use Rattle.track_bound.proofs.Prelude.{ℕ, ◌≡◌, ◌+◌, ◌*◌, ◌<◌, ◌≤◌, ◌⊎◌, Bool, true, false, cond, ◌&&◌, ◌||◌, eq-eqb, List, [], ◌∷◌, map, refl, inl, inr, arith, ap, subst, sym, ◌∙◌, count_by, nat_le, nat_lt, Contains, list_any, and_from, and_parts, false≢true, leb-true, ltb-true, not-true, or_cases, list_any_at, Arch, block_at, place_of, BlockNet, block_nets, PackedCircuit, Strip, Place, IsLegal, IsRoute, IsRouted, path_nodes, is_same_node, net_sinks, net_source, sink_at, in_first, in_later, in_none, ChanX, Node, capacity_of, is_block_row, is_chan_y, is_node, is_slot, make_node, rank_of, any_below, crosses_column, crossing_count, is_between}
use Rattle.track_bound.proofs.Chains.{AreApart, IsOver, leads_across}
use Rattle.track_bound.proofs.Counts.{any_at, count_any, count_zip}

-- a path of the net has the node
abbrev uses : Node → List (List Node) → Bool
uses node paths = list_any (is_same_node node) (path_nodes paths)

-- a path of the net has a horizontal wire over the column
abbrev uses_over : Arch → Strip → ℕ → List (List Node) → Bool
uses_over arch strip column paths = any_below (λ y. any_below (λ n. uses (make_node column ChanX y n) paths) arch.tracks) (strip.rows + 1)

-- ---- a wire on a path

same_node : (node : Node) → is_same_node node node ≡ true
same_node node = and_from _ _ (eq-eqb node.x node.x refl) (and_from _ _ (eq-eqb (rank_of node.kind) (rank_of node.kind) refl) (and_from _ _ (eq-eqb node.y node.y refl) (eq-eqb node.n node.n refl)))

uses_from : (node : Node) (paths : List (List Node)) → Contains (path_nodes paths) node → uses node paths ≡ true
uses_from node paths c = list_any_at (is_same_node node) (path_nodes paths) c.0 node c.1 (subst (λ other. is_same_node node other ≡ true) (sym c.2) (same_node node))

-- the row and the track of a horizontal wire
pub record IsChannel (arch : Arch) (strip : Strip) (node : Node) : Type 0 where
  pub row : node.y < strip.rows + 1
  pub track : node.n < arch.tracks

channel : (arch : Arch) (strip : Strip) (node : Node) → node.kind ≡ ChanX → is_node arch strip node ≡ true → IsChannel arch strip node
channel arch strip node kind there =
    let slot = is_slot arch strip node.kind node.y node.n in
    let rest = (and_parts (nat_le node.x strip.width) ((nat_le 1 node.x || is_chan_y node.kind) && slot) there).1 in
    let there_slot : is_slot arch strip node.kind node.y node.n ≡ true = (and_parts (nat_le 1 node.x || is_chan_y node.kind) slot rest).1 in
    let at = and_parts (nat_le node.y strip.rows) (nat_lt node.n arch.tracks) (subst (λ k. is_slot arch strip k node.y node.n ≡ true) kind there_slot) in
    let row : node.y ≤ strip.rows = leb-true node.y strip.rows at.0 in
    record { row = omega (arith, row); track = ltb-true node.n arch.tracks at.1 }

over_used : (arch : Arch) (strip : Strip) (column : ℕ) (paths : List (List Node)) (node : Node) → IsOver arch strip paths column node → uses_over arch strip column paths ≡ true
over_used arch strip column paths node is =
    let at = channel arch strip node is.kind is.there in
    let same : node ≡ make_node column ChanX node.y node.n = ap (λ x. make_node x node.kind node.y node.n) is.x ∙ ap (λ k. make_node column k node.y node.n) is.kind in
    let used : uses (make_node column ChanX node.y node.n) paths ≡ true = subst (λ n. uses n paths ≡ true) same (uses_from node paths is.on_path) in
    any_at (λ y. any_below (λ n. uses (make_node column ChanX y n) paths) arch.tracks) (strip.rows + 1) node.y at.row
    (any_at (λ n. uses (make_node column ChanX node.y n) paths) arch.tracks node.n at.track used)

-- ---- a net that crosses the column

routed_some : (arch : Arch) (strip : Strip) (source : Node) (sinks : List Node) (paths : List (List Node)) (sink : Node) → Contains sinks sink → IsRouted arch strip source sinks paths → IsRoute arch strip source sinks paths
routed_some arch strip source [] paths sink c routed = absurd (in_none sink c)
routed_some arch strip source (first ∷ sinks) paths sink c routed = routed

-- a reader on the other side
some_reader : (at : ℕ → Node) (column x : ℕ) (place : ℕ → Place) (readers : List ℕ) → list_any (λ reader. is_between column x (place reader).x) readers ≡ true →
    (reader : ℕ) × Contains (map at readers) (at reader) × (is_between column x (place reader).x ≡ true)
some_reader at column x place [] found = absurd (false≢true found)
some_reader at column x place (reader ∷ readers) found = elim (or_cases (is_between column x (place reader).x) (list_any (λ reader. is_between column x (place reader).x) readers) found) [
  | inl here ↦ (reader, in_first (at reader) (map at readers), here)
  | inr later ↦ (let q = some_reader at column x place readers later in (q.0, in_later (at reader) (at q.0) (map at readers) q.1, q.2))
]

doubled : (a b : ℕ) → a < b → 2 * a < 2 * b
doubled a b less = omega (arith, less)

apart_from : (column a b : ℕ) → is_between column a b ≡ true → ((2 * a < 2 * column) × (2 * column < 2 * b)) ⊎ ((2 * column < 2 * a) × (2 * b < 2 * column))
apart_from column a b between = elim (or_cases (nat_lt a column && nat_lt column b) (nat_lt b column && nat_lt column a) between) [
  | inl up ↦ (let h = and_parts (nat_lt a column) (nat_lt column b) up in inl (doubled a column (ltb-true a column h.0), doubled column b (ltb-true column b h.1)))
  | inr down ↦ (let h = and_parts (nat_lt b column) (nat_lt column a) down in inr (doubled column a (ltb-true column a h.1), doubled b column (ltb-true b column h.0)))
]

module _ (arch : Arch) (strip : Strip) (packed : PackedCircuit) (places : List Place) (column : ℕ) where
  crosses_over : (net : BlockNet) (paths : List (List Node)) → IsRouted arch strip (net_source packed places net) (net_sinks packed places net) paths →
      crosses_column places column net ≡ true → uses_over arch strip column paths ≡ true
  crosses_over net paths routed crosses =
      let parts = and_parts _ _ crosses in
      let at : ℕ → Node = λ reader. sink_at (block_at packed reader) (place_of places reader) in
      let q = some_reader at column (place_of places net.driver).x (place_of places) net.readers parts.1 in
      let sinks : net_sinks packed places net ≡ map at net.readers = ap (λ b. cond b [] (map at net.readers)) (not-true net.global parts.0) in
      let c : Contains (net_sinks packed places net) (at q.0) = subst (λ all. Contains all (at q.0)) (sym sinks) q.1 in
      let route = routed_some arch strip (net_source packed places net) (net_sinks packed places net) paths (at q.0) c routed in
      let way = route.is_tree.reached (at q.0) ((route.leaves (at q.0)).1 c).0 in
      let apart : AreApart column (net_source packed places net) (at q.0) = apart_from column (place_of places net.driver).x (place_of places q.0).x q.2 in
      let wire = leads_across arch strip paths route.is_tree.edges column (at q.0) (net_source packed places net) way.0 apart way.1 in
      over_used arch strip column paths wire.0 wire.1

  -- a wire carries one net, in rows of blocks and elsewhere
  either_way : (carried : ℕ) (b : Bool) → cond b carried carried ≡ carried
  either_way carried true = refl
  either_way carried false = refl

  wire_carries : (y n : ℕ) → capacity_of arch strip (make_node column ChanX y n) ≡ 1
  wire_carries y n = either_way 1 (is_block_row strip y)

  pub few_cross : (routes : List (List (List Node))) → IsLegal arch strip packed places routes → crossing_count packed places column ≤ (strip.rows + 1) * arch.tracks
  few_cross routes legal =
      let once : (y n : ℕ) → count_by (uses (make_node column ChanX y n)) routes ≤ 1 = λ y n. omega (arith, legal.carried (make_node column ChanX y n), wire_carries y n) in
      let row : (y : ℕ) → count_by (λ paths. any_below (λ n. uses (make_node column ChanX y n) paths) arch.tracks) routes ≤ arch.tracks * 1 =
      λ y. count_any (λ n paths. uses (make_node column ChanX y n) paths) 1 routes (once y) arch.tracks in
      let all = count_any (λ y paths. any_below (λ n. uses (make_node column ChanX y n) paths) arch.tracks) (arch.tracks * 1) routes row (strip.rows + 1) in
      let nets = count_zip (λ net paths. IsRouted arch strip (net_source packed places net) (net_sinks packed places net) paths) (crosses_column places column) (uses_over arch strip column) crosses_over (block_nets packed) routes legal.routed in
      omega (arith, all, nets)
