-- Walking back leads to one driver.
use Rattle.configuration.proofs.Prelude.{◌≡◌, ℕ, ◌≤◌, Bool, true, false, not, List, [], ◌∷◌, Some, slice_get, sym, ap, refl, ◌∙◌, subst, arith, Contains, list_any, and_parts, false≢true, same_Some, JoinedLine, Arch, Circuit, Strip, Implements, LaidNet, Layout, from_flat_map, to_any, same_counted, IsRoute, LeadsOver, pairs_of, path_nodes, is_same_node, Node, NodeKind, Opin, capacity_of, make_node, ConfigurationLine, Driver, Feeds, switch_in, switches_of, configuration_of, driver_of_net, is_switch, is_terminal, LeadsBack, driver_at, HasOneDriver}
use Rattle.configuration.proofs.Branches.{opin_from_source, pair_nodes, same_self}
use Rattle.configuration.proofs.EachLine.{EachKind, of_each}

-- ---- walks

-- switches that lead back from a node to another one
data Walk (switches : List (Node × Node)) : Node → Node → Type 0 where
  here : {node : Node} → Walk switches node node
  back : {node before pin : Node} → Contains switches (before, node) → Walk switches before pin → Walk switches node pin

further : {switches : List (Node × Node)} {last next : Node} (node : Node) → Contains switches (node, next) → Walk switches last next → Walk switches last node
further node c here = back c here
further node c (back d walk) = back d (further node c walk)

walk_of : (switches : List (Node × Node)) (last node : Node) (way : List Node) → LeadsOver switches last node way → Walk switches last node
walk_of switches last node [] same = subst (λ n. Walk switches n node) same here
walk_of switches last node (next ∷ way) (c, more) = further node c (walk_of switches last next way more)

one_end : (switches : List (Node × Node)) → ((a b node : Node) → Contains switches (a, node) → Contains switches (b, node) → a ≡ b) → ((a node : Node) → Contains switches (a, node) → node.kind ≡ Opin → ⊥) →
    {node pin : Node} → Walk switches node pin → (other : Node) → Walk switches node other → pin.kind ≡ Opin → other.kind ≡ Opin → pin ≡ other
one_end switches one first here other here p q = refl
one_end switches one first {node} here other (back {before = before} c walk) p q = absurd (first before node c p)
one_end switches one first {node} (back {before = before} c walk) other here p q = absurd (first before node c q)
one_end switches one first {node} (back {before = before} c walk) other (back {before = earlier} d more) p q =
    one_end switches one first walk other (subst (λ n. Walk switches n other) (one earlier before node d c) more) p q

-- ---- capacities

one_net : (arch : Arch) (strip : Strip) (x y n : ℕ) (kind : NodeKind) → is_terminal kind ≡ false → capacity_of arch strip (make_node x kind y n) ≤ 1
one_net arch strip x y n kind h = grind arith

not_true : (b : Bool) → not b ≡ true → b ≡ false
not_true b h = grind arith

-- the ends of a switch are no sources and sinks
pub record Inner (a b : Node) : Type 0 where
  pub from : is_terminal a.kind ≡ false
  pub to : is_terminal b.kind ≡ false

pub inner : (a b : Node) → is_switch (a, b) ≡ true → Inner a b
inner a b h = let parts = and_parts (not (is_terminal a.kind)) (not (is_terminal b.kind)) h in record { from = not_true (is_terminal a.kind) parts.0; to = not_true (is_terminal b.kind) parts.1 }

-- ---- switches and trees

-- the tree that a switch is of
pub record OfTree (layout : Layout) (a b : Node) : Type 0 where
  pub between : LaidNet
  pub there : Contains layout.nets between
  pub pair : Contains (pairs_of between.paths) (a, b)
  pub is : is_switch (a, b) ≡ true

module _ (lines : List JoinedLine) (circuit : Circuit) (arch : Arch) (strip : Strip) (layout : Layout) where
  abbrev IsOfTree : ConfigurationLine → Type 0
  IsOfTree line = (a b : Node) → Contains (switch_in line) (a, b) → OfTree layout a b

  each_of_tree : EachKind lines circuit arch strip layout (IsOfTree)
  each_of_tree = grind arith

  pub of_tree : (a b : Node) → Contains (switches_of (configuration_of lines circuit arch strip layout)) (a, b) → OfTree layout a b
  of_tree a b c =
      let q = from_flat_map switch_in (configuration_of lines circuit arch strip layout) (a, b) c in
      of_each lines circuit arch strip layout IsOfTree each_of_tree q.0 q.1 a b q.2

-- a net whose paths have a node is routed
pub record Route (arch : Arch) (strip : Strip) (paths : List (List Node)) : Type 0 where
  pub source : Node
  pub sinks : List Node
  pub route : IsRoute arch strip source sinks paths

module _ (lines : List JoinedLine) (circuit : Circuit) (arch : Arch) (strip : Strip) (layout : Layout) (h : Implements circuit arch strip layout) where
  pub route_with : (between : LaidNet) (node : Node) → Contains layout.nets between → Contains (path_nodes between.paths) node → Route arch strip between.paths
  route_with between node there c = grind arith

  -- two nets whose trees have a pin or a wire in common are one
  pub one_carries : (node : Node) (between other : LaidNet) → is_terminal node.kind ≡ false → Contains layout.nets between → Contains layout.nets other → Contains (path_nodes between.paths) node → Contains (path_nodes other.paths) node → between ≡ other
  one_carries node between other inner c d in' there =
      let test = λ (between : LaidNet). list_any (is_same_node node) (path_nodes between.paths) in
      let carried = h.carried node in
      let one = one_net arch strip node.x node.y node.n node.kind inner in
      same_counted test layout.nets between other (omega (arith, carried, one)) c d
      (to_any (is_same_node node) (path_nodes between.paths) node in' (same_self node)) (to_any (is_same_node node) (path_nodes other.paths) node there (same_self node))

  one_before : (a b node : Node) → Contains (switches_of (configuration_of lines circuit arch strip layout)) (a, node) → Contains (switches_of (configuration_of lines circuit arch strip layout)) (b, node) → a ≡ b
  one_before a b node c d =
      let s = of_tree lines circuit arch strip layout a node c in
      let t = of_tree lines circuit arch strip layout b node d in
      let in_s = (pair_nodes s.between.paths a node s.pair).1 in
      let in_t = (pair_nodes t.between.paths b node t.pair).1 in
      let same = one_carries node t.between s.between (inner a node s.is).to t.there s.there in_t in_s in
      let r = route_with s.between node s.there in_s in
      r.route.is_tree.one_way a b node s.pair (subst (λ (between : LaidNet). Contains (pairs_of between.paths) (b, node)) same t.pair)

  none_before : (a node : Node) → Contains (switches_of (configuration_of lines circuit arch strip layout)) (a, node) → node.kind ≡ Opin → ⊥
  none_before a node c is =
      let s = of_tree lines circuit arch strip layout a node c in
      let r = route_with s.between node s.there (pair_nodes s.between.paths a node s.pair).1 in
      let source = opin_from_source arch strip a node (r.route.is_tree.edges a node s.pair) is in
      let wrong : true ≡ false = sym (ap is_terminal source) ∙ (inner a node s.is).from in
      false≢true (sym wrong)

  pub led_once : (node : Node) (driver other : Driver) → LeadsBack arch strip (configuration_of lines circuit arch strip layout) node driver → LeadsBack arch strip (configuration_of lines circuit arch strip layout) node other → driver ≡ other
  led_once node driver other one two =
      let switches = switches_of (configuration_of lines circuit arch strip layout) in
      let same = one_end switches one_before none_before (walk_of switches node one.pin one.way one.leads) two.pin (walk_of switches node two.pin two.way two.leads) one.is_output two.is_output in
      sym one.driven ∙ ap (driver_at arch strip) same ∙ two.driven

-- ---- global nets

module _ (lines : List JoinedLine) (circuit : Circuit) (arch : Arch) (strip : Strip) (layout : Layout) where
  -- what a global net's line says
  abbrev SaysDriver : ConfigurationLine → Type 0
  SaysDriver (Feeds number driver) = (net : ℕ) × (slice_get layout.globals number ≡ Some net) × (driver_of_net arch layout net ≡ Some driver)
  SaysDriver line = Unit {0}

  each_says : EachKind lines circuit arch strip layout SaysDriver
  each_says = grind arith

  pub fed_once : (number : ℕ) (driver other : Driver) → Contains (configuration_of lines circuit arch strip layout) (Feeds number driver) → Contains (configuration_of lines circuit arch strip layout) (Feeds number other) → driver ≡ other
  fed_once number driver other c d =
      let s = of_each lines circuit arch strip layout SaysDriver each_says (Feeds number driver) c in
      let t = of_each lines circuit arch strip layout SaysDriver each_says (Feeds number other) d in
      let same : s.0 ≡ t.0 = same_Some s.0 t.0 (sym s.1 ∙ t.1) in
      same_Some driver other (sym s.2 ∙ ap (driver_of_net arch layout) same ∙ t.2)

pub has_one_driver : (lines : List JoinedLine) (circuit : Circuit) (arch : Arch) (strip : Strip) (layout : Layout) → Implements circuit arch strip layout → HasOneDriver arch strip (configuration_of lines circuit arch strip layout)
has_one_driver lines circuit arch strip layout h = record { led = led_once lines circuit arch strip layout h; fed = fed_once lines circuit arch strip layout }
