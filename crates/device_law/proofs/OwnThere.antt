-- What a tenancy has routed, its strip has: each pin and wire, and each pad.
use Rattle.device_law.proofs.Prelude.{◌≡◌, ℕ, zero, suc, ◌+◌, ◌<◌, ◌≤◌, Bool, true, false, ◌||◌, ◌&&◌, nat_le, List, [], ◌∷◌, length, get_or, map, Result, Ok, Err, sym, ap, ◌∙◌, subst, arith, lt-ltb, All, Contains, ◌==◌, enumerate_from, flat_map, range_with_len, option_to_list, false≢true, get_or_past, All-append, All-head, All-nil, All-tail, filter_passes, IsArch, Arch, circuit_of, Circuit, BlifFault, kind_of, block_at, place_of, Block, Cluster, PackedCircuit, packed_of, blocks_of, Strip, Place, IsPlaceIn, places_of, IsStripSize, all_within, laid_block, layout_of, LaidBlock, Placing as PlacingJob, Sources, Work, Placed as PlacedWork, on_path, on_tree, on_trees, end_value, pads_in, pass_count, placing_at, placing_sources, routing_sources, routing_stands, step_count, value_of, pad_of, pads_of, held_at_end, resources_of, KeptPlaces, ImplementsItsText, placed_end, Tree, Standing, More, Done, GaveUp as GivenUp, NoPath as WithoutPath, Routed as RoutedTrees, routes_by_node, Net, NodeKind, Node, Resource, Pad as PadResource, is_node, Basis, graph_of, make_node, nodes_of, has, is_there, resource_of, History, state_of, events_stay, has_all, PlacingUnderWay, is_past_last, places_by_block, Event, StateName, Empty, Loaded, Packing, Packed, Routing, Unrouted, held_in, routed_set, State, run}
use Rattle.std.proofs.Common.{nat_lt}
use Rattle.grid.specs.declared.place.Kind.TheVariants.{Pad}
use Rattle.rr_graph.specs.declared.node.NodeKind.TheVariants as Nodes
use Rattle.tenant_slot.specs.declared.reply.StateName.TheVariants.{Placing, Placed, Routed}

at_any : {X : Type 0} (P : X → Type 0) (xs : List X) (i : ℕ) (d : X) → All P xs → P d → P (get_or xs i d)
at_any P xs i d all default = grind (arith, get_or_past)

-- a flat map over numbers of a range
all_range : {Y : Type 0} (P : Y → Type 0) (f : ℕ → List Y) (a n : ℕ) → ((i : ℕ) → i < a + n → All P (f i)) → All P (flat_map f (range_with_len a n))
all_range P f a zero each = All-nil P
all_range P f a (suc n) each = All-append P (f a) (flat_map f (range_with_len (a + 1) n)) (each a (omega arith)) (all_range P f (a + 1) n (λ i below. each i (omega (arith, below))))

or_left : (a b : Bool) → a ≡ true → (a || b) ≡ true
or_left a b is = ap (λ t. t || b) is

or_right : (a b : Bool) → b ≡ true → (a || b) ≡ true
or_right a b is = grind arith

module _ (arch : Arch) (strip : Strip) where
  abbrev IsThere : Resource → Type 0
  IsThere resource = is_there arch strip resource ≡ true

  abbrev basis : Basis
  basis = record { arch = arch; strip = strip }

  -- a node of the graph, if it is a pin or a wire
  abbrev NodeThere : Node → Type 0
  NodeThere node = All IsThere (option_to_list (resource_of node))

  kind_there : (x : ℕ) (kind : NodeKind) (y n : ℕ) → is_node arch strip (make_node x kind y n) ≡ true → NodeThere (make_node x kind y n)
  kind_there x kind y n is = grind arith

  filtered_there : (nodes : List Node) → All (λ node. is_node arch strip node ≡ true) nodes → All NodeThere nodes
  filtered_there nodes each = λ k d lt. let node = get_or nodes k d in kind_there node.x node.kind node.y node.n (each k d lt)

  number_there : (number : ℕ) → NodeThere ((graph_of basis).node number)
  unfolding graph_of nodes_of
  number_there number = at_any NodeThere (nodes_of basis) number (make_node 0 Nodes.Source 0 0) (filtered_there (nodes_of basis) (filter_passes (is_node arch strip) _)) (All-nil IsThere)

  -- trees by node numbers
  on_path_there : (path : List ℕ) → All IsThere (on_path (map (graph_of basis).node path))
  on_path_there [] = All-nil IsThere
  on_path_there (number ∷ path) = All-append IsThere (option_to_list (resource_of ((graph_of basis).node number))) (on_path (map (graph_of basis).node path)) (number_there number) (on_path_there path)

  on_tree_there : (tree : Tree) → All IsThere (on_tree (map (λ path. map (graph_of basis).node path) tree))
  on_tree_there [] = All-nil IsThere
  on_tree_there (path ∷ tree) = All-append IsThere (on_path (map (graph_of basis).node path)) (on_tree (map (λ path. map (graph_of basis).node path) tree)) (on_path_there path) (on_tree_there tree)

  on_trees_there : (trees : List Tree) → All IsThere (on_trees (routes_by_node (graph_of basis) trees))
  on_trees_there [] = All-nil IsThere
  on_trees_there (tree ∷ trees) = All-append IsThere (on_tree (map (λ path. map (graph_of basis).node path) tree)) (on_trees (routes_by_node (graph_of basis) trees)) (on_tree_there tree) (on_trees_there trees)

  -- the pads of blocks that are on places for them
  pad_there : (place : Place) → IsPlaceIn strip Pad place → IsThere (record { x = place.x; kind = PadResource; y = place.y; n = place.subblock })
  pad_there place within = grind (arith, lt-ltb)

  abbrev IsOnPlace : Block → Place → Type 0
  IsOnPlace block place = Contains (places_of strip (kind_of block)) place

  block_there : IsStripSize strip → (block : Block) (place : Place) → IsOnPlace block place → All IsThere (pad_of block place)
  block_there size block place on = grind (arith, pad_there, all_within)

  pads_there : IsStripSize strip → (packed : PackedCircuit) (places : List Place) → ((block : ℕ) → block < length (blocks_of packed) → IsOnPlace (block_at packed block) (place_of places block)) → All IsThere (pads_of packed places)
  pads_there size packed places on =
      all_range IsThere (λ block. pad_of (block_at packed block) (place_of places block)) 0 (length (blocks_of packed)) (λ block below. block_there size (block_at packed block) (place_of places block) (on block (omega (arith, below))))

  -- so is what a routing occupies at its end
  standing_there : (pads : List Resource) (nets : List Net) (steps : ℕ) (routed : RoutedTrees) (standing : Standing) → All IsThere pads → All IsThere (held_at_end (Ok (routing_stands basis pads nets steps routed standing)))
  standing_there pads nets steps routed More all = All-nil IsThere
  standing_there pads nets steps routed Done all = All-append IsThere (on_trees (routes_by_node (graph_of basis) routed.trees)) pads (on_trees_there routed.trees) all
  standing_there pads nets steps routed GivenUp all = All-nil IsThere
  standing_there pads nets steps routed (WithoutPath net) all = All-nil IsThere

  module _ (text : List ℕ) (kept : KeptPlaces) (seed effort : ℕ) (circuit : Circuit) where
    abbrev job : Sources
    job = routing_sources arch strip text kept seed effort

    abbrev its_places : List Place
    its_places = places_by_block (placing_at job circuit (pass_count strip))

    value_there : (steps : ℕ) → All IsThere (pads_of (packed_of circuit arch) its_places) → All IsThere (held_at_end (value_of job (Ok circuit) steps))
    unfolding pads_in
    value_there steps pads = grind (arith, standing_there)

    resources_there : circuit_of text arch.lut_size ≡ Ok circuit → All IsThere (pads_of (packed_of circuit arch) its_places) → All IsThere (resources_of job)
    unfolding resources_of
    resources_there says pads = subst (λ (r : Result Circuit BlifFault). All IsThere (held_at_end (value_of job r (step_count job)))) (sym says) (value_there (step_count job) pads)

-- the places of the blocks of a layout
laid_is : (strip : Strip) (packed : PackedCircuit) (block : Block) (place : Place) → Contains (places_of strip (kind_of (laid_block packed block place).block)) (laid_block packed block place).place → Contains (places_of strip (kind_of block)) place
laid_is strip packed block place on = grind arith

enumerated : {X : Type 0} (P : X → Type 0) (f : ℕ × Block → X) (bs : List Block) (k : ℕ) → All P (map f (enumerate_from k bs)) → (i : ℕ) (d : Block) (n : ℕ) → n ≡ k + i → i < length bs → P (f (n, get_or bs i d))
enumerated P f [] k all i d n is within = absurd (omega arith)
enumerated P f (b ∷ bs) k all zero d n is within = let e : k ≡ n = omega (arith, is) in subst (λ n. P (f (n, b))) e (All-head P (f (k, b)) (map f (enumerate_from (k + 1) bs)) all)
enumerated P f (b ∷ bs) k all (suc i) d n is within = enumerated P f bs (k + 1) (All-tail P (f (k, b)) (map f (enumerate_from (k + 1) bs)) all) i d n (omega (arith, is)) (omega (arith, within))

blocks_on : (strip : Strip) (packed : PackedCircuit) (places : List Place) (routes : List (List (List Node))) → All (λ (laid : LaidBlock). Contains (places_of strip (kind_of laid.block)) laid.place) (layout_of packed places routes).blocks →
    (block : ℕ) → block < length (blocks_of packed) → Contains (places_of strip (kind_of (block_at packed block))) (place_of places block)
unfolding layout_of
blocks_on strip packed places routes all block within =
    laid_is strip packed (block_at packed block) (place_of places block)
    (enumerated (λ (laid : LaidBlock). Contains (places_of strip (kind_of laid.block)) laid.place) (λ b. laid_block packed b.1 (place_of places b.0)) (blocks_of packed) 0 all block (Cluster 0) block (omega arith) within)

-- what `routed_implements` and `laws_of_passes` ensure
pub record Laws : Type 0 where
  pub implemented : (arch : Arch) (strip : Strip) (events : List Event) → IsArch arch → IsStripSize strip → (run arch strip events).0.name ≡ Routed → ImplementsItsText (run arch strip events).0
  pub passes : (strip : Strip) (passes : ℕ) → is_past_last strip passes ≡ false → passes ≤ strip.width + strip.rows

state_there : Laws → (state : State) → IsStripSize state.strip → ImplementsItsText state → All (IsThere state.arch state.strip) (resources_of (routing_sources state.arch state.strip state.text state.kept state.seed state.effort))
state_there laws state size is =
    let sources = placing_sources state.arch state.strip state.text state.kept state.seed state.effort in
    let last = placing_at sources is.circuit (pass_count state.strip) in
    let ended : end_value sources ≡ Ok (PlacedWork last) = placed_end state.arch state.strip state.text state.kept state.seed state.effort is.circuit is.says size laws.passes in
    let same : is.placing ≡ last = same_placing is.placing last (sym is.placed ∙ ended) in
    let packed = packed_of is.circuit state.arch in
    let on = blocks_on state.strip packed (places_by_block is.placing) is.routed.routes is.implemented.placed in
    resources_there state.arch state.strip state.text state.kept state.seed state.effort is.circuit is.says
    (pads_there state.arch state.strip size packed (places_by_block last)
    (λ block within. subst (λ (p : PlacingUnderWay). Contains (places_of state.strip (kind_of (block_at packed block))) (place_of (places_by_block p) block)) same (on block within)))
  where
    same_placing : (a b : PlacingUnderWay) → ◌≡◌ {A = Result Work BlifFault} (Ok (PlacedWork a)) (Ok (PlacedWork b)) → a ≡ b
    same_placing a b e = cc

held_there : Laws → (name : StateName) (state : State) (r : Resource) → name ≡ state.name → IsStripSize state.strip → (state.name ≡ Routed → ImplementsItsText state) → has (held_in name state) r ≡ true → is_there state.arch state.strip r ≡ true
held_there laws Empty state r named size implements is = absurd (false≢true is)
held_there laws Loaded state r named size implements is = absurd (false≢true is)
held_there laws Packing state r named size implements is = absurd (false≢true is)
held_there laws Packed state r named size implements is = absurd (false≢true is)
held_there laws Placing state r named size implements is = absurd (false≢true is)
held_there laws Placed state r named size implements is = absurd (false≢true is)
held_there laws Routing state r named size implements is = absurd (false≢true is)
held_there laws Routed state r named size implements is = grind (arith, has_all (IsThere state.arch state.strip) (resources_of (routing_sources state.arch state.strip state.text state.kept state.seed state.effort)) r (state_there laws state size (implements (sym named))) is)
held_there laws Unrouted state r named size implements is = absurd (false≢true is)

pub routed_there : Laws → (h : History) (r : Resource) → IsArch h.arch → IsStripSize h.strip → has (routed_set (state_of h)) r ≡ true → is_there h.arch h.strip r ≡ true
unfolding routed_set
routed_there laws h r arch size is = grind (arith, events_stay, held_there)
