-- What a tenancy occupies is in its strip's columns.
use Rattle.service_core.proofs.Prelude.{◌≡◌, ℕ, zero, suc, ◌+◌, ◌*◌, ◌%◌, ◌≤◌, Bool, true, false, cond, Option, Some, None, List, [], ◌∷◌, ◌++◌, length, get_or, map, ◌&&◌, ◌||◌, nat_le, Result, Ok, Err, refl, arith, All, IfSome, find, option_and_then, unwrap_or, flat_map, list_any, range_with_len, zip, option_to_list, and_parts, false≢true, leb-true, get_or_past, All-append, All-cons, All-head, All-nil, All-tail, filter_passes, Arch, Circuit, BlifFault, Block, InputPad, OutputPad, Cluster, PackedCircuit, packed_of, blocks_of, keys_of, Strip, Kind, Logic, Pad, Place, column_of, pads_at, place_at, places_of, NodeKind, Node, Resource, is_chan_y, is_node, is_slot, graph_of, make_node, nodes_of, has, resource_of, PlacingUnderWay, placed_after, places_by_block, temperature_at, kind_for, Draw, after_draw, after_move, cost_of, drawn_place, place_after, is_kept, pass_of, block_at, is_same_place, place_of, kept_by_block, place_for, placed_behind, placed_first, places_at_start, Task, task_of, Tree, Standing, More, Done, GaveUp as GivenUp, NoPath as WithoutPath, Routed as RoutedTrees, routed_after, wiring_of, routes_by_node, Net, Sources, KeptPlaces, kept_place, basis_in, circuit_in, nets_in, pads_in, pass_count, placing_at, routing_sources, routing_stands, step_count, value_of, pad_of, pads_of, on_path, on_tree, on_trees, held_at_end, resources_of, StateName, Empty, Loaded, Packing, Packed, Placing, Placed, Routing, Unrouted, State, held_in, routed_set}
use Rattle.std.specs.Prelude.{not}
use Rattle.rr_graph.specs.declared.node.NodeKind.TheVariants as Nodes
use Rattle.tenant_slot.specs.declared.reply.StateName.TheVariants.{Routed}
use Rattle.service_core.proofs.Holdings.{has_all}

at_any : {X : Type 0} (P : X → Type 0) (xs : List X) (i : ℕ) (d : X) → All P xs → P d → P (get_or xs i d)
at_any P xs i d all default = grind (arith, get_or_past)

all_map : {X Y : Type 0} (P : Y → Type 0) (f : X → Y) (xs : List X) → ((x : X) → P (f x)) → All P (map f xs)
all_map P f [] each = All-nil P
all_map P f (x ∷ xs) each = All-cons P (f x) (map f xs) (each x) (all_map P f xs each)

all_flat : {X Y : Type 0} (P : Y → Type 0) (f : X → List Y) (xs : List X) → ((x : X) → All P (f x)) → All P (flat_map f xs)
all_flat P f [] each = All-nil P
all_flat P f (x ∷ xs) each = All-append P (f x) (flat_map f xs) (each x) (all_flat P f xs each)

module _ (strip : Strip) where
  -- places
  abbrev Stands : Place → Type 0
  Stands place = place.x ≤ strip.width

  in_column : (kind : Kind) (x : ℕ) → x ≤ strip.width → All Stands (column_of strip kind x)
  in_column Logic x low = all_map Stands (λ y. place_at x y 0) (range_with_len 1 strip.rows) (λ y. low)
  in_column Pad x low = all_flat Stands (pads_at strip x) (0 ∷ (strip.rows + 1) ∷ []) (λ y. all_map Stands (place_at x y) (range_with_len 0 strip.io_rat) (λ n. low))

  in_columns_from : (kind : Kind) (a n : ℕ) → a + n ≤ strip.width + 1 → All Stands (flat_map (column_of strip kind) (range_with_len a n))
  in_columns_from kind a zero few = All-nil Stands
  in_columns_from kind a (suc n) few = All-append Stands (column_of strip kind a) (flat_map (column_of strip kind) (range_with_len (a + 1) n)) (in_column kind a (omega (arith, few))) (in_columns_from kind (a + 1) n (omega (arith, few)))

  places_in : (kind : Kind) → All Stands (places_of strip kind)
  unfolding places_of
  places_in kind = in_columns_from kind 1 strip.width (omega arith)

  -- a random draw leaves each block on a place of the strip
  placed_in : (places : List Place) (block : ℕ) → All Stands places → Stands (place_of places block)
  placed_in places block all = at_any Stands places block (place_at 0 0 0) all (omega arith)

  chosen : (b c : Bool) (target home place : Place) → Stands target → Stands home → Stands place → Stands (cond b target (cond c home place))
  chosen true c target home place t h low = t
  chosen false true target home place t h low = h
  chosen false false target home place t h low = low

  exchanged_in : (home target : Place) (places : List Place) → Stands home → Stands target → All Stands places → All Stands (map (place_after home target) places)
  exchanged_in home target [] h t all = All-nil Stands
  exchanged_in home target (place ∷ places) h t all =
      All-cons Stands (place_after home target place) (map (place_after home target) places) (chosen (is_same_place place home) (is_same_place place target) target home place t h (All-head Stands place places all)) (exchanged_in home target places h t (All-tail Stands place places all))

  draw_in : (task : Task) (temperature : ℕ) (draw : Draw) (places : List Place) → All Stands places → All Stands (after_draw strip task temperature draw places)
  unfolding after_draw
  draw_in task temperature draw places all = by (is_kept temperature (cost_of task.nets places) (cost_of task.nets (after_move strip task draw places)) draw.a)
    where
      moved : All Stands (after_move strip task draw places)
      moved =
          let block = draw.u % length task.kinds in
          let kind = get_or task.kinds block Logic in
          exchanged_in (place_of places block) (drawn_place strip kind draw.v) places (placed_in places block all) (placed_in (places_of strip kind) (draw.v % length (places_of strip kind)) (places_in kind)) all

      by : (b : Bool) → All Stands (cond b (after_move strip task draw places) places)
      by true = moved
      by false = all

  pass_in : (task : Task) (temperature : ℕ) (draws : ℕ → Draw) (count : ℕ) (places : List Place) → All Stands places → All Stands (pass_of strip task temperature draws count places)
  unfolding pass_of
  pass_in task temperature draws zero places all = all
  pass_in task temperature draws (suc count) places all = draw_in task temperature (draws count) (pass_of strip task temperature draws count places) (pass_in task temperature draws count places all)

  passes_in : (task : Task) (start : List Place) (seed effort passes : ℕ) → All Stands start → All Stands (placed_after strip task start seed effort passes)
  unfolding placed_after
  passes_in task start seed effort zero all = all
  passes_in task start seed effort (suc passes) all = pass_in task (temperature_at strip passes) _ (effort * length task.kinds) (placed_after strip task start seed effort passes) (passes_in task start seed effort passes all)

  -- and so does the initial placing
  abbrev MayStand : Option Place → Type 0
  MayStand found = IfSome found Stands

  found_in : (test : Place → Bool) (places : List Place) → All Stands places → MayStand (find test places)
  found_in test [] all = tt
  found_in test (place ∷ places) all = by (test place) (found_in test places (All-tail Stands place places all))
    where
      by : (b : Bool) → MayStand (find test places) → MayStand (cond b (Some place) (find test places))
      by true rest = All-head Stands place places all
      by false rest = rest

  some_place : (found : Option Place) (other : Place) → MayStand found → Stands other → Stands (unwrap_or found other)
  some_place None other may low = low
  some_place (Some place) other may low = may

  behind_in : (taken : List Place) (blocks : List (Kind × Option Place)) → All (λ block. MayStand block.1) blocks → All Stands (placed_behind strip taken blocks)
  behind_in taken [] all = All-nil Stands
  behind_in taken (block ∷ blocks) all =
      let free : Stands (unwrap_or (find (λ place. not (list_any (is_same_place place) taken)) (places_of strip block.0)) (place_at 0 0 0)) = some_place _ (place_at 0 0 0) (found_in _ (places_of strip block.0) (places_in block.0)) (omega arith) in
      let here : Stands (place_for strip taken block) = some_place block.1 _ (All-head (λ (b : Kind × Option Place). MayStand b.1) block blocks all) free in
      All-cons Stands (place_for strip taken block) _ here (behind_in (taken ++ place_for strip taken block ∷ []) blocks (All-tail (λ (b : Kind × Option Place). MayStand b.1) block blocks all))

  zip_in : (kinds : List Kind) (kept : List (Option Place)) → All MayStand kept → All (λ block. MayStand block.1) (zip kinds kept)
  zip_in [] kept all = All-nil (λ (b : Kind × Option Place). MayStand b.1)
  zip_in (kind ∷ kinds) [] all = All-nil (λ (b : Kind × Option Place). MayStand b.1)
  zip_in (kind ∷ kinds) (place ∷ kept) all = All-cons (λ (b : Kind × Option Place). MayStand b.1) (kind, place) (zip kinds kept) (All-head MayStand place kept all) (zip_in kinds kept (All-tail MayStand place kept all))

  kept_in : (kind : Kind) (kept : Option Place) → MayStand (option_and_then (λ place. find (is_same_place place) (places_of strip kind)) kept)
  kept_in kind None = tt
  kept_in kind (Some place) = found_in (is_same_place place) (places_of strip kind) (places_in kind)

  start_in : (packed : PackedCircuit) (kept : KeptPlaces) → All Stands (places_at_start strip packed kept)
  unfolding placed_first
  start_in packed kept = behind_in _ _ (zip_in (task_of packed).kinds (kept_by_block strip packed kept)
      (all_map MayStand (λ key. option_and_then (λ place. find (is_same_place place) (places_of strip (kind_for key.kind))) (kept_place kept key)) (keys_of packed) (λ key. kept_in (kind_for key.kind) (kept_place kept key))))

  blocks_in : (placing : PlacingUnderWay) → placing.strip ≡ strip → All Stands (places_by_block placing)
  blocks_in placing same = rw same (passes_in (task_of placing.packed) (places_at_start strip placing.packed placing.kept) placing.seed placing.effort placing.passes (start_in placing.packed placing.kept))

  -- resources
  abbrev IsIn : Resource → Type 0
  IsIn resource = resource.x ≤ strip.width

  pads_in_columns : (packed : PackedCircuit) (places : List Place) → All Stands places → All IsIn (pads_of packed places)
  pads_in_columns packed places all = all_flat IsIn (λ block. pad_of (block_at packed block) (place_of places block)) (range_with_len 0 (length (blocks_of packed)))
      (λ block. one (block_at packed block) (place_of places block) (placed_in places block all))
    where
      one : (block : Block) (place : Place) → Stands place → All IsIn (pad_of block place)
      one (InputPad net) place low = All-cons IsIn _ [] low (All-nil IsIn)
      one (OutputPad net) place low = All-cons IsIn _ [] low (All-nil IsIn)
      one (Cluster cluster) place low = All-nil IsIn

  -- a node of the graph, or `None`
  abbrev NodeIn : Node → Type 0
  NodeIn node = All IsIn (option_to_list (resource_of node))

  kind_in : (x : ℕ) (kind : NodeKind) (y n : ℕ) → x ≤ strip.width → NodeIn (make_node x kind y n)
  kind_in x Nodes.Source y n low = All-nil IsIn
  kind_in x Nodes.Sink y n low = All-nil IsIn
  kind_in x Nodes.Opin y n low = All-cons IsIn _ [] low (All-nil IsIn)
  kind_in x Nodes.Ipin y n low = All-cons IsIn _ [] low (All-nil IsIn)
  kind_in x Nodes.ChanX y n low = All-cons IsIn _ [] low (All-nil IsIn)
  kind_in x Nodes.ChanY y n low = All-cons IsIn _ [] low (All-nil IsIn)

  node_in : (arch : Arch) (node : Node) → is_node arch strip node ≡ true → NodeIn node
  node_in arch node is =
      let low : node.x ≤ strip.width = leb-true node.x strip.width (and_parts (nat_le node.x strip.width) ((nat_le 1 node.x || is_chan_y node.kind) && is_slot arch strip node.kind node.y node.n) is).0 in
      kind_in node.x node.kind node.y node.n low

  filtered_in : (arch : Arch) (nodes : List Node) → All (λ node. is_node arch strip node ≡ true) nodes → All NodeIn nodes
  filtered_in arch nodes each = λ k d lt. node_in arch (get_or nodes k d) (each k d lt)

  number_in : (arch : Arch) (number : ℕ) → NodeIn ((graph_of (record { arch = arch; strip = strip })).node number)
  unfolding graph_of nodes_of
  number_in arch number = at_any NodeIn (nodes_of (record { arch = arch; strip = strip })) number (make_node 0 Nodes.Source 0 0) (filtered_in arch (nodes_of (record { arch = arch; strip = strip })) (filter_passes (is_node arch strip) _)) (All-nil IsIn)

  -- trees by node numbers
  on_path_in : (arch : Arch) (path : List ℕ) → All IsIn (on_path (map (graph_of (record { arch = arch; strip = strip })).node path))
  on_path_in arch [] = All-nil IsIn
  on_path_in arch (number ∷ path) = All-append IsIn (option_to_list (resource_of ((graph_of (record { arch = arch; strip = strip })).node number))) (on_path (map (graph_of (record { arch = arch; strip = strip })).node path)) (number_in arch number) (on_path_in arch path)

  on_tree_in : (arch : Arch) (tree : Tree) → All IsIn (on_tree (map (λ path. map (graph_of (record { arch = arch; strip = strip })).node path) tree))
  on_tree_in arch [] = All-nil IsIn
  on_tree_in arch (path ∷ tree) = All-append IsIn (on_path (map (graph_of (record { arch = arch; strip = strip })).node path)) (on_tree (map (λ path. map (graph_of (record { arch = arch; strip = strip })).node path) tree)) (on_path_in arch path) (on_tree_in arch tree)

  on_trees_in : (arch : Arch) (trees : List Tree) → All IsIn (on_trees (routes_by_node (graph_of (record { arch = arch; strip = strip })) trees))
  on_trees_in arch [] = All-nil IsIn
  on_trees_in arch (tree ∷ trees) = All-append IsIn (on_tree (map (λ path. map (graph_of (record { arch = arch; strip = strip })).node path) tree)) (on_trees (routes_by_node (graph_of (record { arch = arch; strip = strip })) trees)) (on_tree_in arch tree) (on_trees_in arch trees)

  standing_in : (arch : Arch) (pads : List Resource) (nets : List Net) (steps : ℕ) (routed : RoutedTrees) (standing : Standing) → All IsIn pads → All IsIn (held_at_end (Ok (routing_stands (record { arch = arch; strip = strip }) pads nets steps routed standing)))
  standing_in arch pads nets steps routed More all = All-nil IsIn
  standing_in arch pads nets steps routed Done all = All-append IsIn (on_trees (routes_by_node (graph_of (record { arch = arch; strip = strip })) routed.trees)) pads (on_trees_in arch routed.trees) all
  standing_in arch pads nets steps routed GivenUp all = All-nil IsIn
  standing_in arch pads nets steps routed (WithoutPath net) all = All-nil IsIn

  value_in : (arch : Arch) (text : List ℕ) (kept : KeptPlaces) (seed effort steps : ℕ) (circuit : Result Circuit BlifFault) → All IsIn (held_at_end (value_of (routing_sources arch strip text kept seed effort) circuit steps))
  unfolding pads_in
  value_in arch text kept seed effort steps (Err fault) = All-nil IsIn
  value_in arch text kept seed effort steps (Ok circuit) =
      let sources : Sources = routing_sources arch strip text kept seed effort in
      let after = routed_after (wiring_of (basis_in sources)) (nets_in sources circuit) steps in
      standing_in arch (pads_in sources circuit) (nets_in sources circuit) steps after after.standing (pads_in_columns (packed_of circuit arch) (places_by_block (placing_at sources circuit (pass_count strip))) (blocks_in (placing_at sources circuit (pass_count strip)) refl))

  resources_in : (arch : Arch) (text : List ℕ) (kept : KeptPlaces) (seed effort : ℕ) → All IsIn (resources_of (routing_sources arch strip text kept seed effort))
  unfolding resources_of
  resources_in arch text kept seed effort = value_in arch text kept seed effort (step_count (routing_sources arch strip text kept seed effort)) (circuit_in (routing_sources arch strip text kept seed effort))

in_columns : (name : StateName) (state : State) (resource : Resource) → has (held_in name state) resource ≡ true → resource.x ≤ state.strip.width
in_columns Empty state resource is = absurd (false≢true is)
in_columns Loaded state resource is = absurd (false≢true is)
in_columns Packing state resource is = absurd (false≢true is)
in_columns Packed state resource is = absurd (false≢true is)
in_columns Placing state resource is = absurd (false≢true is)
in_columns Placed state resource is = absurd (false≢true is)
in_columns Routing state resource is = absurd (false≢true is)
in_columns Routed state resource is = has_all (λ r. r.x ≤ state.strip.width) (resources_of (routing_sources state.arch state.strip state.text state.kept state.seed state.effort)) resource (resources_in state.strip state.arch state.text state.kept state.seed state.effort) is
in_columns Unrouted state resource is = absurd (false≢true is)

pub columns_of_routed : (state : State) (resource : Resource) → has (routed_set state) resource ≡ true → resource.x ≤ state.strip.width
unfolding routed_set
columns_of_routed state resource is = in_columns state.name state resource is
