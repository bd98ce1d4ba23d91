-- The pins and wires that a tenancy has routed are in its strip's own columns; only a wire right of
-- a column may be left of them.
use Rattle.wires_law.proofs.Prelude.{◌≡◌, ℕ, Bool, true, false, List, [], ◌∷◌, length, get_or, map, ◌&&◌, ◌||◌, nat_le, Result, Ok, Err, refl, arith, All, flat_map, range_with_len, option_to_list, and_parts, false≢true, get_or_past, All-append, All-cons, All-nil, filter_passes, Arch, Circuit, BlifFault, Block, InputPad, OutputPad, Cluster, PackedCircuit, packed_of, blocks_of, Strip, Place, NodeKind, Node, Resource, ResourceKind, Opin, Ipin, ChanX, ChanY, Pad, is_chan_y, is_node, is_slot, graph_of, make_node, nodes_of, has, resource_of, places_by_block, block_at, place_of, Tree, Standing, More, Done, GaveUp as GivenUp, NoPath as WithoutPath, Routed as RoutedTrees, routed_after, wiring_of, routes_by_node, Net, Sources, KeptPlaces, basis_in, circuit_in, nets_in, pads_in, pass_count, placing_at, routing_sources, routing_stands, step_count, value_of, pad_of, pads_of, on_path, on_tree, on_trees, held_at_end, resources_of, StateName, Empty, Loaded, Packing, Packed, Placing, Placed, Routing, Unrouted, State, held_in, routed_set, has_all}
use Rattle.rr_graph.specs.declared.node.NodeKind.TheVariants as Nodes
use Rattle.tenant_slot.specs.declared.reply.StateName.TheVariants.{Routed}

-- a pin or a wire above a row is right of the strip's left end
abbrev pub own_column : ResourceKind → ℕ → Bool
own_column Opin x = nat_le 1 x
own_column Ipin x = nat_le 1 x
own_column ChanX x = nat_le 1 x
own_column ChanY x = true
own_column Pad x = true

abbrev pub IsOwn : Resource → Type 0
IsOwn resource = own_column resource.kind resource.x ≡ true

at_any : {X : Type 0} (P : X → Type 0) (xs : List X) (i : ℕ) (d : X) → All P xs → P d → P (get_or xs i d)
at_any P xs i d all default = grind (arith, get_or_past)

all_flat : {X Y : Type 0} (P : Y → Type 0) (f : X → List Y) (xs : List X) → ((x : X) → All P (f x)) → All P (flat_map f xs)
all_flat P f [] each = All-nil P
all_flat P f (x ∷ xs) each = All-append P (f x) (flat_map f xs) (each x) (all_flat P f xs each)

pads_own : (packed : PackedCircuit) (places : List Place) → All IsOwn (pads_of packed places)
pads_own packed places = all_flat IsOwn (λ block. pad_of (block_at packed block) (place_of places block)) (range_with_len 0 (length (blocks_of packed))) (λ block. one (block_at packed block) (place_of places block))
  where
    one : (block : Block) (place : Place) → All IsOwn (pad_of block place)
    one (InputPad net) place = All-cons IsOwn _ [] refl (All-nil IsOwn)
    one (OutputPad net) place = All-cons IsOwn _ [] refl (All-nil IsOwn)
    one (Cluster cluster) place = All-nil IsOwn

abbrev NodeOwn : Node → Type 0
NodeOwn node = All IsOwn (option_to_list (resource_of node))

or_false : (b : Bool) → (b || false) ≡ true → b ≡ true
or_false b h = grind arith

kind_own : (x : ℕ) (kind : NodeKind) (y n : ℕ) → (nat_le 1 x || is_chan_y kind) ≡ true → NodeOwn (make_node x kind y n)
kind_own x kind y n own = grind arith

module _ (strip : Strip) where
  node_own : (arch : Arch) (node : Node) → is_node arch strip node ≡ true → NodeOwn node
  node_own arch node is =
      let outer = and_parts (nat_le node.x strip.width) ((nat_le 1 node.x || is_chan_y node.kind) && is_slot arch strip node.kind node.y node.n) is in
      kind_own node.x node.kind node.y node.n (and_parts (nat_le 1 node.x || is_chan_y node.kind) (is_slot arch strip node.kind node.y node.n) outer.1).0

  filtered_own : (arch : Arch) (nodes : List Node) → All (λ node. is_node arch strip node ≡ true) nodes → All NodeOwn nodes
  filtered_own arch nodes each = λ k d lt. node_own arch (get_or nodes k d) (each k d lt)

  number_own : (arch : Arch) (number : ℕ) → NodeOwn ((graph_of (record { arch = arch; strip = strip })).node number)
  unfolding graph_of nodes_of
  number_own arch number = at_any NodeOwn (nodes_of (record { arch = arch; strip = strip })) number (make_node 0 Nodes.Source 0 0) (filtered_own arch (nodes_of (record { arch = arch; strip = strip })) (filter_passes (is_node arch strip) _)) (All-nil IsOwn)

  on_path_own : (arch : Arch) (path : List ℕ) → All IsOwn (on_path (map (graph_of (record { arch = arch; strip = strip })).node path))
  on_path_own arch [] = All-nil IsOwn
  on_path_own arch (number ∷ path) = All-append IsOwn (option_to_list (resource_of ((graph_of (record { arch = arch; strip = strip })).node number))) (on_path (map (graph_of (record { arch = arch; strip = strip })).node path)) (number_own arch number) (on_path_own arch path)

  on_tree_own : (arch : Arch) (tree : Tree) → All IsOwn (on_tree (map (λ path. map (graph_of (record { arch = arch; strip = strip })).node path) tree))
  on_tree_own arch [] = All-nil IsOwn
  on_tree_own arch (path ∷ tree) = All-append IsOwn (on_path (map (graph_of (record { arch = arch; strip = strip })).node path)) (on_tree (map (λ path. map (graph_of (record { arch = arch; strip = strip })).node path) tree)) (on_path_own arch path) (on_tree_own arch tree)

  on_trees_own : (arch : Arch) (trees : List Tree) → All IsOwn (on_trees (routes_by_node (graph_of (record { arch = arch; strip = strip })) trees))
  on_trees_own arch [] = All-nil IsOwn
  on_trees_own arch (tree ∷ trees) = All-append IsOwn (on_tree (map (λ path. map (graph_of (record { arch = arch; strip = strip })).node path) tree)) (on_trees (routes_by_node (graph_of (record { arch = arch; strip = strip })) trees)) (on_tree_own arch tree) (on_trees_own arch trees)

  standing_own : (arch : Arch) (pads : List Resource) (nets : List Net) (steps : ℕ) (routed : RoutedTrees) (standing : Standing) → All IsOwn pads → All IsOwn (held_at_end (Ok (routing_stands (record { arch = arch; strip = strip }) pads nets steps routed standing)))
  standing_own arch pads nets steps routed More all = All-nil IsOwn
  standing_own arch pads nets steps routed Done all = All-append IsOwn (on_trees (routes_by_node (graph_of (record { arch = arch; strip = strip })) routed.trees)) pads (on_trees_own arch routed.trees) all
  standing_own arch pads nets steps routed GivenUp all = All-nil IsOwn
  standing_own arch pads nets steps routed (WithoutPath net) all = All-nil IsOwn

  value_own : (arch : Arch) (text : List ℕ) (kept : KeptPlaces) (seed effort steps : ℕ) (circuit : Result Circuit BlifFault) → All IsOwn (held_at_end (value_of (routing_sources arch strip text kept seed effort) circuit steps))
  unfolding pads_in
  value_own arch text kept seed effort steps (Err fault) = All-nil IsOwn
  value_own arch text kept seed effort steps (Ok circuit) =
      let sources : Sources = routing_sources arch strip text kept seed effort in
      let after = routed_after (wiring_of (basis_in sources)) (nets_in sources circuit) steps in
      standing_own arch (pads_in sources circuit) (nets_in sources circuit) steps after after.standing (pads_own (packed_of circuit arch) (places_by_block (placing_at sources circuit (pass_count strip))))

  resources_own : (arch : Arch) (text : List ℕ) (kept : KeptPlaces) (seed effort : ℕ) → All IsOwn (resources_of (routing_sources arch strip text kept seed effort))
  unfolding resources_of
  resources_own arch text kept seed effort = value_own arch text kept seed effort (step_count (routing_sources arch strip text kept seed effort)) (circuit_in (routing_sources arch strip text kept seed effort))

held_own : (name : StateName) (state : State) (resource : Resource) → has (held_in name state) resource ≡ true → IsOwn resource
held_own Empty state resource is = absurd (false≢true is)
held_own Loaded state resource is = absurd (false≢true is)
held_own Packing state resource is = absurd (false≢true is)
held_own Packed state resource is = absurd (false≢true is)
held_own Placing state resource is = absurd (false≢true is)
held_own Placed state resource is = absurd (false≢true is)
held_own Routing state resource is = absurd (false≢true is)
held_own Routed state resource is = has_all IsOwn (resources_of (routing_sources state.arch state.strip state.text state.kept state.seed state.effort)) resource (resources_own state.strip state.arch state.text state.kept state.seed state.effort) is
held_own Unrouted state resource is = absurd (false≢true is)

pub own_of_routed : (state : State) (resource : Resource) → has (routed_set state) resource ≡ true → IsOwn resource
unfolding routed_set
own_of_routed state resource is = held_own state.name state resource is
