-- A routed circuit, and what it occupies of its strip.
use Rattle.std.specs.Prelude.{ℕ, ◌≡◌, ◌+◌, ◌<◌, List, [], ◌∷◌, ◌++◌, length, slice_index_or, true, All, AllPairs}
use Rattle.std.specs.List.{flat_map, range_with_len}
use Rattle.std.specs.Option.{option_to_list}
use Rattle.job_state.specs.Prelude.{Arch, Block, Cluster, blocks_of, PackedCircuit, Strip, Place, Node, Pad, Resource, Basis, IsEarlier, has, is_there, resource_of, block_at, place_of}

-- the basis of its strip's graph, the paths of each net's tree by node, and the pads of its blocks
pub record RoutedCircuit : Type 0 where
  pub basis : Basis
  pub routes : List (List (List Node))
  pub pads : List Resource

-- the basis of a strip's graph
abbrev pub on_strip : Arch → Strip → Basis
on_strip arch strip = record { arch = arch; strip = strip }

abbrev pub routed_on : Arch → Strip → List (List (List Node)) → List Resource → RoutedCircuit
routed_on arch strip routes pads = record { basis = record { arch = arch; strip = strip }; routes = routes; pads = pads }

-- a block for an input or an output is on the pad at its place; a cluster has no pad
abbrev pub pad_of : Block → Place → List Resource
pad_of (Cluster cluster) place = []
pad_of block place = record { x = place.x; kind = Pad; y = place.y; n = place.subblock } ∷ []

-- the pads of all blocks, by the block's number
abbrev pub pads_of : PackedCircuit → List Place → List Resource
pads_of packed places = flat_map (λ block. pad_of (block_at packed block) (place_of places block)) (range_with_len 0 (length (blocks_of packed)))

-- what it occupies: the pins and wires on the paths of its trees, and its pads
abbrev pub held_by : RoutedCircuit → List Resource
held_by routed = flat_map (λ tree. flat_map (λ path. flat_map (λ node. option_to_list (resource_of node)) path) tree) routed.routes ++ routed.pads

-- each of these is of the strip
abbrev pub AreThere : Basis → List Resource → Type 0
AreThere basis resources = All (λ resource. is_there basis.arch basis.strip resource ≡ true) resources

-- the list has exactly these resources, in node order, each once
pub record ListsAll (resources list : List Resource) : Type 0 where
  pub in_order : AllPairs IsEarlier list
  pub exact : (resource : Resource) → has list resource ≡ has resources resource

-- Private: in node order, perhaps with repetitions: no resource is before the one that it follows
abbrev pub IsInOrder : List Resource → Type 0
IsInOrder list = (k : ℕ) (d : Resource) → k + 1 < length list → IsEarlier (slice_index_or list (k + 1) d) (slice_index_or list k d) → ⊥
