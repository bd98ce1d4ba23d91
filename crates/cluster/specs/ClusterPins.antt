-- Private: the nets on the pins of clusters, and the blocks that read each net.
use Rattle.std.specs.Prelude.{ℕ, ◌+◌, ◌^◌, ◌≡◌, ◌<◌, ◌==◌, List, [], ◌∷◌, ◌++◌, All, Option, Some, None, count_by, map, length, slice_get, slice_index, take, if◌then◌else◌}
use Rattle.std.specs.List.{enumerate_from, flat_map, range_with_len, slice_index_or}
use Rattle.std.specs.Option.{ForSome, option_map_or, option_to_list}
use Rattle.cluster.specs.Prelude.{Pin, PinClass, Circuit, Keyed, has, with_nets, LogicElement, elements_at, clocks_of, outside_inputs, items_with}
use Rattle.cluster.specs.declared.cluster_sets.ClusterSets.{ClusterSets}
use Rattle.cluster.specs.declared.pin_nets.Gathered.{Gathered}
use Rattle.cluster.specs.Clusters.{PackedCircuit}
use Rattle.cluster.specs.Blocks.{is_same_class, leaves_block, net_name}

-- the BLE's nets are below the count
pub record IsElementWithin (count : ℕ) (element : LogicElement) : Type 0 where
  pub inputs : All (λ net. net < count) element.inputs
  pub output : element.output < count
  pub clock : ForSome element.clock (λ net. net < count)

-- the members are BLEs, whose nets are below the count
pub record AreMembersWithin (count : ℕ) (elements : List LogicElement) (members : List ℕ) : Type 0 where
  pub among : All (λ number. number < length elements) members
  pub within : All (IsElementWithin count) elements

-- the members are BLEs, whose nets are below the count of each of the sets
pub record CanGather (sets : ClusterSets) (elements : List LogicElement) (members : List ℕ) : Type 0 where
  pub among : All (λ number. number < length elements) members
  pub within : All (IsElementWithin sets.inputs.count) elements
  pub outputs_count : sets.outputs.count ≡ sets.inputs.count
  pub clocks_count : sets.clocks.count ≡ sets.inputs.count

-- each of the sets is for this number of nets
pub record AreSetsOf (count : ℕ) (sets : ClusterSets) : Type 0 where
  pub input_nets : sets.inputs.count ≡ count
  pub output_nets : sets.outputs.count ≡ count
  pub clock_nets : sets.clocks.count ≡ count

-- the BLEs' nets are those of the circuit, the members of the clusters are BLEs, and the number of
-- blocks fits into 32 bits
pub record AreClustersOf (circuit : Circuit) (bles : List LogicElement) (clusters : List (List ℕ)) : Type 0 where
  pub elements : All (IsElementWithin (length circuit.nets)) bles
  pub members : All (λ cluster. All (λ number. number < length bles) cluster) clusters
  pub few : length circuit.inputs + length circuit.outputs + length clusters < 2 ^ 32

-- the clocks of BLEs, once for each BLE that they clock
abbrev pub all_clocks_of : List LogicElement → List ℕ
all_clocks_of elements = flat_map (λ element. option_to_list element.clock) elements

-- the outside inputs of each cluster
abbrev pub inputs_of_clusters : List LogicElement → List (List ℕ) → List (List ℕ)
inputs_of_clusters elements clusters = map (λ members. outside_inputs (elements_at elements members)) clusters

-- the clocks of each cluster
abbrev pub clocks_of_clusters : List LogicElement → List (List ℕ) → List (List ℕ)
clocks_of_clusters elements clusters = map (λ members. clocks_of (elements_at elements members)) clusters

-- the nets on the pins of a cluster with these BLEs, except its output pins
abbrev pub nets_read : List LogicElement → List ℕ
nets_read elements = with_nets (outside_inputs elements) (clocks_of elements)

-- the BLEs of the cluster with this number
abbrev pub members_of : List LogicElement → List (List ℕ) → ℕ → List LogicElement
members_of elements clusters cluster = elements_at elements (slice_index_or clusters cluster [])

-- the numbers of those of the first `count` output pads that have the net
abbrev pub pads_with : Circuit → ℕ → ℕ → List ℕ
pads_with circuit net count = flat_map (λ pad. if slice_index circuit.outputs pad == net then (length circuit.inputs + pad) ∷ [] else []) (range_with_len 0 count)

-- the block numbers of those of the first `count` clusters that read the net
abbrev pub clusters_with : Circuit → List LogicElement → List (List ℕ) → ℕ → ℕ → List ℕ
clusters_with circuit elements clusters net count = flat_map (λ cluster. if has (nets_read (members_of elements clusters cluster)) net then (length circuit.inputs + length circuit.outputs + cluster) ∷ [] else []) (range_with_len 0 count)

-- the pairs have nets of the circuit as keys, and list for each net the first output pads and
-- clusters that read it
pub record TellReaders (circuit : Circuit) (elements : List LogicElement) (clusters : List (List ℕ)) (pads count : ℕ) (pairs : List Keyed) : Type 0 where
  pub within : All (λ pair. pair.key < length circuit.nets) pairs
  pub tell : (net : ℕ) → items_with pairs net ≡ pads_with circuit net pads ++ clusters_with circuit elements clusters net count

-- no cluster is gathered yet, and the pairs list the pads of all outputs
pub record IsBegun (circuit : Circuit) (elements : List LogicElement) (clusters : List (List ℕ)) (gathered : Gathered) : Type 0 where
  pub inputs : gathered.inputs ≡ []
  pub clocks : gathered.clocks ≡ []
  pub pairs : TellReaders circuit elements clusters (length circuit.outputs) 0 gathered.pairs.items

-- for each net the blocks that read it
abbrev pub readers_by_net : Circuit → List LogicElement → List (List ℕ) → List (List ℕ)
readers_by_net circuit elements clusters = map (λ net. pads_with circuit net (length circuit.outputs) ++ clusters_with circuit elements clusters net (length clusters)) (range_with_len 0 (length circuit.nets))

-- the number of pins of this class before the pin with this number
abbrev pub rank_of : List Pin → ℕ → PinClass → ℕ
rank_of pins number class = count_by (λ pin. is_same_class class pin.class) (take number pins)

-- the rank of each pin in its class
abbrev pub pin_ranks : List Pin → List ℕ
pin_ranks pins = map (λ pin. rank_of pins pin.0 pin.1.class) (enumerate_from 0 pins)

-- the block number of the cluster
abbrev pub cluster_block : PackedCircuit → ℕ → ℕ
cluster_block packed cluster = length packed.circuit.inputs + length packed.circuit.outputs + cluster

-- the net, if it leaves the block
abbrev pub if_leaving : PackedCircuit → ℕ → ℕ → Option ℕ
if_leaving packed driver net = if leaves_block packed driver net then Some net else None

-- the name of a cluster with these BLEs
abbrev pub seed_name : Circuit → List LogicElement → List ℕ
seed_name circuit elements = option_map_or (λ seed. net_name circuit seed.output) (slice_get elements 0) []
