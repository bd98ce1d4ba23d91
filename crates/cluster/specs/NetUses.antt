-- Private: the users of each net.
use Rattle.std.specs.Prelude.{ℕ, ◌+◌, ◌^◌, ◌≡◌, ◌<◌, ◌==◌, Bool, not, nat_lt, ◌||◌, List, [], ◌∷◌, All, map, filter, length, slice_index}
use Rattle.std.specs.List.{flat_map, range_with_len, slice_index_or}
use Rattle.std.specs.Option.{option_to_list}
use Rattle.cluster.specs.Prelude.{Circuit, Latch, has, LogicElement, outputs_of}
use Rattle.cluster.specs.declared.net_uses.NetUses.{NetUses}
use Rattle.cluster.specs.Blocks.{BlockNet}
use Rattle.cluster.specs.ClusterPins.{IsElementWithin, members_of}

-- the nets that control latches, once for each latch that they control
abbrev pub controls_of : List Latch → List ℕ
controls_of latches = flat_map (λ latch. option_to_list latch.control) latches

-- the readers without the driver
abbrev pub other_readers : ℕ → List ℕ → List ℕ
other_readers driver readers = filter (λ reader. not (reader == driver)) readers

-- the net leaves the block that drives it
abbrev pub leaves_by : NetUses → ℕ → ℕ → Bool
leaves_by uses driver net = has uses.globals.nets net || nat_lt 0 (length (other_readers driver (slice_index_or uses.readers net [])))

-- the net, as one that the block drives
abbrev pub net_by : NetUses → ℕ → ℕ → BlockNet
net_by uses driver net = record { net = net; driver = driver; readers = other_readers driver (slice_index_or uses.readers net []); global = has uses.globals.nets net }

-- the nets that the first `count` input pads drive
abbrev pub input_nets : Circuit → NetUses → ℕ → List BlockNet
input_nets circuit uses count = flat_map (λ pad. net_by uses pad (slice_index circuit.inputs pad) ∷ []) (range_with_len 0 count)

-- the nets that a block with these BLEs drives
abbrev pub driven_nets : NetUses → ℕ → List LogicElement → List BlockNet
driven_nets uses driver elements = map (net_by uses driver) (filter (leaves_by uses driver) (outputs_of elements))

-- the nets that the first `count` clusters drive
abbrev pub cluster_nets : Circuit → NetUses → List LogicElement → List (List ℕ) → ℕ → List BlockNet
cluster_nets circuit uses elements clusters count = flat_map (λ cluster. driven_nets uses (length circuit.inputs + length circuit.outputs + cluster) (members_of elements clusters cluster)) (range_with_len 0 count)

-- the uses cover the net
pub record IsUsed (uses : NetUses) (net : ℕ) : Type 0 where
  pub global : net < uses.globals.count
  pub reader : net < length uses.readers

-- the uses cover the nets of the input pads, and the number of these fits into 32 bits
pub record UsesInputs (circuit : Circuit) (uses : NetUses) : Type 0 where
  pub within : All (λ net. net < uses.globals.count) circuit.inputs
  pub same_count : length uses.readers ≡ uses.globals.count
  pub few : length circuit.inputs < 2 ^ 32

-- the uses cover the BLEs' nets, and the members are BLEs
pub record UsesMembers (uses : NetUses) (bles : List LogicElement) (members : List ℕ) : Type 0 where
  pub elements : All (IsElementWithin uses.globals.count) bles
  pub same_count : length uses.readers ≡ uses.globals.count
  pub among : All (λ number. number < length bles) members

-- the uses cover the BLEs' nets, the members of each cluster are BLEs, and the number of blocks
-- fits into 32 bits
pub record UsesClusters (circuit : Circuit) (uses : NetUses) (bles : List LogicElement) (clusters : List (List ℕ)) : Type 0 where
  pub elements : All (IsElementWithin uses.globals.count) bles
  pub same_count : length uses.readers ≡ uses.globals.count
  pub among : All (λ cluster. All (λ number. number < length bles) cluster) clusters
  pub few : length circuit.inputs + length circuit.outputs + length clusters < 2 ^ 32

-- the uses cover the nets of input pads and of clusters
pub record UsesBlocks (circuit : Circuit) (uses : NetUses) (bles : List LogicElement) (clusters : List (List ℕ)) : Type 0 where
  pub of_inputs : UsesInputs circuit uses
  pub of_clusters : UsesClusters circuit uses bles clusters
