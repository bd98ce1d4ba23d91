-- Private: a growing cluster.
use Rattle.std.specs.Prelude.{ℕ, ◌≡◌, ◌<◌, ◌≤◌, Bool, true, false, not, ◌||◌, ◌&&◌, ◌==◌, List, [], ◌∷◌, ◌++◌, All, filter, length, Option, Some, None}
use Rattle.std.specs.List.{flat_map}
use Rattle.std.specs.Option.{option_to_list}
use Rattle.ble_cluster.specs.Prelude.{MAX_INPUTS, MAX_NETS, Arch, IsArch}
use Rattle.ble_cluster.specs.declared.first_free.FirstFree.{FirstFree}
use Rattle.ble_cluster.specs.declared.growing_cluster.GrowingCluster.{GrowingCluster}
use Rattle.ble_cluster.specs.Nets.{distinct_nets, has}
use Rattle.ble_cluster.specs.Bles.{LogicElement, element_at}
use Rattle.ble_cluster.specs.Clusters.{clocks_of, elements_at, first_most, fits_in_cluster, input_count_at, nets_of, outputs_of, outside_inputs}
use Rattle.ble_cluster.specs.OutsideInputs.{inputs_of}
use Rattle.ble_cluster.specs.SharedNets.{AreRaised, gain_at}
use Rattle.ble_cluster.specs.BleIndex.{AreHaving, BlesOver}
use Rattle.ble_cluster.specs.FirstFree.{AreLacks, AreOutsideCounts, IsFirstFree}
use Rattle.ble_cluster.specs.FreeBles.{free_in}

-- the net is a new input from outside, for a BLE that drives that output
abbrev pub is_new_input : List ℕ → List ℕ → ℕ → ℕ → Bool
is_new_input reads drives output net = not (has reads net) && (not (has drives net) && not (net == output))

abbrev pub new_inputs_of : List ℕ → List ℕ → ℕ → List ℕ → List ℕ
new_inputs_of reads drives output inputs = filter (is_new_input reads drives output) inputs

-- the number of these nets that each BLE has
abbrev pub AreShared : List LogicElement → List ℕ → List ℕ → Type 0
AreShared elements nets gains = (number : ℕ) → number < length elements → gain_at gains number ≡ length (filter (has nets) (nets_of (element_at elements number)))

-- the growing cluster has the size for these BLEs and their nets
pub record IsRoomFor (over : BlesOver) (growth : GrowingCluster) : Type 0 where
  pub reads : growth.reads.count ≡ over.nets
  pub drives : growth.drives.count ≡ over.nets
  pub gains : length growth.gains ≡ length over.elements

-- the growing cluster has the data of its members
pub record IsGrowingCluster (elements : List LogicElement) (count : ℕ) (growth : GrowingCluster) : Type 0 where
  pub members : All (λ number. number < length elements) growth.members.items
  pub reads_count : growth.reads.count ≡ count
  pub drives_count : growth.drives.count ≡ count
  pub gains_count : length growth.gains ≡ length elements
  pub reads : growth.reads.nets ≡ distinct_nets (inputs_of (elements_at elements growth.members.items))
  pub drives : growth.drives.nets ≡ distinct_nets (outputs_of (elements_at elements growth.members.items))
  pub outside : growth.outside ≡ length (outside_inputs (elements_at elements growth.members.items))
  pub small : growth.outside ≤ MAX_INPUTS
  pub clock : clocks_of (elements_at elements growth.members.items) ≡ option_to_list growth.clock
  pub gains : AreShared elements (flat_map nets_of (elements_at elements growth.members.items)) growth.gains

-- two clocks are equal, or there is at most one
abbrev pub agree : Option ℕ → Option ℕ → Bool
agree None other = true
agree (Some clock) None = true
agree (Some clock) (Some other) = clock == other

-- each BLE that has the net shares one more net
pub record IsEntering (elements : List LogicElement) (net : ℕ) (old new : List ℕ) : Type 0 where
  pub row : List ℕ
  pub having : AreHaving elements net row
  pub raised : AreRaised old new row

-- the net is counted for the BLEs that have it, unless a member already has it
abbrev pub EntersUnless : Bool → List LogicElement → ℕ → List ℕ → List ℕ → Type 0
EntersUnless true elements net old new = new ≡ old
EntersUnless false elements net old new = IsEntering elements net old new

abbrev pub IsEntered : BlesOver → GrowingCluster → ℕ → List ℕ → Type 0
IsEntered over old net gains = EntersUnless (has old.reads.nets net || has old.drives.nets net) over.elements net old.gains gains

-- the counts are those of all nets that members have
abbrev pub IsTold : List LogicElement → GrowingCluster → Type 0
IsTold elements growth = AreShared elements (growth.reads.nets ++ growth.drives.nets) growth.gains

-- the number is that of one of the growing cluster's BLEs
pub record IsBeside (over : BlesOver) (cluster : GrowingCluster) (one : ℕ) : Type 0 where
  pub growth : IsGrowingCluster over.elements over.nets cluster
  pub number : one < length over.elements

-- the net may be added to the growing cluster, whose counts are those of its nets
pub record MayEnter (over : BlesOver) (cluster : GrowingCluster) (net : ℕ) : Type 0 where
  pub within : net < over.nets
  pub room : IsRoomFor over cluster
  pub told : IsTold over.elements cluster

-- each of the nets may be added to the growing cluster, whose counts are those of its nets
pub record MayAllEnter (over : BlesOver) (cluster : GrowingCluster) (nets : List ℕ) : Type 0 where
  pub within : All (λ net. net < over.nets) nets
  pub room : IsRoomFor over cluster
  pub told : IsTold over.elements cluster

-- the BLEs fit into a cluster of some architecture
pub record MayFit (elements : List LogicElement) : Type 0 where
  pub arch : Arch
  pub lawful : IsArch arch
  pub fits : fits_in_cluster arch elements ≡ true

-- the BLE with this number may be added to the growing cluster
pub record MayAdd (over : BlesOver) (cluster : GrowingCluster) (one : ℕ) : Type 0 where
  pub growth : IsGrowingCluster over.elements over.nets cluster
  pub number : one < length over.elements
  pub fits : MayFit (elements_at over.elements (cluster.members.items ++ one ∷ []))

-- the clock of the cluster after one more member
abbrev pub later_clock : Option ℕ → Option ℕ → Option ℕ
later_clock clock None = clock
later_clock clock (Some other) = Some other

-- the invariant of a grower: a mark for each of at most 8,192 BLEs, and a cluster of the size for
-- them
pub record AreFreeBles (over : BlesOver) (taken : List Bool) (growth : GrowingCluster) : Type 0 where
  pub marks : length taken ≡ length over.elements
  pub few : length over.elements ≤ MAX_NETS
  pub members : All (λ number. number < length over.elements) growth.members.items
  pub room : IsRoomFor over growth

-- the indices of the free BLEs are correct, and this is the seed of the next cluster
pub record IsSeeded (elements : List LogicElement) (taken : List Bool) (by_lack by_outside : FirstFree) (seed : Option ℕ) : Type 0 where
  pub lacks : AreLacks elements by_lack.keys.items
  pub outside : AreOutsideCounts elements by_outside.keys.items
  pub by_lack_free : IsFirstFree taken by_lack
  pub by_outside_free : IsFirstFree taken by_outside
  pub first : seed ≡ first_most (input_count_at elements) (free_in taken)
