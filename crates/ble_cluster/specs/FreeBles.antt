-- Free BLEs, and the members of a cluster made of them.
use Rattle.std.specs.Prelude.{ℕ, ◌≡◌, ◌<◌, ◌≤◌, Bool, true, not, List, All, None, filter, length, slice_index_or}
use Rattle.std.specs.List.{range_with_len}
use Rattle.ble_cluster.specs.Prelude.{MAX_NETS, Arch, IsArch}
use Rattle.ble_cluster.specs.Nets.{distinct_nets}
use Rattle.ble_cluster.specs.Bles.{LogicElement}
use Rattle.ble_cluster.specs.Clusters.{unfit_among}

-- the nets of the BLE are below the count, and each of its inputs occurs once
pub record IsElement (count : ℕ) (element : LogicElement) : Type 0 where
  pub inputs : All (λ net. net < count) element.inputs
  pub output : element.output < count
  pub once : distinct_nets element.inputs ≡ element.inputs

-- at most 8,192 BLEs, whose nets are below the count
pub record AreBles (count : ℕ) (bles : List LogicElement) : Type 0 where
  pub few : length bles ≤ MAX_NETS
  pub elements : All (IsElement count) bles

-- each BLE fits alone into a cluster of a lawful architecture
pub record AllFit (arch : Arch) (elements : List LogicElement) : Type 0 where
  pub lawful : IsArch arch
  pub alone : unfit_among arch elements ≡ None

-- the numbers that are not marked as taken
abbrev pub free_in : List Bool → List ℕ
free_in taken = filter (λ number. not (slice_index_or taken number true)) (range_with_len 0 (length taken))

-- BLEs, the numbers of the free ones, and the members of a cluster
pub record FreeBlesState : Type 0 where
  pub elements : List LogicElement
  pub free : List ℕ
  pub members : List ℕ
