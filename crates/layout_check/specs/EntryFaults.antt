-- What is wrong with the entry of a net between blocks.
use Rattle.std.specs.Prelude.{ℕ, ◌≡◌, ◌+◌, ◌<◌, Bool, true, false, List, Contains, Some, slice_get, slice_index, if◌then◌else◌}
use Rattle.std.specs.List.{list_any}
use Rattle.layout_check.specs.Prelude.{Circuit, drives, listed_with, sinks_of, LaidBlock, LaidNet, Layout, path_nodes, is_same_node, source_at, Node, Basis, graph_of}
use Rattle.layout_check.specs.declared.fault.EntryFault.{EntryFault}
use Rattle.layout_check.specs.declared.fault.EntryFault.TheVariants.{NoDriver, TwoDrivers, Listed, Paths}
use Rattle.layout_check.specs.RouteFaults.{IsPathFault}

-- the block drives the net, and no other does
pub record IsOnlyDriver (layout : Layout) (net driver : ℕ) (block : LaidBlock) : Type 0 where
  pub there : slice_get layout.blocks driver ≡ Some block
  pub driven : drives net block ≡ true
  pub only : (k : ℕ) (other : LaidBlock) → slice_get layout.blocks k ≡ Some other → drives net other ≡ true → k ≡ driver

-- what a fault says of the entry
abbrev pub IsEntryFault : Circuit → Basis → Layout → LaidNet → EntryFault → Type 0
IsEntryFault circuit basis layout laid NoDriver = (k : ℕ) (block : LaidBlock) → slice_get layout.blocks k ≡ Some block → drives laid.net block ≡ false
IsEntryFault circuit basis layout laid (TwoDrivers driver other) =
    (other ≡ driver → ⊥) × ((block : LaidBlock) × (slice_get layout.blocks driver ≡ Some block) × (drives laid.net block ≡ true)) × ((block : LaidBlock) × (slice_get layout.blocks other ≡ Some block) × (drives laid.net block ≡ true))
IsEntryFault circuit basis layout laid (Listed driver) = (block : LaidBlock) × IsOnlyDriver layout laid.net driver block × (laid.listed ≡ listed_with circuit basis.arch layout driver laid.net → ⊥)
IsEntryFault circuit basis layout laid (Paths driver fault) =
    (block : LaidBlock) × IsOnlyDriver layout laid.net driver block × IsPathFault basis (source_at block.block block.place) (sinks_of circuit basis.arch layout laid.net) laid.paths fault

-- the node is on the paths
abbrev pub is_on : List (List Node) → Node → Bool
is_on paths node = list_any (is_same_node node) (path_nodes paths)

-- each node of the paths, and no other, is used once more
abbrev pub AreUsedBy : Basis → List (List Node) → List ℕ → List ℕ → Type 0
AreUsedBy basis paths old new = (node : Node) (k : ℕ) → k < (graph_of basis).count → (graph_of basis).node k ≡ node → slice_index new k ≡ slice_index old k + (if is_on paths node then 1 else 0)
