-- What is wrong with the nets between blocks.
use Rattle.std.specs.Prelude.{ℕ, ◌≡◌, ◌<◌, ◌≤◌, List, Some, count_by, slice_get, slice_index}
use Rattle.layout_check.specs.Prelude.{Circuit, LaidNet, Layout, Node, capacity_of, Basis, graph_of}
use Rattle.layout_check.specs.declared.fault.NetFault.{NetFault}
use Rattle.layout_check.specs.declared.fault.NetFault.TheVariants.{Entry, Overused}
use Rattle.layout_check.specs.EntryFaults.{IsEntryFault, is_on}

-- how many of the nets use the node
abbrev pub uses_of : List LaidNet → Node → ℕ
uses_of nets node = count_by (λ between. is_on between.paths node) nets

-- no node is on the paths of more nets than it can carry
abbrev pub AreCarried : Basis → List LaidNet → Type 0
AreCarried basis nets = (node : Node) → uses_of nets node ≤ capacity_of basis.arch basis.strip node

-- these are the numbers of nets that use each node
abbrev pub AreUses : Basis → List LaidNet → List ℕ → Type 0
AreUses basis nets uses = (node : Node) (k : ℕ) → k < (graph_of basis).count → (graph_of basis).node k ≡ node → slice_index uses k ≡ uses_of nets node

-- what a fault says of the nets of a layout
abbrev pub IsNetFault : Circuit → Basis → Layout → NetFault → Type 0
IsNetFault circuit basis layout (Entry number fault) = (laid : LaidNet) × (slice_get layout.nets number ≡ Some laid) × IsEntryFault circuit basis layout laid fault
IsNetFault circuit basis layout (Overused node) = capacity_of basis.arch basis.strip node < uses_of layout.nets node
