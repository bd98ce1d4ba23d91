-- Packed circuits: clusters of BLEs, with the circuit and the architecture.
use Rattle.std.specs.Prelude.{ℕ, ◌+◌, max, List, length}
use Rattle.cluster.specs.Prelude.{Arch, Circuit, bles_of}
unfoldable pub use Rattle.ble_cluster.specs.Clusters.{cluster_of, clusters_after, unfit_of}
pub use Rattle.ble_cluster.specs.Clusters.{fits_in_cluster, free_of, outputs_of, with_cluster}

-- a packed circuit: clusters of its BLEs, by number
pub record PackedCircuit : Type 0 where
  pub circuit : Circuit
  pub arch : Arch
  pub clusters : List (List ℕ)

-- the packing of a circuit: each cluster takes at least one BLE, so the number of BLEs is enough
-- steps
unfoldable pub packed_of : Circuit → Arch → PackedCircuit
packed_of circuit arch = record { circuit = circuit; arch = arch; clusters = clusters_after arch (bles_of circuit) (length (bles_of circuit)) }

-- the steps of the packing: one for each cluster, at least one
abbrev pub packing_steps : Circuit → Arch → ℕ
packing_steps circuit arch = max 1 (length (packed_of circuit arch).clusters)

-- a packing in progress: its circuit, its architecture, and the number of steps made
pub record PackingUnderWay : Type 0 where
  pub circuit : Circuit
  pub arch : Arch
  pub made : ℕ

-- the packing after one more step
abbrev pub one_more : PackingUnderWay → PackingUnderWay
one_more packing = record packing { made = packing.made + 1 }
