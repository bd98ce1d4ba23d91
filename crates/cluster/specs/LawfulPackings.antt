-- The invariant of every packed circuit.
use Rattle.std.specs.Prelude.{◌≡◌, ◌<◌, ◌≤◌, None, All, length}
use Rattle.cluster.specs.Prelude.{MAX_NETS, IsArch, IsCircuit, bles_of, unfit_of}
use Rattle.cluster.specs.Clusters.{PackedCircuit, packed_of}

-- a packed circuit is within the limits, and each of its BLEs fits into a cluster alone; its
-- clusters have a seed, and their members are its BLEs
pub record IsPacked (packed : PackedCircuit) : Type 0 where
  pub circuit : IsCircuit packed.circuit
  pub arch : IsArch packed.arch
  pub fit : unfit_of packed.circuit packed.arch ≡ None
  pub members : All (λ cluster. All (λ number. number < length (bles_of packed.circuit)) cluster) packed.clusters
  pub seeds : All (λ cluster. 0 < length cluster) packed.clusters
  pub few_elements : length (bles_of packed.circuit) ≤ MAX_NETS
  pub exact : packed ≡ packed_of packed.circuit packed.arch
