-- Private: a packing in progress, and the growth of its clusters.
use Rattle.std.specs.Prelude.{ℕ, suc, ◌≡◌, ◌+◌, ◌≤◌, List, [], ◌∷◌, None, length}
use Rattle.cluster.specs.Prelude.{Arch, Circuit, bles_of, clusters_after, free_of, unfit_of, FreeBlesState}

-- the number of steps whose clusters are made: if no BLE is free any more, the current step has
-- already made its cluster
abbrev pub steps_reached : List ℕ → ℕ → ℕ
steps_reached [] made = suc made
steps_reached (number ∷ free) made = made

-- the clusters are those of the steps made, each of which took at least one BLE, and the BLEs
-- outside all of them are free
pub record IsUnderWay (circuit : Circuit) (arch : Arch) (growth : FreeBlesState) (clusters : List (List ℕ)) (made : ℕ) : Type 0 where
  pub fit : unfit_of circuit arch ≡ None
  pub elements : growth.elements ≡ bles_of circuit
  pub free : growth.free ≡ free_of (bles_of circuit) clusters
  pub exact : clusters ≡ clusters_after arch (bles_of circuit) (steps_reached growth.free made)
  pub count : length (clusters_after arch (bles_of circuit) made) ≡ made
  pub taken : length (free_of (bles_of circuit) (clusters_after arch (bles_of circuit) made)) + made ≤ length (bles_of circuit)
  pub begun : free_of (bles_of circuit) (clusters_after arch (bles_of circuit) made) ≡ [] → made ≡ 0
