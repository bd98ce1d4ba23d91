-- A packing has few steps.
use Rattle.job_state.proofs.Prelude.{ℕ, suc, zero, ◌+◌, ◌≤◌, List, [], length, arith, length-append, IsArch, Arch, IsCircuit, Circuit, LogicElement, bles_of, clusters_after, packed_of, packing_steps, with_cluster, few_bles}

-- each step adds at most one cluster
one_more : (clusters : List (List ℕ)) (cluster : List ℕ) → length (with_cluster clusters cluster) ≤ length clusters + 1
one_more clusters cluster = grind (arith, length-append)

few_clusters : (arch : Arch) (elements : List LogicElement) (steps : ℕ) → length (clusters_after arch elements steps) ≤ steps
unfolding clusters_after
few_clusters arch elements zero = omega arith
few_clusters arch elements (suc steps) = grind (arith, one_more, few_clusters arch elements steps)

-- and there are at most as many clusters as BLEs
pub few_steps : (circuit : Circuit) (arch : Arch) → IsCircuit circuit → IsArch arch → packing_steps circuit arch ≤ 8192
unfolding packed_of
few_steps circuit arch lawful limits = omega (arith, few_bles circuit lawful, few_clusters arch (bles_of circuit) (length (bles_of circuit)))
