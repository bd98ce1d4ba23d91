-- Clusters of BLEs, made one after another: first a seed, and then always the BLE that shares most
-- nets with the members (T-VPack).
use Rattle.std.specs.Prelude.{ℕ, suc, zero, Bool, not, ◌&&◌, nat_le, nat_lt, List, [], ◌∷◌, ◌++◌, map, filter, find, length, Option, Some, None, if◌then◌else◌}
use Rattle.std.specs.List.{flat_map, list_any, range_with_len}
use Rattle.std.specs.Option.{option_to_list}
use Rattle.ble_cluster.specs.Prelude.{Arch, input_count, Circuit}
use Rattle.ble_cluster.specs.Nets.{has, distinct_nets}
use Rattle.ble_cluster.specs.Bles.{LogicElement, bles_of, element_at}

-- the outputs and the clocks of BLEs
abbrev pub outputs_of : List LogicElement → List ℕ
outputs_of elements = map (λ element. element.output) elements

abbrev pub clocks_of : List LogicElement → List ℕ
clocks_of elements = distinct_nets (flat_map (λ element. option_to_list element.clock) elements)

-- the inputs that none of these BLEs drives, each once, in the order in which they first appear
abbrev pub outside_inputs : List LogicElement → List ℕ
outside_inputs elements = filter (λ net. not (has (outputs_of elements) net)) (distinct_nets (flat_map (λ element. element.inputs) elements))

-- the BLEs fit into one cluster: there are at most as many BLEs as the cluster size, at most as
-- many outside inputs as input pins, and at most one clock
abbrev pub fits_in_cluster : Arch → List LogicElement → Bool
fits_in_cluster arch elements =
    nat_le (length elements) arch.cluster_size
    && (nat_le (length (outside_inputs elements)) (input_count arch.pins) && nat_le (length (clocks_of elements)) 1)

-- the least BLE that doesn't fit into a cluster alone
abbrev pub unfit_among : Arch → List LogicElement → Option ℕ
unfit_among arch elements = find (λ number. not (fits_in_cluster arch (element_at elements number ∷ []))) (range_with_len 0 (length elements))

-- the least BLE of the circuit that doesn't fit into a cluster alone; a circuit that has one cannot
-- be packed
unfoldable pub unfit_of : Circuit → Arch → Option ℕ
unfit_of circuit arch = unfit_among arch (bles_of circuit)

-- of a number and those after it, the first with the greatest score
abbrev pub leader_of : (ℕ → ℕ) → ℕ → List ℕ → ℕ
leader_of score best [] = best
leader_of score best (number ∷ numbers) = leader_of score (if nat_lt (score best) (score number) then number else best) numbers

-- the first number with the greatest score, if there is one
abbrev pub first_most : (ℕ → ℕ) → List ℕ → Option ℕ
first_most score [] = None
first_most score (number ∷ numbers) = Some (leader_of score number numbers)

-- the nets of a BLE except its clock, each once
abbrev pub nets_of : LogicElement → List ℕ
nets_of element = distinct_nets (element.inputs ++ element.output ∷ [])

-- the BLEs with these numbers
abbrev pub elements_at : List LogicElement → List ℕ → List LogicElement
elements_at elements numbers = map (element_at elements) numbers

-- the number of inputs of the BLE with this number
abbrev pub input_count_at : List LogicElement → ℕ → ℕ
input_count_at elements number = length (element_at elements number).inputs

-- the number of nets that the BLE with this number has in common with the members
abbrev pub shared_nets : List LogicElement → List ℕ → ℕ → ℕ
shared_nets elements members number = length (filter (has (flat_map nets_of (elements_at elements members))) (nets_of (element_at elements number)))

-- the BLE with this number may be added to the members
abbrev pub may_join : Arch → List LogicElement → List ℕ → ℕ → Bool
may_join arch elements members number = not (has members number) && fits_in_cluster arch (elements_at elements (members ++ number ∷ []))

-- the free BLE to add: of those that fit with the members, the one that shares most nets with them;
-- of several, the one with the least number
abbrev pub next_member : Arch → List LogicElement → List ℕ → List ℕ → Option ℕ
next_member arch elements free members = first_most (shared_nets elements members) (filter (may_join arch elements members) free)

-- the members after this number of additions; an addition adds nothing if no BLE may be added
abbrev pub members_after : Arch → List LogicElement → List ℕ → List ℕ → ℕ → List ℕ
members_after arch elements free seed zero = seed
members_after arch elements free seed (suc additions) = members_after arch elements free seed additions ++ option_to_list (next_member arch elements free (members_after arch elements free seed additions))

-- the seed: the free BLE with most inputs; of several, the one with the least number
abbrev pub seed_of : List LogicElement → List ℕ → List ℕ
seed_of elements free = option_to_list (first_most (input_count_at elements) free)

-- the cluster made of free BLEs
unfoldable pub cluster_of : Arch → List LogicElement → List ℕ → List ℕ
cluster_of arch elements free = members_after arch elements free (seed_of elements free) arch.cluster_size

-- the BLEs that are not in a cluster
abbrev pub free_of : List LogicElement → List (List ℕ) → List ℕ
free_of elements clusters = filter (λ number. not (list_any (λ cluster. has cluster number) clusters)) (range_with_len 0 (length elements))

-- the clusters, with this one appended unless it has no member
abbrev pub with_cluster : List (List ℕ) → List ℕ → List (List ℕ)
with_cluster clusters [] = clusters
with_cluster clusters (seed ∷ others) = clusters ++ (seed ∷ others) ∷ []

-- the clusters after this number of steps; a step makes one as long as BLEs are free
unfoldable pub clusters_after : Arch → List LogicElement → ℕ → List (List ℕ)
clusters_after arch elements zero = []
clusters_after arch elements (suc steps) = with_cluster (clusters_after arch elements steps) (cluster_of arch elements (free_of elements (clusters_after arch elements steps)))
