-- The invariant of every packing: clusters have members, these are BLEs, and the number of BLEs is
-- small.
use Rattle.cluster.proofs.Prelude.{◌≡◌, ℕ, suc, zero, ◌+◌, ◌<◌, ◌≤◌, List, [], ◌∷◌, ◌++◌, All, filter, length, map, drop, sym, ◌∙◌, arith, None, length-append, ap, option_to_list, append-nil, length-map, take-append-drop, range_with_len, take_while, prefix_len, Decides-eqb, length-filter, count_by-le-length, IsDistinct-from_AllPairs, length-le_from_distinct_below, All-nil, All-cons, All-tail, All-append, All-filter, All-map, Arch, IsArch, Circuit, Latch, LookupTable, IsCircuit, drivers_of, LogicElement, bles_of, element_of_latch, element_of_table, in_line_order, latch_after, stands_alone, is_above, cluster_of, clusters_after, first_most, free_of, members_after, input_count_at, seed_of, unfit_of, with_cluster, packed_of, found, leading_lawful}
use Rattle.cluster.specs.Packing.{IsPacked}

with_lawful : (P : ℕ → Type 0) (score : ℕ → ℕ) (members numbers : List ℕ) → All P members → All P numbers → All P (members ++ option_to_list (first_most score numbers))
with_lawful P score members [] h k = rw (append-nil members) h
with_lawful P score members (number ∷ numbers) h k = All-append P members _ h (All-cons P _ [] (leading_lawful P score number numbers (k 0 number (omega arith)) (All-tail P number numbers k)) (All-nil P))

module _ (arch : Arch) (elements : List LogicElement) where
  -- the number of a BLE
  abbrev IsElement : ℕ → Type 0
  IsElement number = number < length elements

  grown_lawful : (free seed : List ℕ) (additions : ℕ) → All IsElement free → All IsElement seed → All IsElement (members_after arch elements free seed additions)
  grown_lawful free seed zero f s = s
  grown_lawful free seed (suc additions) f s = search (with_lawful, All-filter, grown_lawful free seed additions f s, arith)

  cluster_lawful : (free : List ℕ) → All IsElement free → All IsElement (cluster_of arch elements free)
  unfolding cluster_of
  cluster_lawful free f = grown_lawful free (seed_of elements free) arch.cluster_size f (with_lawful IsElement (input_count_at elements) [] free (All-nil IsElement) f)

  pub ranged : (start count bound : ℕ) → start + count ≤ bound → All (λ number. number < bound) (range_with_len start count)
  ranged start zero bound h = All-nil _
  ranged start (suc count) bound h = All-cons (λ number. number < bound) start _ (omega (arith, h)) (ranged (start + 1) count bound (omega (arith, h)))

  pub free_lawful : (clusters : List (List ℕ)) → All IsElement (free_of elements clusters)
  free_lawful clusters = All-filter _ IsElement (range_with_len 0 (length elements)) (ranged 0 (length elements) (length elements) (omega arith))

  -- a lawful cluster
  abbrev IsClusterOf : List ℕ → Type 0
  IsClusterOf cluster = All IsElement cluster

  with_one : (clusters : List (List ℕ)) (cluster : List ℕ) → All IsClusterOf clusters → IsClusterOf cluster → All IsClusterOf (with_cluster clusters cluster)
  with_one clusters [] h k = h
  with_one clusters (seed ∷ others) h k = All-append IsClusterOf clusters _ h (All-cons IsClusterOf (seed ∷ others) [] k (All-nil IsClusterOf))

  seeded_one : (clusters : List (List ℕ)) (cluster : List ℕ) → All (λ c. 0 < length c) clusters → All (λ c. 0 < length c) (with_cluster clusters cluster)
  seeded_one clusters [] h = h
  seeded_one clusters (seed ∷ others) h = All-append (λ c. 0 < length c) clusters _ h (All-cons (λ c. 0 < length c) (seed ∷ others) [] (omega arith) (All-nil _))

  -- the members of clusters are BLEs
  pub all_members : (steps : ℕ) → All (λ cluster. All (λ number. number < length elements) cluster) (clusters_after arch elements steps)
  unfolding clusters_after
  all_members zero = All-nil _
  all_members (suc steps) = with_one (clusters_after arch elements steps) (cluster_of arch elements (free_of elements (clusters_after arch elements steps))) (all_members steps) (cluster_lawful (free_of elements (clusters_after arch elements steps)) (free_lawful (clusters_after arch elements steps)))

  -- each cluster has a seed
  pub all_seeded : (steps : ℕ) → All (λ cluster. 0 < length cluster) (clusters_after arch elements steps)
  unfolding clusters_after
  all_seeded zero = All-nil _
  all_seeded (suc steps) = seeded_one (clusters_after arch elements steps) (cluster_of arch elements (free_of elements (clusters_after arch elements steps))) (all_seeded steps)

-- there are at most as many BLEs as tables and latches
module _ (circuit : Circuit) where
  kept_few : (latches : List Latch) → length (filter (stands_alone circuit) latches) ≤ length latches
  kept_few latches = omega (arith, length-filter (stands_alone circuit) latches, count_by-le-length (stands_alone circuit) latches)

  in_order_few : (tables : List LookupTable) (latches : List Latch) → length (in_line_order circuit tables latches) ≡ length tables + length latches
  in_order_few [] latches = omega (arith, length-map latches element_of_latch)
  in_order_few (table ∷ tables) latches =
      let early = take_while (is_above table.line) latches in
      let late = drop (prefix_len (is_above table.line) latches) latches in
      let rest = in_line_order circuit tables late in
      let whole = length-append (map element_of_latch early) (element_of_table table (latch_after circuit table.output) ∷ rest) in
      let parts : length early + length late ≡ length latches = sym (length-append early late) ∙ ap length (take-append-drop (prefix_len (is_above table.line) latches) latches) in
      omega (arith, whole, length-map early element_of_latch, in_order_few tables late, parts)

  pub within : IsCircuit circuit → All (λ net. net < length circuit.nets) (drivers_of circuit)
  within c =
      All-append (λ net. net < length circuit.nets) circuit.inputs _ c.inputs
      (All-append (λ net. net < length circuit.nets) (map (λ table. table.output) circuit.tables) _
      (All-map (λ net. net < length circuit.nets) (λ table. table.output) circuit.tables (λ k d small. (c.tables k d small).output))
      (All-map (λ net. net < length circuit.nets) (λ latch. latch.output) circuit.latches (λ k d small. (c.latches k d small).output)))

  -- the nets that are driven: inputs, and each BLE's output
  pub few_driven : IsCircuit circuit → length circuit.inputs + length (bles_of circuit) ≤ 8192
  unfolding bles_of
  few_driven c =
      let kept = filter (stands_alone circuit) circuit.latches in
      let distinct = IsDistinct-from_AllPairs Decides-eqb (drivers_of circuit) c.driven_once in
      let few = length-le_from_distinct_below (drivers_of circuit) (length circuit.nets) distinct (found (λ net. net < length circuit.nets) (drivers_of circuit) (within c)) in
      grind (arith, length-append, in_order_few, kept_few, length-map)

  pub few_bles : IsCircuit circuit → length (bles_of circuit) ≤ 8192
  few_bles c = omega (arith, few_driven c)

-- the packing of a lawful circuit satisfies the invariant
pub packed_lawful : (circuit : Circuit) (arch : Arch) → IsCircuit circuit → IsArch arch → unfit_of circuit arch ≡ None → IsPacked (packed_of circuit arch)
unfolding packed_of
packed_lawful circuit arch c a fit = grind (arith, all_members, all_seeded, few_bles)
