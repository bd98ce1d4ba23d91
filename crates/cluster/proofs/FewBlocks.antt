-- The number of blocks of a packed circuit is small, and its BLEs have nets of the circuit.
use Rattle.cluster.proofs.Prelude.{◌≢◌, ℕ, suc, zero, ◌+◌, ◌^◌, ◌<◌, ◌≤◌, Bool, true, false, List, [], ◌∷◌, Option, None, Some, All, filter, length, map, drop, if◌then◌else◌, refl, arith, length-append, eqb, take_while, prefix_len, ForSome, Decides-eqb, IsDistinct-from_AllPairs, length-le_from_distinct_below, All-nil, All-cons, All-head, All-tail, All-append, All-filter, All-map, All-drop, All-take, All-weaker, Circuit, Latch, LookupTable, IsCircuit, IsLatchWithin, IsTableWithin, drivers_of, Arch, with_nets, with_net, LogicElement, bles_of, element_of_latch, element_of_table, in_line_order, latch_after, stands_alone, is_read_once, is_above, clusters_after, with_cluster, PackedCircuit, packed_of, IsElementWithin, IsPacked, found}
use Rattle.std.specs.List.{AllPairs, find}
use Rattle.cluster.proofs.Members.{within}

-- numbers below a bound, each once, are at most as many as the bound
pub few_distinct : (numbers : List ℕ) (bound : ℕ) → AllPairs (λ number other. number ≢ other) numbers → All (λ number. number < bound) numbers → length numbers ≤ bound
few_distinct numbers bound apart below = length-le_from_distinct_below numbers bound (IsDistinct-from_AllPairs Decides-eqb numbers apart) (found (λ number. number < bound) numbers below)

-- each step makes at most one cluster
one_more : (clusters : List (List ℕ)) (cluster : List ℕ) → length (with_cluster clusters cluster) ≤ length clusters + 1
one_more clusters cluster = grind (arith, length-append)

pub few_clusters : (arch : Arch) (elements : List LogicElement) (steps : ℕ) → length (clusters_after arch elements steps) ≤ steps
unfolding clusters_after
few_clusters arch elements zero = omega arith
few_clusters arch elements (suc steps) = grind (arith, one_more, few_clusters arch elements steps)

-- the number of blocks of a packed circuit fits into 32 bits
pub few_blocks : (packed : PackedCircuit) → IsPacked packed → length packed.circuit.inputs + length packed.circuit.outputs + length packed.clusters < 2 ^ 32
unfolding packed_of
few_blocks packed lawful =
    let circuit = packed.circuit in
    let c = lawful.circuit in
    let drivers = few_distinct (drivers_of circuit) (length circuit.nets) c.driven_once (within circuit c) in
    let outputs = few_distinct circuit.outputs (length circuit.nets) c.shown_once c.outputs in
    grind (arith, length-append, few_clusters)

-- the number of pads of a circuit fits into 32 bits
pub few_pads : (circuit : Circuit) → IsCircuit circuit → length circuit.inputs + length circuit.outputs < 2 ^ 32
few_pads circuit c = grind (arith, length-append, few_distinct (drivers_of circuit) (length circuit.nets) c.driven_once (within circuit c), few_distinct circuit.outputs (length circuit.nets) c.shown_once c.outputs)

-- a property of all nets still holds with one more net
All-with_net : (P : ℕ → Type 0) (nets : List ℕ) (net : ℕ) → All P nets → P net → All P (with_net nets net)
All-with_net P nets net all one = grind (arith, All-append P nets (net ∷ []) all (All-cons P net [] one (All-nil P)))

All-with_nets : (P : ℕ → Type 0) (nets others : List ℕ) → All P nets → All P others → All P (with_nets nets others)
All-with_nets P nets [] all more = all
All-with_nets P nets (other ∷ others) all more = grind (arith, All-with_nets P (with_net nets other) others (All-with_net P nets other all (All-head P other others more)) (All-tail P other others more))

-- a latch that is found among lawful latches is lawful
found_latch : (count : ℕ) (test : Latch → Bool) (latches : List Latch) → All (IsLatchWithin count) latches → ForSome (find test latches) (IsLatchWithin count)
found_latch count test [] all = λ latch is. absurd cc
found_latch count test (first ∷ latches) all = grind (arith, All-head, found_latch count test latches (All-tail (IsLatchWithin count) first latches all))

behind_lawful : (circuit : Circuit) (net : ℕ) → IsCircuit circuit → ForSome (latch_after circuit net) (IsLatchWithin (length circuit.nets))
behind_lawful circuit net c = by (is_read_once circuit net)
  where
    by : (b : Bool) → ForSome (if b then find (λ latch. eqb latch.input net) circuit.latches else None) (IsLatchWithin (length circuit.nets))
    by true = found_latch (length circuit.nets) (λ latch. eqb latch.input net) circuit.latches c.latches
    by false = λ latch is. absurd cc

table_element : (count : ℕ) (table : LookupTable) (behind : Option Latch) → IsTableWithin count table → ForSome behind (IsLatchWithin count) → IsElementWithin count (element_of_table table behind)
table_element count table None t b = record {
  inputs = All-with_nets (λ net. net < count) [] table.inputs (All-nil (λ net. net < count)) t.inputs;
  output = t.output;
  clock = λ net is. absurd cc;
}
table_element count table (Some latch) t b = record {
  inputs = All-with_nets (λ net. net < count) [] table.inputs (All-nil (λ net. net < count)) t.inputs;
  output = (b latch refl).output;
  clock = (b latch refl).control;
}

latch_element : (count : ℕ) (latch : Latch) → IsLatchWithin count latch → IsElementWithin count (element_of_latch latch)
latch_element count latch l = grind arith

latch_elements : (count : ℕ) (latches : List Latch) → All (IsLatchWithin count) latches → All (IsElementWithin count) (map element_of_latch latches)
latch_elements count latches all = All-map (IsElementWithin count) element_of_latch latches (All-weaker (IsLatchWithin count) (λ latch. IsElementWithin count (element_of_latch latch)) (latch_element count) latches all)

module _ (circuit : Circuit) (lawful : IsCircuit circuit) where
  abbrev nets : ℕ
  nets = length circuit.nets

  ordered : (tables : List LookupTable) (latches : List Latch) → All (IsTableWithin nets) tables → All (IsLatchWithin nets) latches → All (IsElementWithin nets) (in_line_order circuit tables latches)
  ordered [] latches t l = latch_elements nets latches l
  ordered (table ∷ tables) latches t l =
      let P = IsElementWithin nets in
      let early = take_while (is_above table.line) latches in
      let late = drop (prefix_len (is_above table.line) latches) latches in
      All-append P (map element_of_latch early) _
      (latch_elements nets early (All-take (IsLatchWithin nets) (prefix_len (is_above table.line) latches) latches l))
      (All-cons P (element_of_table table (latch_after circuit table.output)) (in_line_order circuit tables late)
      (table_element nets table (latch_after circuit table.output) (All-head (IsTableWithin nets) table tables t) (behind_lawful circuit table.output lawful))
      (ordered tables late (All-tail (IsTableWithin nets) table tables t) (All-drop (IsLatchWithin nets) (prefix_len (is_above table.line) latches) latches l)))

  -- the BLEs of a circuit have nets of it
  pub elements_within : All (IsElementWithin (length circuit.nets)) (bles_of circuit)
  unfolding bles_of
  elements_within = ordered circuit.tables (filter (stands_alone circuit) circuit.latches) lawful.tables (All-filter (stands_alone circuit) (IsLatchWithin nets) circuit.latches lawful.latches)
