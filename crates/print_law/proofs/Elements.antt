-- The BLEs of a packed circuit, and the nets on its clusters' pins, have nets of the circuit.
use Rattle.print_law.proofs.Prelude.{◌≡◌, ℕ, refl, ◌+◌, ◌<◌, ◌≤◌, List, [], ◌∷◌, ◌++◌, length, take, Option, Some, None, Bool, true, false, not, cond, leb, arith, inl, inr, sym, ap, subst, All, Contains, count_by, slice_get, option_and_then, enumerate_from, flat_map, slice_index_or, ForSome, option_to_list, cases_lt, leb-true, get_or_default, get_or_past, length-map, All-contains, All-nil, All-cons, All-head, All-tail, All-append, All-filter, All-map, PinClass, Input, Output, Clock, IsCircuit, IsLatchWithin, IsTableWithin, LookupTable, Circuit, LogicElement, bles_of, element_at, element_of_latch, element_of_table, latch_after, stands_alone, clocks_of, outputs_of, outside_inputs, distinct_nets, has, with_nets, elements_in, is_same_class, leaves_block, net_on_pin, pins_of, IsElementWithin, PackedCircuit, IsPacked, IsLawfulPacking, behind_is, from_bles, all_members, from_filter, from_flat_map, from_get, from_map, only_one}
use Rattle.blif.specs.declared.latches.Latch.{Latch}
use Rattle.print_law.proofs.Nodes.{both_hold}

-- ---- lists

-- what holds of some nets holds of them each once
all_once : (P : ℕ → Type 0) (seen nets : List ℕ) → All P seen → All P nets → All P (with_nets seen nets)
all_once P seen [] before all = before
all_once P seen (net ∷ nets) before all = all_once P (cond (has seen net) seen (seen ++ net ∷ [])) nets (either (has seen net)) (All-tail P net nets all)
  where
    either : (b : Bool) → All P (cond b seen (seen ++ net ∷ []))
    either true = before
    either false = All-append P seen (net ∷ []) before (All-cons P net [] (All-head P net nets all) (All-nil P))

all_together : {X : Type 0} (P : ℕ → Type 0) (f : X → List ℕ) (xs : List X) → ((x : X) → Contains xs x → All P (f x)) → All P (flat_map f xs)
all_together P f xs h = all_members P (flat_map f xs) (λ net c. let q = from_flat_map f xs net c in All-contains P (f q.0) net (h q.0 q.1) q.2)

-- ---- BLEs

module _ (circuit : Circuit) (lawful : IsCircuit circuit) where
  abbrev count : ℕ
  count = length circuit.nets

  of_table : (table : LookupTable) (o : Option Latch) → IsTableWithin count table → ((latch : Latch) → o ≡ Some latch → IsLatchWithin count latch) → IsElementWithin count (element_of_table table o)
  of_table table None within behind = record {
    inputs = all_once (λ net. net < count) [] table.inputs (All-nil (λ net. net < count)) within.inputs;
    output = within.output;
    clock = λ net h. absurd cc;
  }
  of_table table (Some latch) within behind = record {
    inputs = all_once (λ net. net < count) [] table.inputs (All-nil (λ net. net < count)) within.inputs;
    output = (behind latch refl).output;
    clock = (behind latch refl).control;
  }

  of_latch : (latch : Latch) → IsLatchWithin count latch → IsElementWithin count (element_of_latch latch)
  of_latch latch within = record {
    inputs = All-cons (λ net. net < count) latch.input [] within.input (All-nil (λ net. net < count));
    output = within.output;
    clock = within.control;
  }

  latch_within : (latch : Latch) → Contains circuit.latches latch → IsLatchWithin count latch
  latch_within latch c = All-contains (IsLatchWithin count) circuit.latches latch lawful.latches c

  pub ble_within : (element : LogicElement) → Contains (bles_of circuit) element → IsElementWithin count element
  ble_within element c = elim (from_bles circuit element c) [
    | inl t ↦ subst (IsElementWithin count) t.2
        (of_table t.0 (latch_after circuit t.0.output) (All-contains (IsTableWithin count) circuit.tables t.0 lawful.tables t.1) (λ latch is. latch_within latch (behind_is circuit t.0.output latch is).1.0))
    | inr l ↦ subst (IsElementWithin count) l.2 (of_latch l.0 (latch_within l.0 (from_filter (stands_alone circuit) circuit.latches l.0 l.1).0))
  ]

-- ---- clusters

module _ (packed : PackedCircuit) (lawful : IsPacked packed) (laws : IsLawfulPacking packed) (cluster : ℕ) where
  abbrev IsNet : ℕ → Type 0
  IsNet net = net < length packed.circuit.nets

  abbrev members : List ℕ
  members = slice_index_or packed.clusters cluster []

  abbrev elements : List LogicElement
  elements = elements_in packed cluster

  members_are : All (λ number. number < length (bles_of packed.circuit)) members
  members_are = elim (cases_lt cluster (length packed.clusters)) [
    | inl small ↦ lawful.members cluster [] small
    | inr past ↦ subst (λ (numbers : List ℕ). All (λ number. number < length (bles_of packed.circuit)) numbers) (sym (get_or_past packed.clusters cluster [] past)) (All-nil (λ number. number < length (bles_of packed.circuit)))
  ]

  pub element_within : (element : LogicElement) → Contains elements element → IsElementWithin (length packed.circuit.nets) element
  element_within element c =
      let bles = bles_of packed.circuit in
      let m = from_map (element_at bles) members element c in
      let small : m.0 < length bles = All-contains (λ number. number < length bles) members m.0 members_are m.1 in
      let none : LogicElement = record { inputs = []; output = 0; clock = None } in
      let there : Contains bles element = subst (λ (e : LogicElement). Contains bles e) m.2 (m.0, small, get_or_default bles m.0 (element_at bles m.0) none small) in
      ble_within packed.circuit lawful.circuit element there

  pub few_elements : length elements ≤ packed.arch.cluster_size
  few_elements = elim (cases_lt cluster (length packed.clusters)) [
    | inl small ↦
        (let fits = laws.fit cluster [] small in
        leb-true (length elements) packed.arch.cluster_size (both_hold (leb (length elements) packed.arch.cluster_size) _ fits).0)
    | inr past ↦
        (let none : length members ≡ 0 = ap (λ (numbers : List ℕ). length numbers) (get_or_past packed.clusters cluster [] past) in
        omega (arith, none, length-map members (element_at (bles_of packed.circuit))))
  ]

  outside_are : All IsNet (outside_inputs elements)
  outside_are =
      let read = flat_map (λ (element : LogicElement). element.inputs) elements in
      All-filter (λ net. not (has (outputs_of elements) net)) IsNet (distinct_nets read) (all_once IsNet [] read (All-nil IsNet) (all_together IsNet (λ (element : LogicElement). element.inputs) elements (λ element c. (element_within element c).inputs)))

  outputs_are : All IsNet (outputs_of elements)
  outputs_are = all_members IsNet (outputs_of elements) (λ net c.
      let q = from_map (λ (element : LogicElement). element.output) elements net c in
      subst IsNet q.2 (element_within q.0 q.1).output)

  clocks_are : All IsNet (clocks_of elements)
  clocks_are =
      let clocks = flat_map (λ (element : LogicElement). option_to_list element.clock) elements in
      all_once IsNet [] clocks (All-nil IsNet) (all_together IsNet (λ (element : LogicElement). option_to_list element.clock) elements (λ element c.
      all_members IsNet (option_to_list element.clock) (λ net d. (element_within element c).clock net (only_one element.clock net d))))

  on_pin : (class : PinClass) (rank : ℕ) → ForSome (net_on_pin packed cluster class rank) IsNet
  on_pin Input rank net is = All-contains IsNet (outside_inputs elements) net outside_are (from_get (outside_inputs elements) rank net is).1
  on_pin Clock rank net is = All-contains IsNet (clocks_of elements) net clocks_are (from_get (clocks_of elements) rank net is).1
  on_pin Output rank net is = by (slice_get (outputs_of elements) rank) refl is
    where
      driver : ℕ
      driver = length packed.circuit.inputs + length packed.circuit.outputs + cluster

      either : (b : Bool) (other : ℕ) → IsNet other → cond b (Some other) None ≡ Some net → IsNet net
      either true other there is = let same : other ≡ net = cc in subst IsNet same there
      either false other there is = absurd cc

      by : (o : Option ℕ) → slice_get (outputs_of elements) rank ≡ o → option_and_then (λ net. cond (leaves_block packed driver net) (Some net) None) o ≡ Some net → IsNet net
      by None at is = absurd cc
      by (Some other) at is = either (leaves_block packed driver other) other (All-contains IsNet (outputs_of elements) other outputs_are (from_get (outputs_of elements) rank other at).1) is

  pub pins_are : All (λ pin. ForSome pin IsNet) (pins_of packed cluster)
  pins_are = All-map (λ pin. ForSome pin IsNet)
      (λ pin. net_on_pin packed cluster pin.1.class (count_by (λ other. is_same_class pin.1.class other.class) (take pin.0 packed.arch.pins)))
      (enumerate_from 0 packed.arch.pins) (λ k d small. on_pin _ _)
