-- Traced back, the BLEs of a cluster are those that were packed.
use Rattle.implements.proofs.Prelude.{◌≡◌, ℕ, ◌<◌, ◌≤◌, Bool, true, false, not, List, [], ◌∷◌, ◌++◌, length, map, Option, Some, None, sym, ap, refl, ◌∙◌, inl, inr, ◌⊎◌, subst, arith, option_and_then, Contains, count_by, is_some, flat_map, option_to_list, nat_tests, length-map, Pin as ArchPin, Input, Output, Clock, distinct_nets, has, clocks_of, outside_inputs, has-distinct, LogicElement, PackedCircuit, outputs_of, elements_in, is_same_class, IsPacked, IsLawfulPacking, Place, pin_with, Feed, feed_of, laid_ble, IsFed, LaidBlock, input_net, on_pin, traced_ble}
use Rattle.implements.proofs.Results.{IsTracedBack, laid_cluster}
use Rattle.implements.proofs.Inside.{clock_there, feed_is, pin_is}
use Rattle.implements.proofs.Members.{all_members, from_flat_map, from_has, from_map, in_first, in_later, one_only, only_one, to_filter, to_flat_map, to_has}

module _ (packed : PackedCircuit) (cluster : ℕ) (place : Place)
    (few_inputs : length (outside_inputs (elements_in packed cluster)) ≤ count_by (λ (pin : ArchPin). is_same_class Input pin.class) packed.arch.pins)
    (few_clocks : length (clocks_of (elements_in packed cluster)) ≤ count_by (λ (pin : ArchPin). is_same_class Clock pin.class) packed.arch.pins) where
  abbrev elements : List LogicElement
  elements = elements_in packed cluster

  abbrev here : LaidBlock
  here = laid_cluster packed cluster place

  -- what a BLE reads is driven in the cluster or comes from outside
  among : (element : LogicElement) (net : ℕ) → Contains elements element → Contains element.inputs net → Contains (outputs_of elements) net ⊎ Contains (outside_inputs elements) net
  among element net in' reads = by (has (outputs_of elements) net) refl
    where
      read : Contains (distinct_nets (flat_map (λ (element : LogicElement). element.inputs) elements)) net
      read =
          let all = flat_map (λ (element : LogicElement). element.inputs) elements in
          from_has (distinct_nets all) net (has-distinct all net ∙ to_has all net (to_flat_map (λ (element : LogicElement). element.inputs) elements element net in' reads))

      by : (b : Bool) → has (outputs_of elements) net ≡ b → Contains (outputs_of elements) net ⊎ Contains (outside_inputs elements) net
      by true is = inl (from_has (outputs_of elements) net is)
      by false is = inr (to_filter (λ net. not (has (outputs_of elements) net)) (distinct_nets (flat_map (λ (element : LogicElement). element.inputs) elements)) net read (ap not is))

  pub input_is : (element : LogicElement) (net : ℕ) → Contains elements element → Contains element.inputs net → (feed : Feed) × (feed_of packed cluster net ≡ Some feed) × (input_net packed.arch here feed ≡ Some net)
  input_is element net in' reads = feed_is packed cluster place net few_inputs (among element net in' reads)

  -- the nets that come to the inputs are those that are read, in order
  inputs_back : (nets : List ℕ) → ((net : ℕ) → Contains nets net → (feed : Feed) × (feed_of packed cluster net ≡ Some feed) × (input_net packed.arch here feed ≡ Some net)) →
      flat_map (λ feed. option_to_list (input_net packed.arch here feed)) (flat_map (λ net. option_to_list (feed_of packed cluster net)) nets) ≡ nets
  inputs_back [] each = refl
  inputs_back (net ∷ nets) each =
      let q = each net (in_first net nets) in
      let rest = flat_map (λ net. option_to_list (feed_of packed cluster net)) nets in
      ap (λ (o : Option Feed). flat_map (λ feed. option_to_list (input_net packed.arch here feed)) (option_to_list o ++ rest)) q.1
      ∙ ap (λ (o : Option ℕ). option_to_list o ++ flat_map (λ feed. option_to_list (input_net packed.arch here feed)) rest) q.2
      ∙ ap (λ (more : List ℕ). net ∷ more) (inputs_back nets (λ other c. each other (in_later net other nets c)))

  clock_is : (element : LogicElement) (net : ℕ) → Contains elements element → element.clock ≡ Some net → (j : ℕ) × (pin_with packed cluster Clock net ≡ Some j)
  clock_is element net in' is =
      let all = flat_map (λ (element : LogicElement). option_to_list element.clock) elements in
      let there = to_flat_map (λ (element : LogicElement). option_to_list element.clock) elements element net in' (one_only element.clock net is) in
      clock_there packed cluster place net few_clocks (from_has (distinct_nets all) net (has-distinct all net ∙ to_has all net there))

  clock_back : (element : LogicElement) → Contains elements element → option_and_then (on_pin packed.arch here Clock) (option_and_then (pin_with packed cluster Clock) element.clock) ≡ element.clock
  clock_back element in' = by element.clock refl
    where
      by : (o : Option ℕ) → element.clock ≡ o → option_and_then (on_pin packed.arch here Clock) (option_and_then (pin_with packed cluster Clock) o) ≡ o
      by None is = refl
      by (Some net) is =
          let q = clock_is element net in' is in
          ap (option_and_then (on_pin packed.arch here Clock)) q.1 ∙ pin_is packed cluster place Clock net q.0 q.1

  element_back : (element : LogicElement) → Contains elements element → traced_ble packed.arch here (laid_ble packed cluster element) ≡ element
  element_back element in' =
      let clock = option_and_then (on_pin packed.arch here Clock) (option_and_then (pin_with packed cluster Clock) element.clock) in
      ap (λ (inputs : List ℕ). let e : LogicElement = record { inputs = inputs; output = element.output; clock = clock } in e) (inputs_back element.inputs (λ net c. input_is element net in' c))
      ∙ ap (λ (clock : Option ℕ). let e : LogicElement = record { inputs = element.inputs; output = element.output; clock = clock } in e) (clock_back element in')

  all_back : (some : List LogicElement) → ((element : LogicElement) → Contains some element → Contains elements element) → map (traced_ble packed.arch here) (map (laid_ble packed cluster) some) ≡ some
  all_back [] h = refl
  all_back (element ∷ some) h =
      ap (λ (e : LogicElement). e ∷ map (traced_ble packed.arch here) (map (laid_ble packed cluster) some)) (element_back element (h element (in_first element some)))
      ∙ ap (λ (rest : List LogicElement). element ∷ rest) (all_back some (λ other c. h other (in_later element other some c)))

  fed_back : (element : LogicElement) → Contains elements element → IsFed packed.arch here (laid_ble packed cluster element)
  fed_back element in' = record {
    inputs = all_members (λ feed. is_some (input_net packed.arch here feed) ≡ true) (laid_ble packed cluster element).inputs (λ feed c.
        let q = from_flat_map (λ net. option_to_list (feed_of packed cluster net)) element.inputs feed c in
        let came = input_is element q.0 in' q.1 in
        let same : Some came.0 ≡ Some feed = sym came.1 ∙ only_one (feed_of packed cluster q.0) feed q.2 in
        let feed_same : came.0 ≡ feed = cc in
        ap (λ (f : Feed). is_some (input_net packed.arch here f)) (sym feed_same) ∙ ap is_some came.2);
    clock = λ pin is. clocked element.clock refl pin is;
    output = λ pin is. pin_is packed cluster place Output element.output pin is;
  }
    where
      clocked : (o : Option ℕ) → element.clock ≡ o → (pin : ℕ) → option_and_then (pin_with packed cluster Clock) o ≡ Some pin → is_some (on_pin packed.arch here Clock pin) ≡ true
      clocked None e pin is = absurd cc
      clocked (Some net) e pin is = ap is_some (pin_is packed cluster place Clock net pin is)

-- each cluster of a packed circuit
pub traced_back : (packed : PackedCircuit) → IsPacked packed → IsLawfulPacking packed → (cluster : ℕ) (place : Place) → cluster < length packed.clusters → IsTracedBack packed cluster place
traced_back packed lawful laws cluster place small =
    let elements = elements_in packed cluster in
    let fits = laws.fit cluster [] small in
    let few_inputs : length (outside_inputs elements) ≤ count_by (λ (pin : ArchPin). is_same_class Input pin.class) packed.arch.pins = grind (arith, nat_tests, fits) in
    let clocks : length (clocks_of elements) ≤ 1 = grind (arith, nat_tests, fits) in
    let one = lawful.arch.clocks in
    let few_clocks : length (clocks_of elements) ≤ count_by (λ (pin : ArchPin). is_same_class Clock pin.class) packed.arch.pins = omega (arith, clocks, one) in
    let few : length elements ≤ packed.arch.cluster_size = grind (arith, nat_tests, fits) in
    record {
      same = all_back packed cluster place few_inputs few_clocks elements (λ element c. c);
      fed = all_members (IsFed packed.arch (laid_cluster packed cluster place)) (map (laid_ble packed cluster) elements) (λ ble c.
          let q = from_map (laid_ble packed cluster) elements ble c in
          subst (IsFed packed.arch (laid_cluster packed cluster place)) q.2 (fed_back packed cluster place few_inputs few_clocks q.0 q.1));
      few = omega (arith, few, length-map elements (laid_ble packed cluster));
    }
