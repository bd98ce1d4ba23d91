-- A growing cluster with one more BLE.
use Rattle.ble_cluster.proofs.Prelude.{◌≡◌, ◌≢◌, ℕ, ◌+◌, ◌-◌, ◌<◌, ◌≤◌, ◌^◌, ◌⊎◌, inl, inr, Bool, true, false, not, ◌||◌, ◌&&◌, ◌==◌, eqb, List, [], ◌∷◌, ◌++◌, All, Option, Some, None, filter, length, take, nat_le, nat_lt, if◌then◌else◌, sym, refl, ap, ◌∙◌, arith, length-append, flat_map, option_or, option_to_list, eqb_tells, nat_tests, append-nil, length-map, map-append, take_more, AllByRecursion, IsDistinct, length-le_from_distinct_below, get_or_from_slice_get, length-filter, count_by-le-length, flat_map-append, Arch, input_count, GrowingCluster, IsOnce, distinct_nets, has, with_nets, LogicElement, element_at, clocks_of, elements_at, fits_in_cluster, nets_of, outputs_of, outside_inputs, All-append, All-cons, All-from_get_or, All-nil, NetsAmong, with_net, gained_inputs, loses, inputs_of, HaveRoom, ShareNothing, AreShared, EntersUnless, IsEntering, IsGrowingCluster, IsTold, MayFit, agree, later_clock, is_new_input, new_inputs_of, AreLawful, BlesOver, IsElement}
use Rattle.std.specs.List.{slice_index_or}
use Rattle.ble_cluster.proofs.Leading.{found}
use Rattle.std.specs.Prelude.{slice_get}
use Rattle.ble_cluster.proofs.ElementLemmas.{inputs_once, nets_within}
use Rattle.ble_cluster.proofs.Outside.{has-append, has-distinct, has-member_nets, has-with_net, once-distinct, outside_more, shared_more, shared_same, with_nets-append}

-- tests that agree keep the same elements
filter_agrees : (test other : ℕ → Bool) → ((net : ℕ) → test net ≡ other net) → (nets : List ℕ) → filter test nets ≡ filter other nets
filter_agrees test other same [] = refl
filter_agrees test other same (net ∷ nets) = let here = same net in let ih = filter_agrees test other same nets in grind (arith, here, ih)

apart : (net : ℕ) (nets : List ℕ) → has nets net ≡ false → AllByRecursion (λ other. eqb net other ≡ false) nets
apart net [] h = tt
apart net (other ∷ nets) h = (grind (arith, nat_tests, h), apart net nets (grind (arith, h)))

once_distinct : (nets : List ℕ) → IsOnce nets → IsDistinct eqb nets
unfolding IsDistinct
once_distinct [] once = tt
once_distinct (net ∷ nets) once = (apart net nets once.0, once_distinct nets once.1)

-- nets that occur once and are below a count are at most that many
pub once_few : (nets : List ℕ) (count : ℕ) → IsOnce nets → All (λ net. net < count) nets → length nets ≤ count
once_few nets count once within = length-le_from_distinct_below nets count (once_distinct nets once) (found (λ net. net < count) nets within)

module _ (elements : List LogicElement) (nets : ℕ) (growth : GrowingCluster) (g : IsGrowingCluster elements nets growth) where
  abbrev members : List LogicElement
  members = elements_at elements growth.members.items

  pub reads_are : (net : ℕ) → has growth.reads.nets net ≡ has (inputs_of members) net
  reads_are net = rw g.reads (has-distinct (inputs_of members) net)

  pub drives_are : (net : ℕ) → has growth.drives.nets net ≡ has (outputs_of members) net
  drives_are net = rw g.drives (has-distinct (outputs_of members) net)

  -- the new inputs are those that the BLE adds to the members
  pub new_are : (element : LogicElement) → new_inputs_of growth.reads.nets growth.drives.nets element.output element.inputs ≡ gained_inputs members element
  new_are element = filter_agrees (is_new_input growth.reads.nets growth.drives.nets element.output) _ (λ net. let r = reads_are net in let d = drives_are net in grind (arith, r, d)) element.inputs

  pub members_more : (number : ℕ) → elements_at elements (growth.members.items ++ number ∷ []) ≡ members ++ element_at elements number ∷ []
  members_more number = map-append (element_at elements) growth.members.items (number ∷ [])

  -- the number of inputs from outside with one more BLE
  pub record OutsideWith (number new : ℕ) (lost : Bool) : Type 0 where
    pub enough : lost ≡ true → 1 ≤ growth.outside + new
    pub sum : length (outside_inputs (elements_at elements (growth.members.items ++ number ∷ []))) + (if lost then 1 else 0) ≡ growth.outside + new

  pub outside_with : (number new : ℕ) (lost : Bool) → IsOnce (element_at elements number).inputs
      → new ≡ length (new_inputs_of growth.reads.nets growth.drives.nets (element_at elements number).output (element_at elements number).inputs)
      → lost ≡ (has growth.reads.nets (element_at elements number).output && not (has growth.drives.nets (element_at elements number).output))
      → OutsideWith number new lost
  outside_with number new lost once counted loss =
      let element = element_at elements number in
      let more = outside_more members element once in
      let r = reads_are element.output in
      let d = drives_are element.output in
      let same : lost ≡ loses members element = grind (arith, loss, r, d) in
      let sum : length (outside_inputs (elements_at elements (growth.members.items ++ number ∷ []))) + (if lost then 1 else 0) ≡ growth.outside + new =
      rw (members_more number, same) (omega (arith, more, g.outside, counted ∙ ap length (new_are element))) in
      record { enough = λ is. let lost_one : lost ≡ true = is in omega (arith, rw lost_one at sum); sum = sum }

  -- the BLE that a lookup returned
  pub element_is : (number : ℕ) (element : LogicElement) → slice_get elements number ≡ Some element → element_at elements number ≡ element
  element_is number element looked = get_or_from_slice_get elements number element _ looked

  -- the number of inputs from outside, with a BLE that a lookup returned
  pub outside_of : (number new : ℕ) (lost : Bool) (element : LogicElement) → slice_get elements number ≡ Some element → IsElement nets element
      → new ≡ length (new_inputs_of growth.reads.nets growth.drives.nets element.output element.inputs)
      → lost ≡ (has growth.reads.nets element.output && not (has growth.drives.nets element.output))
      → OutsideWith number new lost
  outside_of number new lost element looked lawful counted loss =
      let same = element_is number element looked in
      outside_with number new lost (rw same (inputs_once element lawful)) (rw same counted) (rw same loss)

  -- the number of new inputs is within the limit
  pub new_few : nets ≤ 8192 → (output : ℕ) (inputs : List ℕ) → IsOnce inputs → All (λ net. net < nets) inputs → length (new_inputs_of growth.reads.nets growth.drives.nets output inputs) ≤ 8192
  new_few few output inputs once within = omega (arith, once_few inputs nets once within, few, length-filter (is_new_input growth.reads.nets growth.drives.nets output) inputs, count_by-le-length (is_new_input growth.reads.nets growth.drives.nets output) inputs)

  -- the clocks with one more BLE
  pub clocks_more : (number : ℕ) → clocks_of (elements_at elements (growth.members.items ++ number ∷ [])) ≡ with_nets (option_to_list growth.clock) (option_to_list (element_at elements number).clock)
  clocks_more number =
      let element = element_at elements number in
      let all = flat_map-append (λ (e : LogicElement). option_to_list e.clock) members (element ∷ []) ∙ ap (λ last. flat_map (λ (e : LogicElement). option_to_list e.clock) members ++ last) (append-nil (option_to_list element.clock)) in
      rw (members_more number, all) (with_nets-append [] (flat_map (λ (e : LogicElement). option_to_list e.clock) members) (option_to_list element.clock) ∙ ap (λ front. with_nets front (option_to_list element.clock)) g.clock)

  at_most_one : (clock other : Option ℕ) → nat_le (length (with_nets (option_to_list clock) (option_to_list other))) 1 ≡ agree clock other
  at_most_one None None = refl
  at_most_one None (Some other) = refl
  at_most_one (Some clock) None = refl
  at_most_one (Some clock) (Some other) = by (clock == other) refl
    where
      by : (same : Bool) → (clock == other) ≡ same → nat_le (length (with_nets (clock ∷ []) (other ∷ []))) 1 ≡ same
      by true e = grind (arith, nat_tests, e)
      by false e = grind (arith, nat_tests, e)

  pub fits_is : (arch : Arch) (number outside : ℕ) (element : LogicElement) → slice_get elements number ≡ Some element
      → outside ≡ length (outside_inputs (elements_at elements (growth.members.items ++ number ∷ [])))
      → fits_in_cluster arch (elements_at elements (growth.members.items ++ number ∷ [])) ≡ (nat_lt (length growth.members.items) arch.cluster_size && (agree growth.clock element.clock && nat_le outside (input_count arch.pins)))
  fits_is arch number outside element looked counted =
      let same = element_is number element looked in
      let clocks : nat_le (length (clocks_of (elements_at elements (growth.members.items ++ number ∷ [])))) 1 ≡ agree growth.clock element.clock =
      rw (clocks_more number, same) (at_most_one growth.clock element.clock) in
      let size : length (elements_at elements (growth.members.items ++ number ∷ [])) ≡ length growth.members.items + 1 =
      length-map (growth.members.items ++ number ∷ []) (element_at elements) ∙ length-append growth.members.items (number ∷ []) in
      grind (arith, nat_tests, clocks, size, counted)

-- no BLE shares any of no nets
none_shared : (list : List ℕ) → length (filter (has []) list) ≡ 0
none_shared [] = refl
none_shared (net ∷ list) = none_shared list

-- a cluster without members
pub growth_none : (elements : List LogicElement) (nets : ℕ) (growth : GrowingCluster) → growth.members.items ≡ [] → growth.reads ≡ record { count = nets; nets = [] } → growth.drives ≡ record { count = nets; nets = [] }
    → growth.outside ≡ 0 → growth.clock ≡ None → length growth.gains ≡ length elements → ShareNothing growth.gains → IsGrowingCluster elements nets growth
growth_none elements nets growth m r d o c l n = grind (arith, none_shared)

-- a net that occurs once is counted once
counted_once : (nets : List ℕ) (net : ℕ) (list : List ℕ) → IsOnce list → has nets net ≡ false → length (filter (λ other. has (net ∷ []) other && not (has nets other)) list) ≡ (if has list net then 1 else 0)
counted_once nets net [] once h = refl
counted_once nets net (other ∷ list) once h = grind (arith, counted_once nets net list once.1 h)

-- a new net is shared by the BLEs that have it
pub entered : (elements : List LogicElement) (nets : List ℕ) (net : ℕ) (old new : List ℕ) → length old ≡ length elements → AreShared elements nets old → has nets net ≡ false → IsEntering elements net old new → AreShared elements (nets ++ net ∷ []) new
entered elements nets net old new count s h e = λ number small.
    let element = element_at elements number in
    let raised = e.raised.raised number (omega (arith, small, count)) in
    let listed = e.having.listed number small in
    let before = s number small in
    let more = shared_more nets (net ∷ []) (nets_of element) in
    let one = counted_once nets net (nets_of element) (once-distinct (element.inputs ++ element.output ∷ [])) h in
    grind (arith, raised, listed, before, more, one)

-- the counts are the same for lists with the same nets
pub told_same : (elements : List LogicElement) (nets others gains : List ℕ) → ((net : ℕ) → has nets net ≡ has others net) → AreShared elements nets gains → AreShared elements others gains
told_same elements nets others gains same s = λ number small. s number small ∙ shared_same nets others same (nets_of (element_at elements number))

-- the counts are small enough to be increased
pub have_room : (over : BlesOver) (nets gains : List ℕ) → AreLawful over → length gains ≡ length over.elements → AreShared over.elements nets gains → HaveRoom gains
have_room over nets gains lawful count s = All-from_get_or (λ gain. gain < 2 ^ 32 - 1) gains 0 (λ number small.
    let element = element_at over.elements number in
    let inside : number < length over.elements = omega (arith, small, count) in
    let e = lawful.lawful number _ inside in
    let few = once_few (nets_of element) over.nets (once-distinct (element.inputs ++ element.output ∷ [])) (nets_within over.nets element e) in
    omega (arith, s number inside, length-filter (has nets) (nets_of element), count_by-le-length (has nets) (nets_of element), few, lawful.few))

pub reads_has : (reads drives : List ℕ) (net other : ℕ) → has (with_net reads net ++ drives) other ≡ (has (reads ++ drives) other || (net == other))
reads_has reads drives net other = let a = has-append (with_net reads net) drives other in let b = has-with_net reads net other in let c = has-append reads drives other in grind (arith, a, b, c)

pub drives_has : (reads drives : List ℕ) (net other : ℕ) → has (reads ++ with_net drives net) other ≡ (has (reads ++ drives) other || (net == other))
drives_has reads drives net other = let a = has-append reads (with_net drives net) other in let b = has-with_net drives net other in let c = has-append reads drives other in grind (arith, a, b, c)

-- one more net, among those that members read or drive
pub told_more : (elements : List LogicElement) (reads drives later : List ℕ) (net : ℕ) (old new : List ℕ) → length old ≡ length elements → AreShared elements (reads ++ drives) old
    → EntersUnless (has reads net || has drives net) elements net old new → ((other : ℕ) → has later other ≡ (has (reads ++ drives) other || (net == other))) → AreShared elements later new
told_more elements reads drives later net old new count s e same = by (has reads net || has drives net) refl e
  where
    all : List ℕ
    all = reads ++ drives

    by : (test : Bool) → (has reads net || has drives net) ≡ test → EntersUnless test elements net old new → AreShared elements later new
    by true h e = told_same elements (reads ++ drives) later new (λ other. there other h (same other)) (rw e s)
      where
        there : (other : ℕ) → (has reads net || has drives net) ≡ true → has later other ≡ (has (reads ++ drives) other || (net == other)) → has (reads ++ drives) other ≡ has later other
        there other h e = by_same (eqb_tells net other)
          where
            by_same : ((eqb net other ≡ true) × (net ≡ other)) ⊎ ((eqb net other ≡ false) × (net ≢ other)) → has (reads ++ drives) other ≡ has later other
            by_same (inl s) = let a = has-append reads drives other in let moved = rw s.1 at h in grind (arith, a, moved, e, s.0)
            by_same (inr d) = grind (arith, e, d.0)
    by false h e =
        told_same elements ((reads ++ drives) ++ net ∷ []) later new (λ other. let a = has-append (reads ++ drives) (net ∷ []) other in let b = same other in grind (arith, a, b))
        (entered elements (reads ++ drives) net old new count s (has-append reads drives net ∙ h) e)

-- one more of the nets is added to those that members read
pub reads_on : (old now new : GrowingCluster) (nets : List ℕ) (place : ℕ) → place < length nets
    → now ≡ record old { gains = now.gains; reads = record { count = old.reads.count; nets = with_nets old.reads.nets (take place nets) } }
    → new ≡ record now { gains = new.gains; reads = new.reads }
    → new.reads ≡ record { count = now.reads.count; nets = with_net now.reads.nets (slice_index_or nets place 0) }
    → new ≡ record old { gains = new.gains; reads = record { count = old.reads.count; nets = with_nets old.reads.nets (take (place + 1) nets) } }
reads_on old now new nets place small before same read = grind (arith, with_nets-append, take_more nets place 0 small)

-- the clock with one more member
pub clock_more : (clock other : Option ℕ) (clocks : List ℕ) → clocks ≡ with_nets (option_to_list clock) (option_to_list other) → length clocks ≤ 1 → clocks ≡ option_to_list (later_clock clock other)
clock_more clock other clocks e few = grind arith

-- BLEs that fit into a cluster are within its limits
pub record HasRoom (arch : Arch) (elements : List LogicElement) : Type 0 where
  pub few_inputs : length (outside_inputs elements) ≤ input_count arch.pins
  pub few_clocks : length (clocks_of elements) ≤ 1

pub has_room : (arch : Arch) (elements : List LogicElement) → fits_in_cluster arch elements ≡ true → HasRoom arch elements
has_room arch elements fits = grind arith

-- the effect of adding a BLE that fits
pub record IsAdding (elements : List LogicElement) (nets : ℕ) (old new : GrowingCluster) (number outside : ℕ) : Type 0 where
  pub members : new.members.items ≡ old.members.items ++ number ∷ []
  pub reads : new.reads ≡ record { count = nets; nets = with_nets old.reads.nets (element_at elements number).inputs }
  pub drives : new.drives ≡ record { count = nets; nets = with_net old.drives.nets (element_at elements number).output }
  pub outside_is : new.outside ≡ outside
  pub clock : new.clock ≡ later_clock old.clock (element_at elements number).clock
  pub gains_count : length new.gains ≡ length elements
  pub told : IsTold elements new

pub growth_more : (elements : List LogicElement) (nets : ℕ) (old new : GrowingCluster) (number outside : ℕ) → IsGrowingCluster elements nets old → number < length elements → MayFit (elements_at elements (old.members.items ++ number ∷ []))
    → outside ≡ length (outside_inputs (elements_at elements (old.members.items ++ number ∷ []))) → IsAdding elements nets old new number outside → IsGrowingCluster elements nets new
growth_more elements nets old new number outside g small fit counted adding = record {
  members = rw adding.members (All-append (λ n. n < length elements) old.members.items (number ∷ []) g.members (All-cons (λ n. n < length elements) number [] small (All-nil _)));
  reads_count = ap (λ (set : NetsAmong). set.count) adding.reads;
  drives_count = ap (λ (set : NetsAmong). set.count) adding.drives;
  gains_count = adding.gains_count;
  reads = read;
  drives = driven;
  outside = adding.outside_is ∙ counted ∙ sym (ap (λ members. length (outside_inputs (elements_at elements members))) adding.members);
  small = omega (arith, adding.outside_is, counted, room.few_inputs, fit.lawful.inputs.1);
  clock = ap (λ members. clocks_of (elements_at elements members)) adding.members ∙ clock_more old.clock element.clock _ (clocks_more elements nets old g number) room.few_clocks ∙ ap option_to_list (sym adding.clock);
  gains = told_same elements (new.reads.nets ++ new.drives.nets) (flat_map nets_of (elements_at elements new.members.items)) new.gains same adding.told;
}
  where
    room : HasRoom fit.arch (elements_at elements (old.members.items ++ number ∷ []))
    room = has_room fit.arch (elements_at elements (old.members.items ++ number ∷ [])) fit.fits

    element : LogicElement
    element = element_at elements number

    before : List LogicElement
    before = elements_at elements old.members.items

    after : elements_at elements new.members.items ≡ before ++ element ∷ []
    after = ap (elements_at elements) adding.members ∙ members_more elements nets old g number

    inputs : inputs_of (elements_at elements new.members.items) ≡ inputs_of before ++ element.inputs
    inputs = ap inputs_of after ∙ flat_map-append (λ (e : LogicElement). e.inputs) before (element ∷ []) ∙ ap (λ last. inputs_of before ++ last) (append-nil element.inputs)

    outputs : outputs_of (elements_at elements new.members.items) ≡ outputs_of before ++ element.output ∷ []
    outputs = ap outputs_of after ∙ map-append (λ (e : LogicElement). e.output) before (element ∷ [])

    read : new.reads.nets ≡ distinct_nets (inputs_of (elements_at elements new.members.items))
    read = ap (λ (set : NetsAmong). set.nets) adding.reads ∙ ap (λ front. with_nets front element.inputs) g.reads ∙ sym (ap distinct_nets inputs ∙ with_nets-append [] (inputs_of before) element.inputs)

    driven : new.drives.nets ≡ distinct_nets (outputs_of (elements_at elements new.members.items))
    driven = ap (λ (set : NetsAmong). set.nets) adding.drives ∙ ap (λ front. with_net front element.output) g.drives ∙ sym (ap distinct_nets outputs ∙ with_nets-append [] (outputs_of before) (element.output ∷ []))

    same : (net : ℕ) → has (new.reads.nets ++ new.drives.nets) net ≡ has (flat_map nets_of (elements_at elements new.members.items)) net
    same net = has-append new.reads.nets new.drives.nets net
        ∙ ap (λ front. has front net || has new.drives.nets net) read ∙ ap (λ front. has (distinct_nets (inputs_of (elements_at elements new.members.items))) net || has front net) driven
        ∙ ap (λ test. test || has (distinct_nets (outputs_of (elements_at elements new.members.items))) net) (has-distinct (inputs_of (elements_at elements new.members.items)) net)
        ∙ ap (λ test. has (inputs_of (elements_at elements new.members.items)) net || test) (has-distinct (outputs_of (elements_at elements new.members.items)) net)
        ∙ sym (has-member_nets (elements_at elements new.members.items) net)

-- the counts of shared nets follow from the nets that members read and drive
pub old_told : (elements : List LogicElement) (nets : ℕ) (growth : GrowingCluster) → IsGrowingCluster elements nets growth → IsTold elements growth
old_told elements nets growth g = told_same elements (flat_map nets_of (elements_at elements growth.members.items)) (growth.reads.nets ++ growth.drives.nets) growth.gains same g.gains
  where
    same : (net : ℕ) → has (flat_map nets_of (elements_at elements growth.members.items)) net ≡ has (growth.reads.nets ++ growth.drives.nets) net
    same net =
        let a = has-member_nets (elements_at elements growth.members.items) net in
        let b = has-append growth.reads.nets growth.drives.nets net in
        let r = reads_are elements nets growth g net in
        let d = drives_are elements nets growth g net in
        grind (arith, a, b, r, d)

pub clock_is : (clock other : Option ℕ) → option_or other clock ≡ later_clock clock other
clock_is clock other = grind arith
