-- A BLE that shares no net with the members adds all its outside inputs.
use Rattle.ble_cluster.proofs.Prelude.{◌≡◌, ℕ, suc, zero, ◌+◌, ◌-◌, ◌<◌, ◌≤◌, Bool, true, false, not, ◌||◌, ◌&&◌, List, [], ◌∷◌, ◌++◌, None, filter, length, refl, sym, ap, ◌∙◌, arith, flat_map, nat_tests, Arch, input_count, GrowingCluster, IsOnce, has, LogicElement, element_at, IsBest, SharesNet, is_candidate, taken_at, elements_at, fits_in_cluster, nets_of, outputs_of, outside_inputs, gain_at, AreLawful, BlesOver, AreAbove, AreOutsideCounts, own_outside, gained_inputs, loses, inputs_of, IsElement, IsGrowingCluster}
use Rattle.ble_cluster.proofs.ElementLemmas.{inputs_once}
use Rattle.ble_cluster.proofs.Fitting.{may_join_full}
use Rattle.ble_cluster.proofs.GrowingLemmas.{has_room, members_more}
use Rattle.ble_cluster.proofs.Outside.{has-append, has-distinct, has-member_nets, outside_more}

-- if no net is shared, none of the BLE's nets is among them
none_shared : (nets list : List ℕ) → length (filter (has nets) list) ≡ 0 → (net : ℕ) → has list net ≡ true → has nets net ≡ false
none_shared nets [] none net there = absurd cc
none_shared nets (other ∷ list) none net there = grind (arith, none_shared nets list)

-- tests that agree on a list keep the same of its elements
same_kept : (test other : ℕ → Bool) (nets : List ℕ) → ((net : ℕ) → has nets net ≡ true → test net ≡ other net) → filter test nets ≡ filter other nets
same_kept test other [] agree = refl
same_kept test other (first ∷ nets) agree =
    let itself : has (first ∷ nets) first ≡ true = grind (arith, nat_tests) in
    let here = agree first itself in
    let ih = same_kept test other nets (λ net there. agree net (grind (arith, there))) in
    grind (arith, here, ih)

module _ (elements : List LogicElement) (nets : ℕ) (growth : GrowingCluster) (g : IsGrowingCluster elements nets growth) (number : ℕ) (small : number < length elements) (once : IsOnce (element_at elements number).inputs) (none : gain_at growth.gains number ≡ 0) where
  abbrev element : LogicElement
  element = element_at elements number

  abbrev members : List LogicElement
  members = elements_at elements growth.members.items

  -- no net of the BLE is read or driven by a member
  apart : (net : ℕ) → has (nets_of element) net ≡ true → (has (inputs_of members) net || has (outputs_of members) net) ≡ false
  apart net there = sym (has-member_nets members net) ∙ none_shared (flat_map nets_of members) (nets_of element) (sym (g.gains number small) ∙ none) net there

  own : (net : ℕ) → (has element.inputs net || has (element.output ∷ []) net) ≡ true → has (nets_of element) net ≡ true
  own net there = has-distinct (element.inputs ++ element.output ∷ []) net ∙ has-append element.inputs (element.output ∷ []) net ∙ there

  gains_all : gained_inputs members element ≡ own_outside element
  gains_all = same_kept _ _ element.inputs (λ net there. let a = apart net (own net (grind (arith, there))) in grind (arith, a))

  loses_none : loses members element ≡ false
  loses_none = let itself : (has element.inputs element.output || has (element.output ∷ []) element.output) ≡ true = grind (arith, nat_tests) in let a = apart element.output (own element.output itself) in grind (arith, a)

  brings_all : length (outside_inputs (elements_at elements (growth.members.items ++ number ∷ []))) ≡ growth.outside + length (own_outside element)
  brings_all =
      let more = outside_more members element once in
      let gain = ap length gains_all in
      rw (members_more elements nets growth g number) (grind (arith, more, loses_none, gain, g.outside))

  -- the outside inputs of a candidate are within the number of pins
  pub has_place : (arch : Arch) (taken : List Bool) → is_candidate arch elements taken growth.members.items number ≡ true → growth.outside + length (own_outside element) ≤ input_count arch.pins
  has_place arch taken joins =
      let fits : fits_in_cluster arch (elements_at elements (growth.members.items ++ number ∷ [])) ≡ true = by (not (taken_at taken number)) (not (has growth.members.items number)) (fits_in_cluster arch (elements_at elements (growth.members.items ++ number ∷ []))) joins in
      omega (arith, (has_room arch _ fits).few_inputs, brings_all)
    where
      by : (a b c : Bool) → (a && (b && c)) ≡ true → c ≡ true
      by true true c h = h
      by true false c h = absurd cc
      by false b c h = absurd cc

-- if no BLE that shares a net may be added, no free BLE with more outside inputs than fit may be
-- added either
pub passed_over : (arch : Arch) (over : BlesOver) (growth : GrowingCluster) (taken : List Bool) (keys : List ℕ) (pins end : ℕ) → pins ≡ input_count arch.pins → IsGrowingCluster over.elements over.nets growth → AreLawful over → AreOutsideCounts over.elements keys
    → IsBest arch over.elements taken growth.members.items growth.gains (SharesNet over.elements growth.gains) None → AreAbove taken keys (pins - growth.outside) end → end ≤ length over.elements
    → (other : ℕ) → other < end → is_candidate arch over.elements taken growth.members.items other ≡ false
passed_over arch over growth taken keys pins end pins_are g lawful counts alone above within other below = by (is_candidate arch over.elements taken growth.members.items other) refl (gain_at growth.gains other) refl
  where
    small : other < length over.elements
    small = omega (arith, below, within)

    free : (mark : Bool) → taken_at taken other ≡ mark → is_candidate arch over.elements taken growth.members.items other ≡ true → taken_at taken other ≡ false
    free true e joins = absurd (grind (arith, e, joins))
    free false e joins = e

    by : (test : Bool) → is_candidate arch over.elements taken growth.members.items other ≡ test → (gain : ℕ) → gain_at growth.gains other ≡ gain → test ≡ false
    by false e gain f = refl
    by true e (suc gain) f = sym e ∙ alone other (record { small = small; shares = omega (arith, f) })
    by true e zero f =
        let lawful_here : IsElement over.nets (element_at over.elements other) = lawful.lawful other _ small in
        let room = has_place over.elements over.nets growth g other small (inputs_once _ lawful_here) f arch taken e in
        let key = above other below (free (taken_at taken other) refl e) in
        absurd (omega (arith, room, key, pins_are, counts.counted other small))

-- nothing may be added to a full cluster
pub full_refuses : (arch : Arch) (elements : List LogicElement) (taken : List Bool) (members : List ℕ) (number : ℕ) → arch.cluster_size ≤ length members → is_candidate arch elements taken members number ≡ false
full_refuses arch elements taken members number full = grind (arith, may_join_full)
