-- The nets of entries as a set, and the nets that are wanted.
use Rattle.layout_check.proofs.Prelude.{◌≡◌, ℕ, ◌<◌, ◌≤◌, Bool, true, false, List, Option, Some, None, map, length, slice_get, sym, ap, refl, ◌∙◌, eq-eqb, subst, arith, All, Contains, MatchOption, list_any, range_with_len, option_map_or, false≢true, get_or-range_with_len, length-range_with_len, slice_get-get_or, from_any, from_has, from_map, in_range, to_any, to_has, Arch, PinClass, has, has_on, is_net, wants, LaidBlock, LaidNet, on_pin, IsSetOf, is_in}

-- the nets of the first entries are in the set, and no others
pub record AreEntries (nets : List LaidNet) (count n : ℕ) (marks : List Bool) : Type 0 where
  pub long : length marks ≡ count
  pub forward : (k : ℕ) (laid : LaidNet) → k < n → slice_get nets k ≡ Some laid → is_in marks laid.net ≡ true
  pub back : (net : ℕ) → is_in marks net ≡ true → Contains (map (λ laid. laid.net) nets) net

pub entries_all : (nets : List LaidNet) (count n : ℕ) (marks : List Bool) → length nets ≤ n → AreEntries nets count n marks → IsSetOf (map (λ laid. laid.net) nets) marks
entries_all nets count n marks end so net = (
  so.back net,
  λ c.
      let q = from_map (λ (laid : LaidNet). laid.net) nets net c in
      let small = q.1.1 in
      let there : slice_get nets q.1.0 ≡ Some q.0 = slice_get-get_or nets q.1.0 q.0 q.1.1 ∙ ap (λ x. Some x) q.1.2 in
      subst (λ k. is_in marks k ≡ true) q.2 (so.forward q.1.0 q.0 (omega (arith, small, end)) there),
)

-- the nets on all pins are in the set
pub all_served : (arch : Arch) (block : LaidBlock) (class : PinClass) (marks : List Bool) (end : ℕ) → length arch.pins ≤ end → ((k : ℕ) → k < end → option_map_or (is_in marks) (on_pin arch block class k) true ≡ true) →
    (net : ℕ) → has_on arch block class net ≡ true → is_in marks net ≡ true
all_served arch block class marks end within served net has = grind (arith, from_any, get_or-range_with_len, length-range_with_len)

-- the net on one pin isn't in the set
pub one_unserved : (arch : Arch) (block : LaidBlock) (class : PinClass) (marks : List Bool) (pin : ℕ) → pin < length arch.pins → option_map_or (is_in marks) (on_pin arch block class pin) true ≡ false →
    (net : ℕ) × (has_on arch block class net ≡ true) × (is_in marks net ≡ false)
one_unserved arch block class marks pin small fails = by (on_pin arch block class pin) refl
  where
    by : (o : Option ℕ) → on_pin arch block class pin ≡ o → (net : ℕ) × (has_on arch block class net ≡ true) × (is_in marks net ≡ false)
    by None e = absurd (false≢true (sym fails ∙ ap (λ (o : Option ℕ). option_map_or (is_in marks) o true) e))
    by (Some net) e = (
      net,
      to_any (λ k. is_net net (on_pin arch block class k)) (range_with_len 0 (length arch.pins)) pin (in_range 0 (length arch.pins) pin (omega arith) (omega (arith, small))) (ap (is_net net) e ∙ eq-eqb net net refl),
      sym (ap (λ (o : Option ℕ). option_map_or (is_in marks) o true) e) ∙ fails,
    )

-- a set has what the list has
pub has_from_set : (nets : List ℕ) (marks : List Bool) → IsSetOf nets marks → (net : ℕ) → is_in marks net ≡ true → has nets net ≡ true
has_from_set nets marks exact net is = to_has nets net ((exact net).0 is)

pub has_not : (nets : List ℕ) (marks : List Bool) → IsSetOf nets marks → (net : ℕ) → is_in marks net ≡ false → has nets net ≡ false
has_not nets marks exact net out = grind (arith, from_has)

-- the set in place of the entries
pub wanted_told : (arch : Arch) (blocks bs : List LaidBlock) (nets ns : List LaidNet) (marks : List Bool) (o : Option ℕ) → bs ≡ blocks → ns ≡ nets → IsSetOf (map (λ laid. laid.net) ns) marks →
    MatchOption o (All (λ laid. (net : ℕ) → wants arch net laid ≡ true → is_in marks net ≡ true) bs)
    (λ number. (laid : LaidBlock) × (slice_get bs number ≡ Some laid) × (net : ℕ) × (wants arch net laid ≡ true) × (is_in marks net ≡ false)) →
    MatchOption o (All (λ laid. (net : ℕ) → wants arch net laid ≡ true → has (map (λ between. between.net) nets) net ≡ true) blocks)
    (λ number. (laid : LaidBlock) × (slice_get blocks number ≡ Some laid) × (net : ℕ) × (wants arch net laid ≡ true) × (has (map (λ between. between.net) nets) net ≡ false))
wanted_told arch blocks bs nets ns marks None same also exact all = grind (arith, has_from_set)
wanted_told arch blocks bs nets ns marks (Some number) same also exact (laid, there, net, wanted, out) = grind (arith, has_not)
