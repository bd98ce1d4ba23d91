-- The tracks that an output pin meets on a side, as the table tells them.
use Rattle.fabric_planes.proofs.Prelude.{◌≡◌, ℕ, ◌+◌, ◌-◌, ◌*◌, ◌<◌, ◌≤◌, List, length, get_or, take, drop, sym, subst, arith, true, All, slice_index, range_with_len, eqb-true, div-mul-add, mod-mul-add, mul-add-lt, row_fits, get_or-take, get_or-drop, All-map, All-take, All-drop, length-map-range_with_len, get_or-map-range_with_len, NodeKind, Opin, Node, IsWire, is_node, meets, Basis, IsBasis, pins_of, band_of, apart_at, apart_by, apart_count, aparts, pin_number, IsAtSide}
use Rattle.fabric_planes.proofs.PinsRowed.{IsPin, number_low, pin_facts}

module _ {basis : Basis} (is : IsBasis basis) where
  apart_few : (at : ℕ) → apart_at basis at ≤ 20000
  apart_few at = grind arith

  pub aparts_few : (first many : ℕ) (list : List ℕ) → list ≡ aparts basis → All (λ bound. bound ≤ 20000) (take many (drop first list))
  aparts_few first many list e =
      rw e (All-take (λ (bound : ℕ). bound ≤ 20000) many (drop first (aparts basis))
      (All-drop (λ (bound : ℕ). bound ≤ 20000) first (aparts basis)
      (All-map (λ (bound : ℕ). bound ≤ 20000) (apart_at basis) (range_with_len 0 (apart_count basis)) (λ k d b. apart_few (get_or (range_with_len 0 (apart_count basis)) k d)))))

  -- the parts of an entry's number
  number_back : (y n side track : ℕ) → n < pins_of basis → side < 4 → track < basis.arch.tracks → apart_at basis ((pin_number basis y n * 4 + side) * basis.arch.tracks + track) ≡ apart_by basis y n side track
  number_back y n side track few four low = grind (arith, div-mul-add, mod-mul-add)

  module _ (pin : Node) (there : is_node basis.arch basis.strip pin ≡ true) (kind : pin.kind ≡ Opin) (side : ℕ) (few : side < 4) where
    facts : IsPin is pin
    facts = pin_facts is pin (subst (λ (k : NodeKind). IsWire k → ⊥) (sym kind) (λ w. w)) there

    abbrev at : ℕ
    at = pin_number basis pin.y pin.n * 4 + side

    fits : at * basis.arch.tracks + basis.arch.tracks ≤ apart_count basis
    fits =
        let low : at < 4 * (pins_of basis * band_of basis) = mul-add-lt (pin_number basis pin.y pin.n) 4 side (pins_of basis * band_of basis) (number_low is pin facts) few in
        let all = row_fits at basis.arch.tracks (4 * (pins_of basis * band_of basis)) basis.arch.tracks low (omega arith) in
        let e : 4 * (pins_of basis * band_of basis) * basis.arch.tracks ≡ apart_count basis = grind arith in
        omega (arith, all, e)

    pub aparts_within : (number tracks : ℕ) (list : List ℕ) → number ≡ pin_number basis pin.y pin.n → tracks ≡ basis.arch.tracks → list ≡ aparts basis → (number * 4 + side) * tracks + tracks ≤ length list
    aparts_within number tracks list p t e = grind (arith, length-map-range_with_len, fits)

    -- the entry of a wire that the pin meets
    entry : (wire : Node) → IsAtSide pin side wire.kind wire.x wire.y → meets basis.arch basis.strip pin wire ≡ true → apart_by basis pin.y pin.n side wire.n ≡ 0
    entry wire beside met = search (eqb-true, arith)

    pub apart_told : (number tracks : ℕ) (list : List ℕ) → number ≡ pin_number basis pin.y pin.n → tracks ≡ basis.arch.tracks → list ≡ aparts basis
        → (wire : Node) → wire.n < basis.arch.tracks → IsAtSide pin side wire.kind wire.x wire.y → meets basis.arch basis.strip pin wire ≡ true
        → slice_index (take ((number * 4 + side) * tracks + tracks - (number * 4 + side) * tracks) (drop ((number * 4 + side) * tracks) list)) wire.n ≡ 0
    apart_told number tracks list p t e wire low beside met = grind (arith, get_or-take, get_or-drop, get_or-map-range_with_len, fits, number_back pin.y pin.n side wire.n facts.few few low, entry wire beside met)
