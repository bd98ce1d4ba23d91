-- The pads of pins are different pads with different places, and each pin has its pad.
use Rattle.pinned_places.proofs.Prelude.{ℕ, zero, suc, ◌≡◌, ◌+◌, ◌-◌, ◌<◌, ◌≤◌, ◌==◌, ◌||◌, All, Bool, true, false, List, [], ◌∷◌, ◌++◌, Some, None, Result, Ok, Err, length, map, get_or, refl, sym, ap, subst, ◌∙◌, arith, Contains, find, flat_map, range_with_len, nat_tests, get_or-map, length-map, get_or-range_with_len, length-range_with_len, All-cons, All-nil, All-push, Contains-append_left, Contains-append_right, Contains-push, all_pairs_push, position-Some, PackedCircuit, blocks_of, key_of, keys_of, Block, Cluster, Strip, Pad, Place, column_of, place_at, places_of, kind_of, block_at, is_same_place, is_itself, Pin, is_pad_named, is_pad_place, pad_number, pad_of, pads_after, then_pads, ArePads, PinFault, FixedPad}

-- if nothing is found, no element passes
none_found : {X : Type 0} (p : X → Bool) (xs : List X) → find p xs ≡ None → All (λ x. p x ≡ false) xs
none_found {X} p [] none = All-nil (λ (x : X). p x ≡ false)
none_found {X} p (x ∷ xs) none = grind (arith, none_found p xs)

-- lists that contain an element
mapped : {X Y : Type 0} (f : X → Y) (xs : List X) (x : X) → Contains xs x → Contains (map f xs) (f x)
mapped f xs x there = (there.0, omega (arith, there.1, length-map xs f), get_or-map f xs there.0 x (f x) there.1 ∙ ap f there.2)

ranged : (start count number : ℕ) → number < count → Contains (range_with_len start count) (start + number)
ranged start count number lt = (number, omega (arith, lt, length-range_with_len start count), get_or-range_with_len start count number (start + number) lt)

flattened : {X Y : Type 0} (f : X → List Y) (xs : List X) (x : X) (y : Y) (k : ℕ) → k < length xs → get_or xs k x ≡ x → Contains (f x) y → Contains (flat_map f xs) y
flattened f [] x y k lt is there = absurd (omega (arith, lt))
flattened f (first ∷ xs) x y zero lt is there = Contains-append_left (f first) (flat_map f xs) y (subst (λ z. Contains (f z) y) (sym is) there)
flattened f (first ∷ xs) x y (suc k) lt is there = Contains-append_right (f first) (flat_map f xs) y (flattened f xs x y k (omega (arith, lt)) is there)

-- a place that is told to be one for a pad is one
pub pad_there : (strip : Strip) (place : Place) → is_pad_place strip place ≡ true → Contains (places_of strip Pad) place
unfolding places_of
pad_there strip place is =
    let column : 1 ≤ place.x = grind (arith, nat_tests, is) in
    let inside : place.x ≤ strip.width = grind (arith, nat_tests, is) in
    let pad : place.subblock < strip.io_rat = grind (arith, nat_tests, is) in
    let rows : ((place.y == 0) || (place.y == strip.rows + 1)) ≡ true = grind (arith, nat_tests, is) in
    let at = ranged 1 strip.width (place.x - 1) (omega (arith, column, inside)) in
    let same : 1 + (place.x - 1) ≡ place.x = omega (arith, column) in
    let there : Contains (range_with_len 1 strip.width) place.x = subst (Contains (range_with_len 1 strip.width)) same at in
    flattened (column_of strip Pad) (range_with_len 1 strip.width) place.x place there.0 there.1 there.2 (by_row (place.y == 0) refl pad rows)
  where
    here : place.subblock < strip.io_rat → Contains (map (place_at place.x place.y) (range_with_len 0 strip.io_rat)) place
    here pad = mapped (place_at place.x place.y) (range_with_len 0 strip.io_rat) place.subblock (let zero_more : 0 + place.subblock ≡ place.subblock = omega arith in subst (Contains (range_with_len 0 strip.io_rat)) zero_more (ranged 0 strip.io_rat place.subblock pad))

    by_row : (b : Bool) → (place.y == 0) ≡ b → place.subblock < strip.io_rat → ((place.y == 0) || (place.y == strip.rows + 1)) ≡ true → Contains (column_of strip Pad place.x) place
    by_row true low pad rows =
        let y : 0 ≡ place.y = grind (arith, nat_tests, low) in
        flattened (λ y. map (place_at place.x y) (range_with_len 0 strip.io_rat)) (0 ∷ (strip.rows + 1) ∷ []) place.y place 0 (omega arith) y (here pad)
    by_row false high pad rows =
        let y : strip.rows + 1 ≡ place.y = grind (arith, nat_tests, high, rows) in
        flattened (λ y. map (place_at place.x y) (range_with_len 0 strip.io_rat)) (0 ∷ (strip.rows + 1) ∷ []) place.y place 1 (omega arith) y (here pad)

-- a block that has a name is a pad
named_kind : (packed : PackedCircuit) (block : Block) (name : List ℕ) → is_pad_named name (key_of packed block) ≡ true → kind_of block ≡ Pad
named_kind packed block name is = grind arith

pub record IsPadOf (packed : PackedCircuit) (strip : Strip) (before : List FixedPad) (pin : Pin) (pad : FixedPad) : Type 0 where
  pub named : pad_number packed pin.name ≡ Some pad.block
  pub there : pad.place ≡ pin.place
  pub inside : is_pad_place strip pad.place ≡ true
  pub new_block : All (λ earlier. (earlier.block == pad.block) ≡ false) before
  pub new_place : All (λ earlier. is_same_place earlier.place pad.place ≡ false) before

-- a pad that is given
pub given : (packed : PackedCircuit) (strip : Strip) (before : List FixedPad) (pin : Pin) (pad : FixedPad) → pad_of packed strip before pin ≡ Ok pad → IsPadOf packed strip before pin pad
given packed strip before pin pad is = search (none_found, arith)

-- the pads so far, and one more
module _ (packed : PackedCircuit) (strip : Strip) where
  abbrev no_block : Block
  no_block = Cluster 0

  pad_block : (pin : Pin) (pad : FixedPad) → pad_number packed pin.name ≡ Some pad.block → (pad.block < length (blocks_of packed)) × (kind_of (block_at packed pad.block) ≡ Pad)
  pad_block pin pad named =
      let at = position-Some (is_pad_named pin.name) (keys_of packed) pad.block (key_of packed no_block) named in
      let lt : pad.block < length (blocks_of packed) = omega (arith, at.0, length-map (blocks_of packed) (key_of packed)) in
      (lt, named_kind packed (block_at packed pad.block) pin.name (sym (ap (is_pad_named pin.name) (get_or-map (key_of packed) (blocks_of packed) pad.block no_block (key_of packed no_block) lt)) ∙ at.1))

  told_block : (one other : ℕ) → (one == other) ≡ false → one ≡ other → ⊥
  told_block one other is same = absurd (grind (arith, nat_tests, is, same))

  told_place : (one other : Place) → is_same_place one other ≡ false → one ≡ other → ⊥
  told_place one other is same = let e : true ≡ false = sym (is_itself other) ∙ (ap (λ (p : Place). is_same_place p other) (sym same) ∙ is) in absurd cc

  pub pads_more : (before : List FixedPad) (pin : Pin) (pad : FixedPad) → ArePads packed strip before → IsPadOf packed strip before pin pad → ArePads packed strip (before ++ pad ∷ [])
  pads_more before pin pad are is =
      let block = pad_block pin pad is.named in
      record {
        blocks = All-push (λ pad. pad.block < length (blocks_of packed)) before pad are.blocks block.0;
        kinds = All-push (λ pad. kind_of (block_at packed pad.block) ≡ Pad) before pad are.kinds block.1;
        places = All-push (λ pad. Contains (places_of strip Pad) pad.place) before pad are.places (pad_there strip pad.place is.inside);
        blocks_apart = all_pairs_push (λ pad other. pad.block ≡ other.block → ⊥) before pad are.blocks_apart (λ k d lt. told_block (get_or before k d).block pad.block (is.new_block k d lt));
        places_apart = all_pairs_push (λ pad other. pad.place ≡ other.place → ⊥) before pad are.places_apart (λ k d lt. told_place (get_or before k d).place pad.place (is.new_place k d lt));
      }

  pub no_pads_yet : ArePads packed strip []
  no_pads_yet = record {
    blocks = All-nil (λ (pad : FixedPad). pad.block < length (blocks_of packed));
    kinds = All-nil (λ (pad : FixedPad). kind_of (block_at packed pad.block) ≡ Pad);
    places = All-nil (λ (pad : FixedPad). Contains (places_of strip Pad) pad.place);
    blocks_apart = λ i j d less lt. absurd (omega (arith, lt));
    places_apart = λ i j d less lt. absurd (omega (arith, lt));
  }

  -- a pin that has its pad among these
  pub record IsMet (pads : List FixedPad) (pin : Pin) : Type 0 where
    pub pad : FixedPad
    pub one : Contains pads pad
    pub named : pad_number packed pin.name ≡ Some pad.block
    pub there : pad.place ≡ pin.place

  -- what follows from the pads of all pins
  pub record AreMet (before : List FixedPad) (pins : List Pin) (pads : List FixedPad) : Type 0 where
    pub lawful : ArePads packed strip pads
    pub stay : (pad : FixedPad) → Contains before pad → Contains pads pad
    pub met : All (IsMet pads) pins

  pub all_met : (before : List FixedPad) (pins : List Pin) (pads : List FixedPad) → ArePads packed strip before → pads_after packed strip before pins ≡ Ok pads → AreMet before pins pads
  unfolding pads_after
  all_met before [] pads are is =
      let same : before ≡ pads = cc in
      record { lawful = subst (ArePads packed strip) same are; stay = λ pad one. subst (λ (p : List FixedPad). Contains p pad) same one; met = All-nil (IsMet pads) }
  all_met before (pin ∷ pins) pads are is = by (pad_of packed strip before pin) refl is (λ more. all_met more pins pads)
    where
      by : (r : Result FixedPad PinFault) → pad_of packed strip before pin ≡ r → then_pads (λ more. pads_after packed strip more pins) before r ≡ Ok pads → ((more : List FixedPad) → ArePads packed strip more → pads_after packed strip more pins ≡ Ok pads → AreMet more pins pads) → AreMet before (pin ∷ pins) pads
      by (Err fault) made whole rest = absurd cc
      by (Ok pad) made whole rest =
          let one = given packed strip before pin pad made in
          let others = rest (before ++ pad ∷ []) (pads_more before pin pad are one) whole in
          record {
            lawful = others.lawful;
            stay = λ earlier there. others.stay earlier (Contains-append_left before (pad ∷ []) earlier there);
            met = All-cons (IsMet pads) pin pins (record { pad = pad; one = others.stay pad (Contains-push before pad); named = one.named; there = one.there }) others.met;
          }
