-- Pads that go to their places, one after another.
use Rattle.pinned_places.proofs.Prelude.{ℕ, suc, ◌≡◌, ◌≢◌, ◌<◌, All, List, [], ◌∷◌, Ok, Err, Result, IfOk, Option, Some, length, get_or, slice_get, refl, sym, ap, subst, ◌∙◌, arith, AllPairs, Contains, zip, All-cons, All-head, All-nil, All-tail, slice_get-get_or, PackedCircuit, blocks_of, keys_of, Strip, Kind, Logic, Pad, Place, place_at, places_of, in_order, kind_of, ArePlaced, block_at, place_of, PlacingUnderWay, places_by_block, place_after, Pin, with_pad, with_pads, pads_of, ArePads, HasPin, IsPinned, FixedPad}
use Rattle.pinned_places.proofs.Exchanged.{after_at, from_else, from_home, still_placed}
use Rattle.pinned_places.proofs.MetPins.{IsMet, all_met, no_pads_yet}
use Rattle.pinned_places.proofs.Started.{start_places}

module _ (packed : PackedCircuit) (strip : Strip) (kinds_apart : (place : Place) → Contains (places_of strip Logic) place → Contains (places_of strip Pad) place → ⊥) where
  others_lawful : (pad : FixedPad) (pads : List FixedPad) → ArePads packed strip (pad ∷ pads) → ArePads packed strip pads
  others_lawful pad pads are = record {
    blocks = All-tail (λ pad. pad.block < length (blocks_of packed)) pad pads are.blocks;
    kinds = All-tail (λ pad. kind_of (block_at packed pad.block) ≡ Pad) pad pads are.kinds;
    places = All-tail (λ pad. Contains (places_of strip Pad) pad.place) pad pads are.places;
    blocks_apart = λ i j d less lt. are.blocks_apart (suc i) (suc j) d (omega (arith, less)) (omega (arith, lt));
    places_apart = λ i j d less lt. are.places_apart (suc i) (suc j) d (omega (arith, less)) (omega (arith, lt));
  }

  first_block : (pad : FixedPad) (pads : List FixedPad) → ArePads packed strip (pad ∷ pads) → pad.block < length (blocks_of packed)
  first_block pad pads are = All-head (λ pad. pad.block < length (blocks_of packed)) pad pads are.blocks

  first_place : (pad : FixedPad) (pads : List FixedPad) → ArePads packed strip (pad ∷ pads) → Contains (places_of strip (kind_of (block_at packed pad.block))) pad.place
  first_place pad pads are =
      subst (λ (k : Kind). Contains (places_of strip k) pad.place) (sym (All-head (λ pad. kind_of (block_at packed pad.block) ≡ Pad) pad pads are.kinds))
      (All-head (λ pad. Contains (places_of strip Pad) pad.place) pad pads are.places)

  one_placed : (pad : FixedPad) (pads : List FixedPad) (places : List Place) → ArePads packed strip (pad ∷ pads) → ArePlaced strip packed places → ArePlaced strip packed (with_pad pad places)
  one_placed pad pads places are placed = still_placed strip kinds_apart packed places placed pad.block pad.place (first_block pad pads are) (first_place pad pads are)

  -- all blocks are still placed
  pub all_placed : (pads : List FixedPad) (places : List Place) → ArePads packed strip pads → ArePlaced strip packed places → ArePlaced strip packed (with_pads pads places)
  unfolding with_pads
  all_placed [] places are placed = placed
  all_placed (pad ∷ pads) places are placed = all_placed pads (with_pad pad places) (others_lawful pad pads are) (one_placed pad pads places are placed)

  at_pad : (pad : FixedPad) (pads : List FixedPad) (places : List Place) → ArePads packed strip (pad ∷ pads) → ArePlaced strip packed places → (block : ℕ) → block < length (blocks_of packed) → place_of (with_pad pad places) block ≡ place_after (place_of places pad.block) pad.place (place_of places block)
  at_pad pad pads places are placed block lt = after_at strip kinds_apart packed places placed pad.block pad.place (first_block pad pads are) (first_place pad pads are) block lt

  -- a pad that is on its place stays there
  stays : (pads : List FixedPad) (places : List Place) (one : FixedPad) → ArePads packed strip pads → ArePlaced strip packed places → one.block < length (blocks_of packed) → All (λ pad. one.block ≡ pad.block → ⊥) pads → All (λ pad. one.place ≡ pad.place → ⊥) pads →
      place_of places one.block ≡ one.place → place_of (with_pads pads places) one.block ≡ one.place
  unfolding with_pads
  stays [] places one are placed lt blocks others is = is
  stays (pad ∷ pads) places one are placed lt blocks others is =
      let differs = All-head (λ pad. one.block ≡ pad.block → ⊥) pad pads blocks in
      let elsewhere = All-head (λ pad. one.place ≡ pad.place → ⊥) pad pads others in
      let home : place_of places one.block ≡ place_of places pad.block → ⊥ = λ e. differs (placed.one_to_one one.block pad.block lt (first_block pad pads are) e) in
      let same : place_of (with_pad pad places) one.block ≡ one.place =
      at_pad pad pads places are placed one.block lt ∙ from_else (place_of places pad.block) pad.place (place_of places one.block) home (λ e. elsewhere (sym is ∙ e)) ∙ is in
      stays pads (with_pad pad places) one (others_lawful pad pads are) (one_placed pad pads places are placed) lt (All-tail (λ pad. one.block ≡ pad.block → ⊥) pad pads blocks) (All-tail (λ pad. one.place ≡ pad.place → ⊥) pad pads others) same

  -- each pad is on its place
  pub all_there : (pads : List FixedPad) (places : List Place) → ArePads packed strip pads → ArePlaced strip packed places → All (λ pad. place_of (with_pads pads places) pad.block ≡ pad.place) pads
  unfolding with_pads
  all_there [] places are placed = All-nil (λ (pad : FixedPad). place_of (with_pads [] places) pad.block ≡ pad.place)
  all_there (pad ∷ pads) places are placed =
      let after = with_pad pad places in
      let lt = first_block pad pads are in
      let here : place_of after pad.block ≡ pad.place = at_pad pad pads places are placed pad.block lt ∙ from_home (place_of places pad.block) pad.place in
      let others = others_lawful pad pads are in
      let still = one_placed pad pads places are placed in
      let first = stays pads after pad others still lt (λ k d less. are.blocks_apart 0 (suc k) d (omega arith) (omega (arith, less))) (λ k d less. are.places_apart 0 (suc k) d (omega arith) (omega (arith, less))) here in
      All-cons (λ (one : FixedPad). place_of (with_pads pads after) one.block ≡ one.place) pad pads first (all_there pads after others still)

-- the placing that is made is pinned
module _ (old : PlacingUnderWay) (pins : List Pin) (pads : List FixedPad) (places : List Place) (kinds_apart : (place : Place) → Contains (places_of old.strip Logic) place → Contains (places_of old.strip Pad) place → ⊥) (keys : AllPairs (λ key other. key ≢ other) (keys_of old.packed))
    (placed : ArePlaced old.strip old.packed (places_by_block old)) (met : pads_of old.packed old.strip pins ≡ Ok pads) (are : places ≡ with_pads pads (places_by_block old)) where
  pub lawful_pads : ArePads old.packed old.strip pads
  lawful_pads = (all_met old.packed old.strip [] pins pads (no_pads_yet old.packed old.strip) met).lawful

  pub pinned_placed : ArePlaced old.strip old.packed places
  pinned_placed = subst (ArePlaced old.strip old.packed) (sym are) (all_placed old.packed old.strip kinds_apart pads (places_by_block old) lawful_pads placed)

  abbrev made_of : PlacingUnderWay
  made_of = record { packed = old.packed; strip = old.strip; kept = in_order (zip (keys_of old.packed) places); seed = 0; effort = 0; passes = 0 }

  shown : places_by_block made_of ≡ places
  shown = start_places old.strip old.packed places keys pinned_placed

  one_pin : (pin : Pin) → IsMet old.packed old.strip pads pin → HasPin made_of pin
  one_pin pin is =
      let at : place_of (with_pads pads (places_by_block old)) is.pad.block ≡ is.pad.place =
      subst (λ (pad : FixedPad). place_of (with_pads pads (places_by_block old)) pad.block ≡ pad.place) is.one.2 (all_there old.packed old.strip kinds_apart pads (places_by_block old) lawful_pads placed is.one.0 is.pad is.one.1) in
      let lt = subst (λ (pad : FixedPad). pad.block < length (blocks_of old.packed)) is.one.2 (lawful_pads.blocks is.one.0 is.pad is.one.1) in
      let here : slice_get places is.pad.block ≡ Some (place_of places is.pad.block) = slice_get-get_or places is.pad.block (place_at 0 0 0) (omega (arith, lt, pinned_placed.long)) in
      let place : place_of places is.pad.block ≡ pin.place = ap (λ (p : List Place). place_of p is.pad.block) are ∙ at ∙ is.there in
      (is.pad.block, is.named, ap (λ (p : List Place). slice_get p is.pad.block) shown ∙ here ∙ ap (λ (p : Place). let o : Option Place = Some p in o) place)

  pub pinned_so : {E : Type 0} (made : Result PlacingUnderWay E) → IfOk made (λ new. new ≡ made_of) → IfOk made (IsPinned old pins)
  pinned_so (Err error) is = tt
  pinned_so (Ok new) is = subst (IsPinned old pins) (sym is) (record {
    pads = pads;
    met = met;
    packed = refl;
    strip = refl;
    places = shown ∙ are;
    pinned = λ k d lt. one_pin (get_or pins k d) ((all_met old.packed old.strip [] pins pads (no_pads_yet old.packed old.strip) met).met k d lt);
  })
