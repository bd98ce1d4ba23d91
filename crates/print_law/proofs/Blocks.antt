-- The blocks of the layout of results are such as files can say.
use Rattle.print_law.proofs.Prelude.{◌≡◌, ℕ, refl, ◌<◌, ◌^◌, List, ◌++◌, length, map, Option, Some, None, false, arith, inl, inr, sym, subst, All, Contains, option_and_then, option_map, enumerate_from, flat_map, range_with_len, zip, ForSome, option_map_or, option_to_list, length-map, All-contains, All-nil, length-enumerate_from, position-Some, length-zip, PinClass, Input, Output, Clock, Pin as ArchPin, LogicElement, outputs_of, place_of, blocks_of, elements_in, is_same_class, pins_of, PackedCircuit, IsPacked, IsLawfulPacking, Block, InputPad, OutputPad, Cluster, IsInRow, IsPlaceIn, places_of, IsStripSize, Strip, Kind, Logic, Pad, Place, all_members, from_append, from_flat_map, from_get, from_map, only_one, laid_at, numbered, place_is, IsNarrowBle, feed_of, laid_ble, laid_block, LaidBlock, Feed, Ble, FitsBle, FitsBlock, FitsPad, IsSmallPlace, feed_number, IsBare, driver_place, pin_with}
use Rattle.std.specs.Prelude.{◌==◌, ◌&&◌}
use Rattle.block_places.specs.Fits.{kind_of}
use Rattle.implements.specs.declared.feed.Feed.TheVariants.{Pin}
use Rattle.print_law.proofs.Elements.{element_within, few_elements, pins_are}

-- ---- numbers

-- a place of a strip has small numbers
pub small_place : (strip : Strip) (kind : Kind) (place : Place) → IsStripSize strip → IsPlaceIn strip kind place → IsSmallPlace place
small_place strip kind place size is = by kind is.row
  where
    x_low : place.x < 2 ^ 32
    x_low = let c = is.column.1 in let w = size.width.1 in omega (arith, c, w)

    by : (kind : Kind) → IsInRow strip kind place → IsSmallPlace place
    by Logic ((low, high), sub) = let r = size.rows.1 in record { x = x_low; y = omega (arith, high, r); subblock = omega (arith, sub) }
    by Pad (inl y, sub) = let p = size.io_rat.1 in record { x = x_low; y = omega (arith, y); subblock = omega (arith, sub, p) }
    by Pad (inr y, sub) = let r = size.rows.1 in let p = size.io_rat.1 in record { x = x_low; y = omega (arith, y, r); subblock = omega (arith, sub, p) }

-- ---- one block

module _ (packed : PackedCircuit) (lawful : IsPacked packed) (laws : IsLawfulPacking packed) where
  abbrev nets : ℕ
  nets = length packed.circuit.nets

  module _ (cluster : ℕ) where
    pin_low : (class : PinClass) (net pin : ℕ) → pin_with packed cluster class net ≡ Some pin → pin < 2 ^ 32
    pin_low class net pin is =
        let all = zip packed.arch.pins (pins_of packed cluster) in
        let none : ArchPin × Option ℕ = (record { class = Input; sides = record { top = false; bottom = false; left = false; right = false } }, None) in
        let at = position-Some (λ (pin : ArchPin × Option ℕ). is_same_class class pin.0.class && option_map_or (λ carried. carried == net) pin.1 false) all pin none is in
        let small = at.0 in
        let long = length-zip packed.arch.pins (pins_of packed cluster) in
        let few = laws.few_pins in
        omega (arith, small, long, few)

    feed_low : (net : ℕ) (feed : Feed) → feed_of packed cluster net ≡ Some feed → feed_number feed < 2 ^ 32
    feed_low net feed is = by (driver_place packed cluster net) refl is
      where
        on : (o : Option ℕ) → pin_with packed cluster Input net ≡ o → option_map Pin o ≡ Some feed → feed_number feed < 2 ^ 32
        on None at h = absurd cc
        on (Some pin) at h = let same : Pin pin ≡ feed = cc in subst (λ (f : Feed). feed_number f < 2 ^ 32) same (pin_low Input net pin at)

        by : (o : Option ℕ) → driver_place packed cluster net ≡ o → option_map_or (λ place. Some (Ble place)) o (option_map Pin (pin_with packed cluster Input net)) ≡ Some feed → feed_number feed < 2 ^ 32
        by None at h = on (pin_with packed cluster Input net) refl h
        by (Some place) at h =
            let same : Ble place ≡ feed = cc in
            let elements = elements_in packed cluster in
            let small = (position-Some (λ output. output == net) (outputs_of elements) place 0 at).0 in
            let few = few_elements packed lawful laws cluster in
            let most = lawful.arch.cluster_size.1 in
            subst (λ (f : Feed). feed_number f < 2 ^ 32) same (omega (arith, small, few, most, length-map elements (λ (element : LogicElement). element.output)))

    clock_low : (clock : Option ℕ) → ForSome (option_and_then (pin_with packed cluster Clock) clock) (λ pin. pin < 2 ^ 32)
    clock_low None pin is = absurd cc
    clock_low (Some net) pin is = pin_low Clock net pin is

    fits_ble : (element : LogicElement) → Contains (elements_in packed cluster) element → IsNarrowBle packed.arch (laid_ble packed cluster element) → FitsBle nets packed.arch.lut_size (laid_ble packed cluster element)
    fits_ble element c narrow = record {
      name = (element_within packed lawful laws cluster element c).output;
      inputs = all_members (λ feed. feed_number feed < 2 ^ 32) (flat_map (λ net. option_to_list (feed_of packed cluster net)) element.inputs) (λ feed d.
          let q = from_flat_map (λ net. option_to_list (feed_of packed cluster net)) element.inputs feed d in
          feed_low q.0 feed (only_one (feed_of packed cluster q.0) feed q.2));
      narrow = narrow;
      output = pin_low Output element.output;
      clock = clock_low element.clock;
    }

  fits_pad : (block : Block) → Contains (blocks_of packed) block → FitsPad nets block
  fits_pad block c = elim (from_append (map InputPad packed.circuit.inputs ++ map OutputPad packed.circuit.outputs) (map Cluster (range_with_len 0 (length packed.clusters))) block c) [
    | inl d ↦ elim (from_append (map InputPad packed.circuit.inputs) (map OutputPad packed.circuit.outputs) block d) [
      | inl e ↦
          (let q = from_map InputPad packed.circuit.inputs block e in
          subst (FitsPad nets) q.2 (All-contains (λ net. net < nets) packed.circuit.inputs q.0 lawful.circuit.inputs q.1))
      | inr e ↦
          (let q = from_map OutputPad packed.circuit.outputs block e in
          subst (FitsPad nets) q.2 (All-contains (λ net. net < nets) packed.circuit.outputs q.0 lawful.circuit.outputs q.1))
    ]
    | inr d ↦ (let q = from_map Cluster (range_with_len 0 (length packed.clusters)) block d in subst (FitsPad nets) q.2 tt)
  ]

  fits_block : (block : Block) (place : Place) → FitsPad nets block → All (IsNarrowBle packed.arch) (laid_block packed block place).bles → IsSmallPlace place → FitsBlock nets packed.arch.lut_size (laid_block packed block place)
  fits_block (InputPad net) place pad narrow small = record { pad = pad; pins = All-nil (λ pin. ForSome pin (λ net. net < nets)); bles = All-nil (FitsBle nets packed.arch.lut_size); place = small }
  fits_block (OutputPad net) place pad narrow small = record { pad = pad; pins = All-nil (λ pin. ForSome pin (λ net. net < nets)); bles = All-nil (FitsBle nets packed.arch.lut_size); place = small }
  fits_block (Cluster cluster) place pad narrow small = record {
    pad = pad;
    pins = pins_are packed lawful laws cluster;
    bles = all_members (FitsBle nets packed.arch.lut_size) (map (laid_ble packed cluster) (elements_in packed cluster)) (λ ble c.
        let q = from_map (laid_ble packed cluster) (elements_in packed cluster) ble c in
        let few = All-contains (IsNarrowBle packed.arch) (map (laid_ble packed cluster) (elements_in packed cluster)) ble narrow c in
        subst (FitsBle nets packed.arch.lut_size) q.2 (fits_ble cluster q.0 q.1 (subst (IsNarrowBle packed.arch) (sym q.2) few)));
    place = small;
  }

  bare_block : (block : Block) (place : Place) → IsBare (laid_block packed block place)
  bare_block (InputPad net) place = (refl, refl)
  bare_block (OutputPad net) place = (refl, refl)
  bare_block (Cluster cluster) place = tt

  -- ---- all blocks

  module _ (places : List Place) where
    abbrev laid_blocks : List LaidBlock
    laid_blocks = map (laid_at packed places) (enumerate_from 0 (blocks_of packed))

    pub all_fit : (strip : Strip) → IsStripSize strip → ((kind : Kind) → All (IsPlaceIn strip kind) (places_of strip kind)) → All (λ (laid : LaidBlock). All (IsNarrowBle packed.arch) laid.bles) laid_blocks
        → All (λ (laid : LaidBlock). Contains (places_of strip (kind_of laid.block)) laid.place) laid_blocks → All (FitsBlock nets packed.arch.lut_size) laid_blocks
    all_fit strip size within narrow placed = all_members (FitsBlock nets packed.arch.lut_size) laid_blocks (λ laid c.
        let q = from_map (laid_at packed places) (enumerate_from 0 (blocks_of packed)) laid c in
        let at = numbered 0 (blocks_of packed) q.0.0 q.0.1 q.1 in
        let there = (from_get (blocks_of packed) at.0 q.0.1 at.2).1 in
        let place = place_of places q.0.0 in
        let kind = kind_of laid.block in
        let on = All-contains (λ (laid : LaidBlock). Contains (places_of strip (kind_of laid.block)) laid.place) laid_blocks laid placed c in
        let small = small_place strip kind laid.place size (All-contains (IsPlaceIn strip kind) (places_of strip kind) laid.place (within kind) on) in
        let few = All-contains (λ (laid : LaidBlock). All (IsNarrowBle packed.arch) laid.bles) laid_blocks laid narrow c in
        subst (FitsBlock nets packed.arch.lut_size) q.2
        (fits_block q.0.1 place (fits_pad q.0.1 there) (subst (λ (laid : LaidBlock). All (IsNarrowBle packed.arch) laid.bles) (sym q.2) few)
        (subst IsSmallPlace (place_is packed q.0.1 place) (subst (λ (laid : LaidBlock). IsSmallPlace laid.place) (sym q.2) small))))

    pub all_bare : All IsBare laid_blocks
    all_bare = all_members IsBare laid_blocks (λ laid c. let q = from_map (laid_at packed places) (enumerate_from 0 (blocks_of packed)) laid c in subst IsBare q.2 (bare_block q.0.1 (place_of places q.0.0)))

    pub few_laid : length laid_blocks < 2 ^ 32
    few_laid = omega (arith, length-map (enumerate_from 0 (blocks_of packed)) (laid_at packed places), length-enumerate_from 0 (blocks_of packed), laws.few_blocks)
