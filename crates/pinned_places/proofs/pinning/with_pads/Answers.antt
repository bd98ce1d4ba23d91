use Rattle.pinned_places.proofs.Prelude.{◌≡◌, ◌≢◌, ◌∙◌, refl, subst, AllPairs, Contains, PackedCircuit, keys_of, places_of, IsStripSize, Strip, Logic, Pad, Place, ArePlaced, pins_read, places_by_block, with_pads}
use Rattle.pinned_places.proofs.AllExchanged.{lawful_pads, pinned_placed, pinned_so}
use Rattle.pinned_places.proofs.pinning.with_pads.Goals as goal

pub places_with_pads-requires : goal.places_with_pads-requires
places_with_pads-requires c =
    let old = c.args.placing.now in
    let size : IsStripSize old.strip = subst IsStripSize c.strip.ensures.value c.strip.ensures.size in
    let apart : (place : Place) → Contains (places_of old.strip Logic) place → Contains (places_of old.strip Pad) place → ⊥ = λ place. c.laws_of_places.ensures.kinds_apart old.strip place size in
    let keys : AllPairs (λ key other. key ≢ other) (keys_of old.packed) = subst (λ (p : PackedCircuit). AllPairs (λ key other. key ≢ other) (keys_of p)) c.packed.ensures (c.laws_of_packing.ensures c.packed.result.now c.laws-2.ensures).keys in
    let placed : ArePlaced old.strip old.packed (places_by_block old) = record { long = c.laws.ensures.long; by_kind = c.laws.ensures.by_kind; one_to_one = c.laws.ensures.one_to_one } in
    (lawful_pads old (pins_read c.args.pins.now) c.args.pads.now (with_pads c.args.pads.now (places_by_block old)) apart keys placed c.requires.pads refl).blocks

pub placed_on-placed-requires-clause-placed : goal.placed_on-placed-requires-clause-placed
placed_on-placed-requires-clause-placed c =
    let old = c.args.placing.now in
    let size : IsStripSize old.strip = subst IsStripSize c.strip.ensures.value c.strip.ensures.size in
    let apart : (place : Place) → Contains (places_of old.strip Logic) place → Contains (places_of old.strip Pad) place → ⊥ = λ place. c.laws_of_places.ensures.kinds_apart old.strip place size in
    let keys : AllPairs (λ key other. key ≢ other) (keys_of old.packed) = subst (λ (p : PackedCircuit). AllPairs (λ key other. key ≢ other) (keys_of p)) c.packed.ensures (c.laws_of_packing.ensures c.packed.result.now c.laws-2.ensures).keys in
    let placed : ArePlaced old.strip old.packed (places_by_block old) = record { long = c.laws.ensures.long; by_kind = c.laws.ensures.by_kind; one_to_one = c.laws.ensures.one_to_one } in
    pinned_placed old (pins_read c.args.pins.now) c.args.pads.now c.as_slice.result.now apart keys placed c.requires.pads (c.as_slice.ensures.value ∙ c.in_ok-places.ensures)

pub returns : goal.returns
returns c =
    let old = c.args.placing.now in
    let size : IsStripSize old.strip = subst IsStripSize c.strip.ensures.value c.strip.ensures.size in
    let apart : (place : Place) → Contains (places_of old.strip Logic) place → Contains (places_of old.strip Pad) place → ⊥ = λ place. c.laws_of_places.ensures.kinds_apart old.strip place size in
    let keys : AllPairs (λ key other. key ≢ other) (keys_of old.packed) = subst (λ (p : PackedCircuit). AllPairs (λ key other. key ≢ other) (keys_of p)) c.packed.ensures (c.laws_of_packing.ensures c.packed.result.now c.laws-2.ensures).keys in
    let placed : ArePlaced old.strip old.packed (places_by_block old) = record { long = c.laws.ensures.long; by_kind = c.laws.ensures.by_kind; one_to_one = c.laws.ensures.one_to_one } in
    pinned_so old (pins_read c.args.pins.now) c.args.pads.now c.as_slice.result.now apart keys placed c.requires.pads (c.as_slice.ensures.value ∙ c.in_ok-places.ensures) c.placed_on-placed.result c.placed_on-placed.ensures
