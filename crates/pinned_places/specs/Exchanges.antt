-- The places after pads went to the places that are wanted for them.
use Rattle.std.specs.Prelude.{List, [], ◌∷◌, map}
use Rattle.pinned_places.specs.Prelude.{Place, place_of, place_after}
use Rattle.pinned_places.specs.declared.pads.FixedPad.{FixedPad}

-- the places after a pad went to its place, and a block that was there to the pad's
abbrev pub with_pad : FixedPad → List Place → List Place
with_pad pad places = map (place_after (place_of places pad.block) pad.place) places

-- the places after all pads, one after another
unfoldable pub with_pads : List FixedPad → List Place → List Place
with_pads [] places = places
with_pads (pad ∷ pads) places = with_pads pads (with_pad pad places)
