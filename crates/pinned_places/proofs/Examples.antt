-- Examples of pads and of their exchanges.
use Rattle.pinned_places.proofs.Prelude.{◌≡◌, List, [], ◌∷◌, true, false, codes, Some, None, Ok, Err, refl, InputPad, OutputPad, Strip, Place, place_at, Pin, with_pads, is_named_by, is_pad_place, pad_by, NamedBefore, NoPad, NoPlace, TakenBefore, FixedPad}
use Rattle.cluster.specs.declared.block.BlockKind.TheVariants.{Cluster}

-- an output has two names, an input one, a cluster none
output : is_named_by OutputPad (codes "f") (codes "f") ≡ true
output = refl

with_out : is_named_by OutputPad (codes "f") (codes "out:f") ≡ true
with_out = refl

input : is_named_by InputPad (codes "f") (codes "out:f") ≡ false
input = refl

cluster : is_named_by Cluster (codes "f") (codes "f") ≡ false
cluster = refl

-- a strip of three columns and two rows, with two pads at each end of a column
abbrev small : Strip
small = record { width = 3; rows = 2; io_rat = 2 }

above : is_pad_place small (place_at 3 3 1) ≡ true
above = refl

third_pad : is_pad_place small (place_at 3 0 2) ≡ false
third_pad = refl

among_blocks : is_pad_place small (place_at 1 1 0) ≡ false
among_blocks = refl

-- a pin that is met, and the four that are not
abbrev earlier : List FixedPad
earlier = record { line = 4; block = 7; place = place_at 1 0 0 } ∷ []

abbrev pin_to : Place → Pin
pin_to place = record { line = 9; name = codes "f"; place = place }

met : pad_by small earlier (pin_to (place_at 2 0 0)) (Some 8) ≡ Ok (record { line = 9; block = 8; place = place_at 2 0 0 })
met = refl

no_name : pad_by small earlier (pin_to (place_at 2 0 0)) None ≡ Err (record { line = 9; kind = NoPad })
no_name = refl

no_place : pad_by small earlier (pin_to (place_at 2 1 0)) (Some 8) ≡ Err (record { line = 9; kind = NoPlace })
no_place = refl

named : pad_by small earlier (pin_to (place_at 2 0 0)) (Some 7) ≡ Err (record { line = 9; kind = NamedBefore 4 })
named = refl

taken : pad_by small earlier (pin_to (place_at 1 0 0)) (Some 8) ≡ Err (record { line = 9; kind = TakenBefore 4 })
taken = refl

-- a pad goes to the place of another, and then one to a free place
exchanged : with_pads (record { line = 1; block = 0; place = place_at 2 0 0 } ∷ record { line = 2; block = 1; place = place_at 3 3 0 } ∷ []) (place_at 1 0 0 ∷ place_at 2 0 0 ∷ []) ≡ place_at 2 0 0 ∷ place_at 3 3 0 ∷ []
unfolding with_pads
exchanged = refl
