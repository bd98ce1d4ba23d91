-- BLEs whose inputs are stored in one list, to which inputs are appended.
use Rattle.ble_cluster.proofs.Prelude.{◌≡◌, ℕ, List, [], ◌∷◌, ◌++◌, Option, length, map, refl, arith, map_push, BleSpan, ble_at, AreBlesWithin, part_of-append, part_of-added}

-- the BLEs whose inputs are within the list are unchanged
bles-append : (xs ys : List ℕ) (bles : List BleSpan) → AreBlesWithin (length xs) bles → map (ble_at (xs ++ ys)) bles ≡ map (ble_at xs) bles
bles-append xs ys [] within = refl
bles-append xs ys (ble ∷ bles) within = grind (arith, part_of-append, bles-append xs ys bles within.1)

-- the BLEs with one more, whose inputs were appended to the list
pub bles_push : (xs ys : List ℕ) (bles : List BleSpan) (start end output : ℕ) (clock : Option ℕ) → AreBlesWithin (length xs) bles → start ≡ length xs → end ≡ length (xs ++ ys) → map (ble_at (xs ++ ys)) (bles ++ record { inputs = record { start = start; end = end }; output = output; clock = clock } ∷ []) ≡ map (ble_at xs) bles ++ record { inputs = ys; output = output; clock = clock } ∷ []
bles_push xs ys bles start end output clock within starts ends = grind (arith, map_push, bles-append, part_of-added)
