-- Block nets whose readers are stored in one list, to which readers are appended.
use Rattle.cluster.proofs.Prelude.{◌≡◌, ℕ, Bool, List, [], ◌∷◌, ◌++◌, length, map, refl, arith, map_push, NetSpan, net_at, AreNetsWithin, part_of-append, part_of-added}

-- the nets whose readers are within the list are unchanged
nets-append : (xs ys : List ℕ) (nets : List NetSpan) → AreNetsWithin (length xs) nets → map (net_at (xs ++ ys)) nets ≡ map (net_at xs) nets
nets-append xs ys [] within = refl
nets-append xs ys (net ∷ nets) within = grind (arith, part_of-append, nets-append xs ys nets within.1)

-- the nets with one more, whose readers were appended to the list
pub nets_push : (xs ys : List ℕ) (nets : List NetSpan) (net driver start end : ℕ) (global : Bool) → AreNetsWithin (length xs) nets → start ≡ length xs → end ≡ length (xs ++ ys) → map (net_at (xs ++ ys)) (nets ++ record { net = net; driver = driver; readers = record { start = start; end = end }; global = global } ∷ []) ≡ map (net_at xs) nets ++ record { net = net; driver = driver; readers = ys; global = global } ∷ []
nets_push xs ys nets net driver start end global within starts ends = grind (arith, map_push, nets-append, part_of-added)
