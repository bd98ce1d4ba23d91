-- Places by column and by their number in the column.
use Rattle.grid.proofs.Prelude.{◌≡◌, ℕ, ◌+◌, ◌*◌, ◌/◌, ◌%◌, ◌<◌, List, [], ◌∷◌, length, take, get_or, slice_get, Some, sym, ap, ◌∙◌, arith, length-append, length-take-le, flat_map, range_with_len, get_or_append_left, get_or-append_right, get_or-flat_map, length-range_with_len, get_or-range_with_len, length-map-range_with_len, get_or-map-range_with_len, div-add-mod', div_below, slice_get-get_or, mod-lt, Strip, Kind, Place, column_len, column_of, place_at, place_in, places_of}

-- pieces of equal length
length_even : {X Y : Type 0} (f : X → List Y) (n : ℕ) → ((x : X) → length (f x) ≡ n) → (xs : List X) → length (flat_map f xs) ≡ length xs * n
length_even f n even [] = omega arith
length_even f n even (x ∷ xs) = let one = even x in let rest = length_even f n even xs in omega (arith, length-append (f x) (flat_map f xs))

-- the element at an index of a piece
get_even : {X Y : Type 0} (f : X → List Y) (n : ℕ) → ((x : X) → length (f x) ≡ n) → (xs : List X) (q r : ℕ) (e : X) (d : Y) → q < length xs → r < n → get_or (flat_map f xs) (q * n + r) d ≡ get_or (f (get_or xs q e)) r d
get_even f n even xs q r e d within below = grind (arith, length-take-le, get_or-flat_map, length_even f n even (take q xs), length-take-le q xs (omega arith), get_or-flat_map f xs q r e d within (omega arith))

-- each column has the same number of places
pub column-len : (strip : Strip) (kind : Kind) (x : ℕ) → length (column_of strip kind x) ≡ column_len strip kind
column-len strip kind x = grind (arith, length-map-range_with_len, length-append)

-- the number of places
pub length-places_of : (strip : Strip) (kind : Kind) → length (places_of strip kind) ≡ strip.width * column_len strip kind
unfolding places_of
length-places_of strip kind = grind (arith, column-len, length-range_with_len, length_even (column_of strip kind) (column_len strip kind) (column-len strip kind) (range_with_len 1 strip.width), column-len strip kind, length-range_with_len 1 strip.width)

-- the place at an index of a column
in_column : (strip : Strip) (kind : Kind) (x number : ℕ) (d : Place) → number < column_len strip kind → get_or (column_of strip kind x) number d ≡ place_in strip kind x number
in_column strip kind x number d below = grind (arith, get_or-map-range_with_len, length-map-range_with_len, get_or_append_left, get_or-append_right)

-- the place at an index
pub place-at : (strip : Strip) (kind : Kind) (number : ℕ) → 0 < column_len strip kind → number < length (places_of strip kind)
    → slice_get (places_of strip kind) number ≡ Some (place_in strip kind (number / column_len strip kind + 1) (number % column_len strip kind))
unfolding places_of
place-at strip kind number some within =
    let len = column_len strip kind in
    let q = number / len in
    let r = number % len in
    let d = place_at 0 0 0 in
    let count = length-places_of strip kind in
    let column : q < strip.width = div_below number len strip.width some (omega arith) in
    let below : r < len = mod-lt number some in
    let split : q * len + r ≡ number = div-add-mod' number len in
    let here : q < length (range_with_len 1 strip.width) = (let long = length-range_with_len 1 strip.width in omega arith) in
    slice_get-get_or (places_of strip kind) number d within
    ∙ ap Some (ap (λ k. get_or (places_of strip kind) k d) (sym split)
    ∙ get_even (column_of strip kind) len (column-len strip kind) (range_with_len 1 strip.width) q r 0 d here below
    ∙ ap (λ x. get_or (column_of strip kind x) r d) (get_or-range_with_len 1 strip.width q 0 column ∙ omega arith)
    ∙ in_column strip kind (q + 1) r d below)

-- the place at an index, with the column length that the code computed
pub place_found : (strip : Strip) (kind : Kind) (number len : ℕ) → len ≡ column_len strip kind → 0 < len → number < length (places_of strip kind)
    → slice_get (places_of strip kind) number ≡ Some (place_in strip kind (number / len + 1) (number % len))
place_found strip kind number len e some within = grind (arith, place-at)

-- the computed column is one of the strip's
pub column_found : (strip : Strip) (kind : Kind) (number len : ℕ) → len ≡ column_len strip kind → 0 < len → number < length (places_of strip kind) → number / len < strip.width
column_found strip kind number len e some within = grind (arith, length-places_of)
