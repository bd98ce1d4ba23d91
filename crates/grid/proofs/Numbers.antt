-- The number of each place, and that no two places are equal.
use Rattle.grid.proofs.Prelude.{◌≡◌, ◌≢◌, ℕ, ◌+◌, ◌-◌, ◌*◌, ◌/◌, ◌%◌, ◌<◌, ◌≤◌, All, Some, length, get_or, slice_get, ap, ◌∙◌, arith, AllPairs, Contains, div-add-mod', div_below, mul-le, get_or_from_slice_get, slice_get-get_or, mod-lt, Strip, Kind, Logic, Pad, Place, IsStripSize, column_len, place_in, places_of, IsInRow, IsPlaceIn, number_in_column, number_of}
use Rattle.grid.proofs.Columns.{length-places_of, place-at}

-- a column has at least one place, and their number is small
some_in_column : (strip : Strip) (kind : Kind) → IsStripSize strip → 0 < column_len strip kind
some_in_column strip kind lawful = grind arith

pub few_logic : (strip : Strip) → IsStripSize strip → length (places_of strip Logic) ≤ 16384
few_logic strip lawful = omega (arith, length-places_of strip Logic, mul-le strip.width strip.rows 256 64 lawful.width.1 lawful.rows.1)

pub few_pads : (strip : Strip) → IsStripSize strip → length (places_of strip Pad) ≤ 4096
few_pads strip lawful = grind (arith, length-places_of)

pub few_places : (strip : Strip) (kind : Kind) → IsStripSize strip → length (places_of strip kind) ≤ 16384
few_places strip Logic lawful = few_logic strip lawful
few_places strip Pad lawful = omega (arith, few_pads strip lawful)

-- the places of a column are in rows for their kind
in_row : (strip : Strip) (kind : Kind) (x number : ℕ) → number < column_len strip kind → IsInRow strip kind (place_in strip kind x number)
in_row strip kind x number small = grind arith

-- the number of a place in its column is computed correctly
numbered_in : (strip : Strip) (kind : Kind) (x number : ℕ) → number < column_len strip kind → number_in_column strip kind (place_in strip kind x number) ≡ number
numbered_in strip kind x number small = grind arith

column_of_place : (strip : Strip) (kind : Kind) (x number : ℕ) → (place_in strip kind x number).x ≡ x
column_of_place strip kind x number = grind arith

-- the place with this number
record IsNumbered (strip : Strip) (kind : Kind) (number : ℕ) (place : Place) : Type 0 where
  is_in : IsPlaceIn strip kind place
  back : number_of strip kind place ≡ number

numbered : (strip : Strip) (kind : Kind) (number : ℕ) (d : Place) → IsStripSize strip → number < length (places_of strip kind) → IsNumbered strip kind number (get_or (places_of strip kind) number d)
numbered strip kind number d lawful small =
    let len = column_len strip kind in
    let some = some_in_column strip kind lawful in
    let q = number / len in
    let r = number % len in
    let is : get_or (places_of strip kind) number d ≡ place_in strip kind (q + 1) r = get_or_from_slice_get (places_of strip kind) number (place_in strip kind (q + 1) r) d (place-at strip kind number some small) in
    let column : q < strip.width = div_below number len strip.width some (omega (arith, length-places_of strip kind, small)) in
    let below : r < len = mod-lt number some in
    let x_is = column_of_place strip kind (q + 1) r in
    let one : (place_in strip kind (q + 1) r).x - 1 ≡ q = omega (arith, x_is) in
    rw is (record {
      is_in = record { column = (omega (arith, x_is), omega (arith, x_is, column)); row = in_row strip kind (q + 1) r below };
      back = ap (λ (n : ℕ). n * len + number_in_column strip kind (place_in strip kind (q + 1) r)) one ∙ ap (λ (n : ℕ). q * len + n) (numbered_in strip kind (q + 1) r below) ∙ div-add-mod' number len;
    })

pub all_within : (strip : Strip) (kind : Kind) → IsStripSize strip → All (IsPlaceIn strip kind) (places_of strip kind)
all_within strip kind lawful = λ number d small. (numbered strip kind number d lawful small).is_in

-- the number of a place is its index in the list
pub number_found : (strip : Strip) (kind : Kind) (place : Place) → IsStripSize strip → Contains (places_of strip kind) place → (number_of strip kind place < length (places_of strip kind)) × (slice_get (places_of strip kind) (number_of strip kind place) ≡ Some place) × IsPlaceIn strip kind place
number_found strip kind place lawful found = grind (arith, numbered, slice_get-get_or)

pub all_apart : (strip : Strip) (kind : Kind) → IsStripSize strip → AllPairs (λ place other. place ≢ other) (places_of strip kind)
all_apart strip kind lawful i j d before small same = grind (arith, numbered)

-- a row of a logic block is not a row of pads
pub kinds_apart : (strip : Strip) (place : Place) → IsStripSize strip → Contains (places_of strip Logic) place → Contains (places_of strip Pad) place → ⊥
kinds_apart strip place lawful logic pad = grind (arith, number_found strip Logic place lawful logic, number_found strip Pad place lawful pad)

-- the number of a place, with the lengths that the code computed
pub number_by : (strip : Strip) (kind : Kind) (place : Place) (len within : ℕ) → IsStripSize strip → Contains (places_of strip kind) place → len ≡ column_len strip kind → within ≡ number_in_column strip kind place → slice_get (places_of strip kind) ((place.x - 1) * len + within) ≡ Some place
number_by strip kind place len within lawful found len_is within_is = grind (arith, number_found)
