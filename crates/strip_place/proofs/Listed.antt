-- Rows in one list, by their bounds.
use Rattle.strip_place.proofs.Prelude.{◌≡◌, ℕ, ◌+◌, ◌-◌, ◌<◌, ◌≤◌, ◌^◌, List, [], ◌∷◌, ◌++◌, length, take, drop, get_or, sym, ap, ◌∙◌, arith, length-append, Some, slice_get, drop_at, drop-append-le, ext_get_or, get_or_append_left, get_or_push, length-drop, length_push, take-append-le, take_all, slice_get-get_or, get_or-map-range_with_len, length-map-range_with_len, AreCopied, AreSmall, row_at, rows_of, AreNets, net_at, touching_of}
use Rattle.strip_place.proofs.Touches.{length-touching_of, touched_few, touching_at}

-- a part of a list is unchanged if more numbers follow the list
part_kept : (numbers more : List ℕ) (start end : ℕ) → start ≤ end → end ≤ length numbers → take (end - start) (drop start (numbers ++ more)) ≡ take (end - start) (drop start numbers)
part_kept numbers more start end rises within = grind (arith, drop-append-le, take-append-le, length-drop)

-- one row more is copied
module _ (rows : List (List ℕ)) (count : ℕ) (numbers bounds row : List ℕ) (are : AreCopied rows count numbers bounds) (here : net_at rows count ≡ row) (short : length row ≤ 65536) where
  abbrev pub next : List ℕ
  next = bounds ++ length (numbers ++ row) ∷ []

  before : (k : ℕ) → k < count + 1 → get_or next k 0 ≡ get_or bounds k 0
  before k lt = get_or_append_left bounds (length (numbers ++ row) ∷ []) 0 k (omega (arith, are.long))

  last : get_or next (count + 1) 0 ≡ length (numbers ++ row)
  last = get_or_push bounds (length (numbers ++ row)) 0 (count + 1) are.long

  start : get_or next count 0 ≡ length numbers
  start = before count (omega arith) ∙ are.end

  longer : length (numbers ++ row) ≡ length numbers + length row
  longer = length-append numbers row

  pub copied_more : AreCopied rows (count + 1) (numbers ++ row) next
  copied_more = grind (arith, length_push, last, longer, before, part_kept, drop_at, take_all)

pub copied_none : (rows : List (List ℕ)) (numbers bounds : List ℕ) → numbers ≡ [] → bounds ≡ 0 ∷ [] → AreCopied rows 0 numbers bounds
copied_none rows numbers bounds none first = grind arith

-- a row lies between two bounds
rows_long : (numbers bounds : List ℕ) → length (rows_of numbers bounds) ≡ length bounds - 1
rows_long numbers bounds = length-map-range_with_len (row_at numbers bounds) 0 (length bounds - 1)

pub bound_next : (numbers bounds : List ℕ) (rows : List (List ℕ)) (number : ℕ) → rows_of numbers bounds ≡ rows → number < length rows → number + 1 < length bounds
bound_next numbers bounds rows number same lt = omega (arith, ap length same, rows_long numbers bounds)

pub row_read : (numbers bounds : List ℕ) (rows : List (List ℕ)) (number : ℕ) → rows_of numbers bounds ≡ rows → number < length rows → slice_get rows number ≡ Some (row_at numbers bounds number)
row_read numbers bounds rows number same lt =
    let next = bound_next numbers bounds rows number same lt in
    let at : get_or rows number [] ≡ row_at numbers bounds number = ap (λ (r : List (List ℕ)). get_or r number []) (sym same) ∙ get_or-map-range_with_len (row_at numbers bounds) 0 (length bounds - 1) number number [] (omega arith) (omega arith) in
    slice_get-get_or rows number [] lt ∙ ap Some at

-- all rows are copied
pub copied_all : (rows : List (List ℕ)) (numbers bounds : List ℕ) → AreCopied rows (length rows) numbers bounds → rows_of numbers bounds ≡ rows
copied_all rows numbers bounds are = ext_get_or [] (rows_of numbers bounds) rows (rows_long numbers bounds ∙ count) (λ k lt. (let inside : k < length bounds - 1 = omega (arith, lt, rows_long numbers bounds) in
    get_or-map-range_with_len (row_at numbers bounds) 0 (length bounds - 1) k k [] inside (omega arith) ∙ are.each k (omega (arith, count))))
  where
    count : length bounds - 1 ≡ length rows
    count = omega (arith, are.long)

-- nets are few and short, and so are the rows of the nets by block
pub small_nets : (blocks : ℕ) (nets : List (List ℕ)) → AreNets blocks nets → AreSmall nets
small_nets blocks nets lawful = record { few = omega (arith, lawful.few); short = λ number lt. omega (arith, lawful.short number lt) }

pub small_touching : (nets : List (List ℕ)) (blocks : ℕ) → AreNets blocks nets → blocks < 2 ^ 16 → AreSmall (touching_of nets blocks)
small_touching nets blocks lawful few = record {
  few = omega (arith, length-touching_of nets blocks, few);
  short = λ block lt.
      omega (arith, touched_few nets block (net_at (touching_of nets blocks) block) (touching_at nets blocks block lawful (omega (arith, lt, length-touching_of nets blocks))), lawful.few);
}
