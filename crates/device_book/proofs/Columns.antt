-- How many places of each column are owned, and how a write changes that.
use Rattle.device_book.proofs.Prelude.{◌≡◌, ◌≢◌, ℕ, zero, suc, ◌+◌, ◌-◌, ◌*◌, ◌<◌, ◌≤◌, List, [], ◌∷◌, length, get_or, take, drop, replicate, Bool, true, cond, Option, None, refl, inl, inr, ap, subst, ◌∙◌, arith, length-set, length-drop, get_or-set_same, get_or-set_other, is_some, All, count_by, from_bool, set, mul-le-mul_right, mul-le, cases_lt, drop-set-add, drop-set-lt, get_or-drop, get_or-replicate, get_or_read, get_or-take, length-replicate, length-take-le, take-set-le, All-drop, All-replicate, All-take, count_by-le-length, get_or-le-sum_by, sum_by-le, sum_by-set, Resource, resource_rank, Extent, IsWhole, column_size, owned_in, IsBook, IsExtent, in_book, number_of, size_of}
use Rattle.device_book.proofs.Places.{digit_below, is_in, place_within, rank_below}

-- a part of a list, after a write before it, after it or within it
take-set-lt : (n : ℕ) (xs : List (Option ℕ)) (i : ℕ) (y : Option ℕ) → i < n → take n (set xs i y) ≡ set (take n xs) i y
take-set-lt zero xs i y lt = absurd (omega (arith, lt))
take-set-lt (suc n) [] i y lt = refl
take-set-lt (suc n) (x ∷ xs) zero y lt = refl
take-set-lt (suc n) (x ∷ xs) (suc i) y lt = ap (λ l. x ∷ l) (take-set-lt n xs i y (omega (arith, lt)))

part-set_before : (m n i : ℕ) (xs : List (Option ℕ)) (y : Option ℕ) → i < m → take n (drop m (set xs i y)) ≡ take n (drop m xs)
part-set_before m n i xs y lt = ap (take n) (drop-set-lt m xs i y lt)

part-set_behind : (m n i : ℕ) (xs : List (Option ℕ)) (y : Option ℕ) → m + n ≤ i → take n (drop m (set xs i y)) ≡ take n (drop m xs)
part-set_behind m n i xs y le = grind (arith, drop-set-add m xs (i - m) y, take-set-le n (drop m xs) (i - m) y (omega (arith, le)))

part-set_within : (m n i : ℕ) (xs : List (Option ℕ)) (y : Option ℕ) → i < n → take n (drop m (set xs (m + i) y)) ≡ set (take n (drop m xs)) i y
part-set_within m n i xs y lt = ap (take n) (drop-set-add m xs i y) ∙ take-set-lt n (drop m xs) i y lt

get_or-part : (m n i : ℕ) (xs : List (Option ℕ)) → i < n → get_or (take n (drop m xs)) i None ≡ get_or xs (m + i) None
get_or-part m n i xs lt = get_or-take n (drop m xs) i None lt ∙ get_or-drop m xs i None

length-part : (m n : ℕ) (xs : List (Option ℕ)) → m + n ≤ length xs → length (take n (drop m xs)) ≡ n
length-part m n xs le = length-take-le n (drop m xs) (let dropped = length-drop m xs in omega (arith, le, dropped))

-- what one owner adds to the count
abbrev one : Option ℕ → ℕ
one owner = cond (is_some owner) 1 0

one_few : (owner : Option ℕ) → one owner ≤ 1
one_few owner = grind arith

count-part-set : (m n i : ℕ) (xs : List (Option ℕ)) (y : Option ℕ) → i < n → m + n ≤ length xs →
    count_by is_some (take n (drop m (set xs (m + i) y))) + one (get_or xs (m + i) None) ≡ count_by is_some (take n (drop m xs)) + one y
count-part-set m n i xs y lt le = grind (arith, length-part, part-set_within, get_or-part, sum_by-set)

-- the index of a resource within its column
abbrev rest_of : Extent → Resource → ℕ
rest_of extent resource = (resource_rank resource.kind * (extent.rows + 2) + resource.y) * extent.numbers + resource.n

in_column : (extent : Extent) (resource : Resource) → number_of extent resource ≡ resource.x * column_size extent + rest_of extent resource
in_column extent resource = omega arith

rest_below : (extent : Extent) (resource : Resource) → in_book extent resource ≡ true → rest_of extent resource < column_size extent
rest_below extent resource is =
    let there = is_in extent resource is in
    digit_below (resource_rank resource.kind * (extent.rows + 2) + resource.y) resource.n (5 * (extent.rows + 2)) extent.numbers
    (digit_below (resource_rank resource.kind) resource.y 5 (extent.rows + 2) (rank_below resource.kind) there.y) there.n

-- a column ends before the next begins, and the last one ends with the book
next_column : (a b size : ℕ) → a < b → a * size + size ≤ b * size
next_column a b size lt = let step : (a + 1) * size ≤ b * size = mul-le-mul_right size (omega (arith, lt)) in omega (arith, step)

column_within : (extent : Extent) (column : ℕ) → column ≤ extent.columns → column * column_size extent + column_size extent ≤ size_of extent
column_within extent column few = grind arith

pub column_place : (extent : Extent) (column size place : ℕ) → column ≤ extent.columns → size ≡ column_size extent → place < (column + 1) * size → place < size_of extent
column_place extent column size place few same lt = grind (arith, column_within extent column few)

-- a write counts in its own column
owned_in-set_here : (extent : Extent) (owners : List (Option ℕ)) (resource : Resource) (value : Option ℕ) → length owners ≡ size_of extent → in_book extent resource ≡ true →
    owned_in extent (set owners (number_of extent resource) value) resource.x + one (get_or owners (number_of extent resource) None) ≡ owned_in extent owners resource.x + one value
unfolding owned_in
owned_in-set_here extent owners resource value long is = grind (arith, column_within, in_column, count-part-set, rest_below)

owned_in-set_other : (extent : Extent) (owners : List (Option ℕ)) (resource : Resource) (value : Option ℕ) (column : ℕ) → in_book extent resource ≡ true → column ≢ resource.x →
    owned_in extent (set owners (number_of extent resource) value) column ≡ owned_in extent owners column
unfolding owned_in
owned_in-set_other extent owners resource value column is ne =
    let size = column_size extent in
    let at = in_column extent resource in
    let rest = rest_below extent resource is in
    let same : take size (drop (column * size) (set owners (number_of extent resource) value)) ≡ take size (drop (column * size) owners) = elim (cases_lt column resource.x) [
      | inl lt ↦ (let step = next_column column resource.x size lt in part-set_behind (column * size) size (number_of extent resource) owners value (omega (arith, at, step)))
      | inr ge ↦ (let step = next_column resource.x column size (omega (arith, ge, ne)) in part-set_before (column * size) size (number_of extent resource) owners value (omega (arith, at, rest, step)))
    ] in
    ap (count_by is_some) same

-- the count of a column, at most, and if one of its places is owned
few_owned : (extent : Extent) (owners : List (Option ℕ)) (column : ℕ) → IsBook extent owners → column ≤ extent.columns → owned_in extent owners column ≤ 47850
unfolding owned_in
few_owned extent owners column book within = grind (arith, column_within, count_by-le-length, length-part, mul-le)

one_within : (extent : Extent) (owners : List (Option ℕ)) (column place : ℕ) → length owners ≡ size_of extent → column ≤ extent.columns → column * column_size extent ≤ place → place < column * column_size extent + column_size extent →
    one (get_or owners place None) ≤ owned_in extent owners column
unfolding owned_in
one_within extent owners column place long within ge lt =
    let start = column * column_size extent in
    let at : start + (place - start) ≡ place = omega (arith, ge) in
    let ends = column_within extent column within in
    let few : length (take (column_size extent) (drop start owners)) ≡ column_size extent = length-part start (column_size extent) owners (omega (arith, ends, long)) in
    subst (λ o. one o ≤ count_by is_some (take (column_size extent) (drop start owners)))
    (get_or-part start (column_size extent) (place - start) owners (omega (arith, ge, lt)) ∙ ap (λ k. get_or owners k None) at)
    (get_or-le-sum_by one (take (column_size extent) (drop start owners)) (place - start) None (omega (arith, ge, lt, few)))

one_counted : (extent : Extent) (owners : List (Option ℕ)) (resource : Resource) → length owners ≡ size_of extent → in_book extent resource ≡ true →
    one (get_or owners (number_of extent resource) None) ≤ owned_in extent owners resource.x
one_counted extent owners resource long is = grind (arith, in_column, rest_below, one_within)

-- a write, and the column's new count
counted-set : (extent : Extent) (owners : List (Option ℕ)) (used : List ℕ) (resource : Resource) (value : Option ℕ) (count : ℕ) → IsWhole extent owners used → in_book extent resource ≡ true →
    count + one (get_or owners (number_of extent resource) None) ≡ get_or used resource.x 0 + one value → IsWhole extent (set owners (number_of extent resource) value) (set used resource.x count)
counted-set extent owners used resource value count whole is e = grind (arith, length-set, get_or-set_same, owned_in-set_here, get_or-set_other, owned_in-set_other)

-- a resource's place and its column before a write there: the count, and what the new owner and the
-- old one add to it
pub record Sees (extent : Extent) (owners : List (Option ℕ)) (used : List ℕ) (resource : Resource) (value : Option ℕ) (count is was : ℕ) : Type 0 where
  pub counted : count ≡ get_or used resource.x 0
  pub written : is ≡ one value
  pub stood : was ≡ one (get_or owners (number_of extent resource) None)

pub sees : (extent : Extent) (owners : List (Option ℕ)) (used : List ℕ) (resource : Resource) (value : Option ℕ) (place : ℕ) (before : Option ℕ) (is_some_now was_some : Bool) (count is was : ℕ) → IsWhole extent owners used →
    in_book extent resource ≡ true → place ≡ number_of extent resource → before ≡ get_or owners place before → count ≡ get_or used resource.x count →
    is_some_now ≡ is_some value → is ≡ from_bool is_some_now → was_some ≡ is_some before → was ≡ from_bool was_some → Sees extent owners used resource value count is was
sees extent owners used resource value place before is_some_now was_some count is was whole there at read count_read now now_counts then then_counts = grind (arith, get_or_read, is_in, place_within)

pub count_fits : (extent : Extent) (owners : List (Option ℕ)) (used : List ℕ) (resource : Resource) (value : Option ℕ) (count is was : ℕ) → IsWhole extent owners used → in_book extent resource ≡ true →
    Sees extent owners used resource value count is was → (count + is ≤ 47851) × (was ≤ count + is)
count_fits extent owners used resource value count is was whole there seen = grind (arith, few_owned, one_counted)

pub counted_anew : (extent : Extent) (owners : List (Option ℕ)) (used : List ℕ) (resource : Resource) (value : Option ℕ) (count is was : ℕ) → IsWhole extent owners used → in_book extent resource ≡ true →
    Sees extent owners used resource value count is was → IsWhole extent (set owners (number_of extent resource) value) (set used resource.x (count + is - was))
counted_anew extent owners used resource value count is was whole there seen =
    let fits = (count_fits extent owners used resource value count is was whole there seen).1 in
    let at = seen.counted in
    let written = seen.written in
    let stood = seen.stood in
    counted-set extent owners used resource value (count + is - was) whole there (omega (arith, fits, at, written, stood))

-- nobody owns a place of a column whose count is 0
pub nobody_in : (extent : Extent) (owners : List (Option ℕ)) (column place : ℕ) → length owners ≡ size_of extent → column ≤ extent.columns → owned_in extent owners column ≡ 0 →
    column * column_size extent ≤ place → place < (column + 1) * column_size extent → get_or owners place None ≡ None
nobody_in extent owners column place long within none ge lt = grind (arith, one_within extent owners column place long within ge (omega (arith, lt)))

-- in a new book nobody owns anything
pub owned_in-nobody : (extent : Extent) (places column : ℕ) → owned_in extent (replicate places None) column ≡ 0
unfolding owned_in
owned_in-nobody extent places column =
    let part = take (column_size extent) (drop (column * column_size extent) (replicate {A = Option ℕ} places None)) in
    let none : All (λ o. one o ≤ 0) part = All-take (λ o. one o ≤ 0) (column_size extent) _ (All-drop (λ o. one o ≤ 0) (column * column_size extent) _ (All-replicate (λ o. one o ≤ 0) places None (omega arith))) in
    let all = sum_by-le one 0 part none in
    omega (arith, all)

pub whole_nobody : (extent : Extent) (owners : List (Option ℕ)) (used : List ℕ) → IsExtent extent → owners ≡ replicate (size_of extent) None → used ≡ replicate (extent.columns + 1) 0 → IsWhole extent owners used
whole_nobody extent owners used small free zeros = grind (arith, length-replicate, get_or-replicate, owned_in-nobody)
