-- Each resource has a place of its own.
use Rattle.device_book.proofs.Prelude.{◌≡◌, ℕ, ◌+◌, ◌*◌, ◌/◌, ◌%◌, ◌<◌, ◌≤◌, List, [], ◌∷◌, length, get_or, map, take, ◌||◌, Bool, true, false, Option, inl, inr, ◌⊎◌, sym, ap, ◌∙◌, arith, get_or-set_same, get_or-set_other, if◌then◌else◌, set, div-lt_iff_lt-mul, mul-le-mul_right, div-add-mod', div-mul-add, mod-mul-add, mod_below, nat_tests, and_from, cases_lt, cases_eq, le-leb, lt-ltb, map_more, list_any-append, ResourceKind, Resource, IsEarlier, is_same, moved_resource, resource_rank, Extent, AreOwned, Owners, owner_of, in_book, number_of, size_of}

or_false : (b : Bool) → (b || false) ≡ b
or_false b = grind arith

pub rank_below : (kind : ResourceKind) → resource_rank kind < 5
rank_below kind = grind arith

-- the bounds of a resource of the book
pub record IsIn (extent : Extent) (resource : Resource) : Type 0 where
  pub x : resource.x ≤ extent.columns
  pub y : resource.y < extent.rows + 2
  pub n : resource.n < extent.numbers

pub is_in : (extent : Extent) (resource : Resource) → in_book extent resource ≡ true → IsIn extent resource
is_in extent resource is = record { x = grind (arith, nat_tests); y = grind (arith, nat_tests); n = grind (arith, nat_tests) }

-- a two-digit number is below the product of its bases
pub digit_below : (a b m n : ℕ) → a < m → b < n → a * n + b < m * n
digit_below a b m n la lb = grind arith

same_low : (a b c d n : ℕ) → b < n → d < n → a * n + b ≡ c * n + d → b ≡ d
same_low a b c d n lb ld e = sym (mod-mul-add a n b lb) ∙ ap (λ t. t % n) e ∙ mod-mul-add c n d ld

same_high : (a b c d n : ℕ) → b < n → d < n → a * n + b ≡ c * n + d → a ≡ c
same_high a b c d n lb ld e = sym (div-mul-add a n b lb) ∙ ap (λ t. t / n) e ∙ div-mul-add c n d ld

-- the place is one of the book's
pub place_within : (extent : Extent) (resource : Resource) → in_book extent resource ≡ true → number_of extent resource < size_of extent
place_within extent resource is =
    let there = is_in extent resource is in
    let rank = rank_below resource.kind in
    let column : resource.x * 5 + resource_rank resource.kind < (extent.columns + 1) * 5 = omega (arith, there.x, rank) in
    digit_below ((resource.x * 5 + resource_rank resource.kind) * (extent.rows + 2) + resource.y) resource.n ((extent.columns + 1) * 5 * (extent.rows + 2)) extent.numbers
    (digit_below (resource.x * 5 + resource_rank resource.kind) resource.y ((extent.columns + 1) * 5) (extent.rows + 2) column there.y) there.n

-- two resources with one place are equal
same_place : (extent : Extent) (a b : Resource) → in_book extent a ≡ true → in_book extent b ≡ true → number_of extent a ≡ number_of extent b → is_same a b ≡ true
same_place extent a b in_a in_b e =
    let of_a = is_in extent a in_a in
    let of_b = is_in extent b in_b in
    let row : (a.x * 5 + resource_rank a.kind) * (extent.rows + 2) + a.y ≡ (b.x * 5 + resource_rank b.kind) * (extent.rows + 2) + b.y =
    same_high ((a.x * 5 + resource_rank a.kind) * (extent.rows + 2) + a.y) a.n ((b.x * 5 + resource_rank b.kind) * (extent.rows + 2) + b.y) b.n extent.numbers of_a.n of_b.n e in
    let n : a.n ≡ b.n =
    same_low ((a.x * 5 + resource_rank a.kind) * (extent.rows + 2) + a.y) a.n ((b.x * 5 + resource_rank b.kind) * (extent.rows + 2) + b.y) b.n extent.numbers of_a.n of_b.n e in
    let y : a.y ≡ b.y = same_low (a.x * 5 + resource_rank a.kind) a.y (b.x * 5 + resource_rank b.kind) b.y (extent.rows + 2) of_a.y of_b.y row in
    let column : a.x * 5 + resource_rank a.kind ≡ b.x * 5 + resource_rank b.kind = same_high (a.x * 5 + resource_rank a.kind) a.y (b.x * 5 + resource_rank b.kind) b.y (extent.rows + 2) of_a.y of_b.y row in
    let x : a.x ≡ b.x = omega (arith, column, rank_below a.kind, rank_below b.kind) in
    let rank : resource_rank a.kind ≡ resource_rank b.kind = omega (arith, column, x) in
    grind (arith, nat_tests)

-- a resource equal to one of the book is in the book, at that one's place
record IsSame (a b : Resource) : Type 0 where
  x : a.x ≡ b.x
  rank : resource_rank a.kind ≡ resource_rank b.kind
  y : a.y ≡ b.y
  n : a.n ≡ b.n

same_parts : (a b : Resource) → is_same a b ≡ true → IsSame a b
same_parts a b is = record { x = grind (arith, nat_tests); rank = grind (arith, nat_tests); y = grind (arith, nat_tests); n = grind (arith, nat_tests) }

same_number : (extent : Extent) (a b : Resource) → is_same a b ≡ true → number_of extent a ≡ number_of extent b
same_number extent a b is = grind (arith, same_parts)

same_there : (extent : Extent) (a b : Resource) → is_same a b ≡ true → in_book extent b ≡ true → in_book extent a ≡ true
same_there extent a b is there = let same = same_parts a b is in grind (arith, nat_tests)

-- a write at a resource's place
pub owner_of-set : (extent : Extent) (owners : List (Option ℕ)) (resource : Resource) (value : Option ℕ) (other : Resource) → length owners ≡ size_of extent → in_book extent resource ≡ true
    → owner_of (record { extent = extent; owners = set owners (number_of extent resource) value }) other ≡ (if is_same other resource then value else owner_of (record { extent = extent; owners = owners }) other)
owner_of-set extent owners resource value other long is = search (same_there, same_number, place_within, get_or-set_same, get_or-set_other, same_place, arith)

-- a write to one resource changes its owner and no other
pub write_one : (extent : Extent) (owners : List (Option ℕ)) (resource : Resource) (value : Option ℕ) → length owners ≡ size_of extent → in_book extent resource ≡ true →
    AreOwned (record { extent = extent; owners = owners }) (resource ∷ []) value (record { extent = extent; owners = set owners (number_of extent resource) value })
write_one extent owners resource value long there = grind (arith, owner_of-set, or_false)

-- after one more write, one more resource has the owner
pub write_more : (old now next : Owners) (offset : ℕ) (resources : List Resource) (index : ℕ) (value : Option ℕ) (d : Resource) → index < length resources →
    AreOwned old (map (moved_resource offset) (take index resources)) value now → AreOwned now (moved_resource offset (get_or resources index d) ∷ []) value next →
    AreOwned old (map (moved_resource offset) (take (index + 1) resources)) value next
write_more old now next offset resources index value d lt owned more = grind (arith, list_any-append, map_more (moved_resource offset) resources index d lt)

-- kinds of equal rank are equal
same_kind : (a b : ResourceKind) → resource_rank a ≡ resource_rank b → a ≡ b
same_kind a b e = grind arith

abbrev pub make : ℕ → ResourceKind → ℕ → ℕ → Resource
make x kind y n = record { x = x; kind = kind; y = y; n = n }

-- resources that compare equal are equal
pub same_resource : (a b : Resource) → is_same a b ≡ true → a ≡ b
same_resource a b is = grind arith

-- a place has one resource
pub one_resource : (extent : Extent) (a b : Resource) → in_book extent a ≡ true → in_book extent b ≡ true → number_of extent a ≡ number_of extent b → a ≡ b
one_resource extent a b in_a in_b e = same_resource a b (same_place extent a b in_a in_b e)

-- the high digits order two-digit numbers, and the low ones if the high are equal
by_digits : (a b c d n : ℕ) → b < n → d < n → a * n + b < c * n + d → (a < c) ⊎ ((a ≡ c) × (b < d))
by_digits a b c d n lb ld lt = elim (cases_lt a c) [
  | inl less ↦ inl less
  | inr ge ↦ elim (cases_eq a c) [
    | inl e ↦ inr (e, (let same : a * n ≡ c * n = ap (λ t. t * n) e in omega (arith, lt, same)))
    | inr ne ↦ (let above : c + 1 ≤ a = omega (arith, ge, ne) in
        let step : (c + 1) * n ≤ a * n = mul-le-mul_right n above in
        absurd (omega (arith, lt, step, lb, ld)))
  ]
]

-- places are in node order
pub earlier_place : (extent : Extent) (a b : Resource) → in_book extent a ≡ true → in_book extent b ≡ true → number_of extent a < number_of extent b → IsEarlier a b
earlier_place extent a b in_a in_b lt =
    let of_a = is_in extent a in_a in
    let of_b = is_in extent b in_b in
    let column_a = a.x * 5 + resource_rank a.kind in
    let column_b = b.x * 5 + resource_rank b.kind in
    elim (by_digits (column_a * (extent.rows + 2) + a.y) a.n (column_b * (extent.rows + 2) + b.y) b.n extent.numbers of_a.n of_b.n lt) [
      | inl row ↦ elim (by_digits column_a a.y column_b b.y (extent.rows + 2) of_a.y of_b.y row) [
        | inl column ↦ by_column a b column
        | inr same ↦ by_parts a b same.0 (inl same.1)
      ]
      | inr same_row ↦ (let row : column_a * (extent.rows + 2) + a.y ≡ column_b * (extent.rows + 2) + b.y = same_row.0 in
          by_parts a b (same_high column_a a.y column_b b.y (extent.rows + 2) of_a.y of_b.y row) (inr (same_low column_a a.y column_b b.y (extent.rows + 2) of_a.y of_b.y row, same_row.1)))
    ]
  where
    by_column : (a b : Resource) → a.x * 5 + resource_rank a.kind < b.x * 5 + resource_rank b.kind → IsEarlier a b
    by_column a b column = elim (cases_lt a.x b.x) [
      | inl less ↦ inl less
      | inr ge ↦ inr (omega (arith, ge, column, rank_below a.kind, rank_below b.kind), inl (omega (arith, ge, column, rank_below a.kind, rank_below b.kind)))
    ]

    by_parts : (a b : Resource) → a.x * 5 + resource_rank a.kind ≡ b.x * 5 + resource_rank b.kind → (a.y < b.y) ⊎ ((a.y ≡ b.y) × (a.n < b.n)) → IsEarlier a b
    by_parts a b same rest = inr (omega (arith, same, rank_below a.kind, rank_below b.kind), inr (omega (arith, same, rank_below a.kind, rank_below b.kind), rest))

-- a place is made up of its column, kind, row and number
pub place_parts : (extent : Extent) (kind : ResourceKind) (place : ℕ) → place < size_of extent → resource_rank kind ≡ place / extent.numbers / (extent.rows + 2) % 5 →
    (in_book extent (make (place / extent.numbers / (extent.rows + 2) / 5) kind (place / extent.numbers % (extent.rows + 2)) (place % extent.numbers)) ≡ true)
    × (number_of extent (make (place / extent.numbers / (extent.rows + 2) / 5) kind (place / extent.numbers % (extent.rows + 2)) (place % extent.numbers)) ≡ place)
place_parts extent kind place within rank =
    let some : 0 < extent.numbers = positive (extent.columns + 1) extent place within in
    let row = place / extent.numbers in
    let column = row / (extent.rows + 2) in
    let row_few : row < (extent.columns + 1) * 5 * (extent.rows + 2) = (div-lt_iff_lt-mul some).1 within in
    let column_few : column < (extent.columns + 1) * 5 = (div-lt_iff_lt-mul (omega arith)).1 row_few in
    let x_few : column / 5 < extent.columns + 1 = (div-lt_iff_lt-mul (omega arith)).1 column_few in (
      and_from _ _ (le-leb (column / 5) extent.columns (omega (arith, x_few)))
          (and_from _ _ (le-leb (row % (extent.rows + 2)) (extent.rows + 1) (let low = mod_below row (extent.rows + 2) (omega arith) in omega (arith, low)))
          (lt-ltb (place % extent.numbers) extent.numbers (mod_below place extent.numbers some))),
      ap (λ r. ((column / 5 * 5 + r) * (extent.rows + 2) + row % (extent.rows + 2)) * extent.numbers + place % extent.numbers) rank
          ∙ (ap (λ t. (t * (extent.rows + 2) + row % (extent.rows + 2)) * extent.numbers + place % extent.numbers) (div-add-mod' column 5)
          ∙ (ap (λ t. t * extent.numbers + place % extent.numbers) (div-add-mod' row (extent.rows + 2)) ∙ div-add-mod' place extent.numbers)),
    )
  where
    positive : (c : ℕ) (extent : Extent) (place : ℕ) → place < c * 5 * (extent.rows + 2) * extent.numbers → 0 < extent.numbers
    positive c extent place within = elim (cases_lt 0 extent.numbers) [
      | inl some ↦ some
      | inr none ↦ (let zero' : extent.numbers ≡ 0 = omega (arith, none) in
          let empty : c * 5 * (extent.rows + 2) * extent.numbers ≡ c * 5 * (extent.rows + 2) * 0 = ap (λ t. c * 5 * (extent.rows + 2) * t) zero' in
          absurd (omega (arith, within, empty)))
    ]
