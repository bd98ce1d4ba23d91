-- Entries by key.
use Rattle.kept_places.proofs.Prelude.{ℕ, ◌≡◌, ◌+◌, ◌<◌, Bool, true, cond, T, ◌&&◌, ◌≤◌, ◌⊎◌, inl, inr, List, [], ◌∷◌, Option, Some, None, length, get_or, slice_get, refl, sym, ap, subst, ◌∙◌, arith, map, Ordering, Less, Equal, Greater, is_lt, is_eq, eq_by_cmp, ordering_reverse, IsTotalOrder, eq_by_cmp_equiv, IsTrue, AllByRecursion, IsDistinct, Contains, IsPermutation, IsStrictlySortedBy, keys_of, lookup, find, put, is_sorted, is_sorted-put, find-put, same_entries, below_all, Contains-permutation, IsPermutation-sym, IsPermutation-map, IsDistinct-IsPermutation, IsDistinct-from_sorted, Less-from_sorted, cases_eq, get_or-map, length-map, get_or_from_slice_get, slice_get_within, lookup_at_gap, lookup_from_place, Contains-from_lookup, lookup-from_Contains, BlockKey, key_order, Place, KeptPlaces, in_order}
use Rattle.kept_places.proofs.Orders.{key_total, key_same}

abbrev Entry : Type 0
Entry = BlockKey × Place

find-lookup : (q : BlockKey) (es : List Entry) → find key_order q es ≡ lookup (eq_by_cmp key_order q) es
find-lookup q [] = refl
find-lookup q (e ∷ es) = ap (cond (eq_by_cmp key_order q e.0) (Some e.1)) (find-lookup q es)

pub find-in_order : (q : BlockKey) (es : List Entry) → find key_order q (in_order es) ≡ find key_order q es
unfolding in_order
find-in_order q [] = refl
find-in_order q (e ∷ es) = find-put key_order key_total q e.0 e.1 (in_order es) ∙ ap (cond (eq_by_cmp key_order q e.0) (Some e.1)) (find-in_order q es)

pub in_order-sorted : (es : List Entry) → T (is_sorted key_order (in_order es))
unfolding in_order
in_order-sorted [] = tt
in_order-sorted (e ∷ es) = is_sorted-put key_order key_total e.0 e.1 (in_order es) (in_order-sorted es)

both : (a b : Bool) → T a → T b → T (a && b)
both a b p q = grind arith

first : (a b : Bool) → T (a && b) → T a
first a b p = grind arith

second : (a b : Bool) → T (a && b) → T b
second a b p = grind arith

less : (o : Ordering) → T (is_lt o) → o ≡ Less
less o p = grind arith

is_less : (o : Ordering) → o ≡ Less → T (is_lt o)
is_less o e = grind arith

equal : (o : Ordering) → is_eq o ≡ true → o ≡ Equal
equal o e = grind arith

pub holds : (b : Bool) → IsTrue b → T b
holds b e = grind arith

pub told : (b : Bool) → T b → IsTrue b
told b e = grind arith

-- in the order of the keys, as a test and as a property
below-from_all : (k : BlockKey) (es : List Entry) → AllByRecursion (λ y. key_order k y ≡ Less) (keys_of es) → T (below_all key_order k es)
below-from_all k [] all = tt
below-from_all k (e ∷ es) all = both (is_lt (key_order k e.0)) (below_all key_order k es) (is_less (key_order k e.0) all.0) (below-from_all k es all.1)

pub is_sorted-from : (es : List Entry) → IsStrictlySortedBy key_order (keys_of es) → T (is_sorted key_order es)
unfolding IsStrictlySortedBy
is_sorted-from [] up = tt
is_sorted-from (e ∷ es) up = both (below_all key_order e.0 es) (is_sorted key_order es) (below-from_all e.0 es up.0) (is_sorted-from es up.1)

all-from_below : (k : BlockKey) (es : List Entry) → T (below_all key_order k es) → AllByRecursion (λ y. key_order k y ≡ Less) (keys_of es)
all-from_below k [] below = tt
all-from_below k (e ∷ es) below = grind (arith, all-from_below k es (second (is_lt (key_order k e.0)) (below_all key_order k es) below))

pub rises : (es : List Entry) → T (is_sorted key_order es) → IsStrictlySortedBy key_order (keys_of es)
unfolding IsStrictlySortedBy
rises [] up = tt
rises (e ∷ es) up = grind (arith, all-from_below, rises es (second (below_all key_order e.0 es) (is_sorted key_order es) up))

pub distinct : (es : List Entry) → T (is_sorted key_order es) → IsDistinct (eq_by_cmp key_order) (keys_of es)
distinct es up = IsDistinct-from_sorted key_order (keys_of es) (rises es up)

-- keys that compare as equal are equal
pub tied : (a b : BlockKey) → eq_by_cmp key_order a b ≡ true → a ≡ b
tied a b e = key_same a b (equal (key_order a b) e)

-- an entry that is found is also found in another order of the entries
module _ (es fs : List Entry) (moved : IsPermutation es fs) (apart : IsDistinct (eq_by_cmp key_order) (keys_of es)) where
  pub apart_too : IsDistinct (eq_by_cmp key_order) (keys_of fs)
  apart_too = IsDistinct-IsPermutation (eq_by_cmp key_order) (eq_by_cmp_equiv key_total).symm (keys_of es) (keys_of fs) (IsPermutation-map (λ (e : Entry). e.0) es fs moved) apart

  there : (q : BlockKey) (v : Place) → lookup (eq_by_cmp key_order q) es ≡ Some v → lookup (eq_by_cmp key_order q) fs ≡ Some v
  there q v is = lookup-from_Contains (eq_by_cmp_equiv key_total) q v fs apart_too (Contains-permutation es fs (q, v) moved (Contains-from_lookup tied q v es is))

  here : (q : BlockKey) (v : Place) → lookup (eq_by_cmp key_order q) fs ≡ Some v → lookup (eq_by_cmp key_order q) es ≡ Some v
  here q v is = lookup-from_Contains (eq_by_cmp_equiv key_total) q v es apart (Contains-permutation fs es (q, v) (IsPermutation-sym es fs moved) (Contains-from_lookup tied q v fs is))

  same_lookup : (q : BlockKey) (a b : Option Place) → lookup (eq_by_cmp key_order q) es ≡ a → lookup (eq_by_cmp key_order q) fs ≡ b → b ≡ a
  same_lookup q (Some v) b is found = sym found ∙ there q v is
  same_lookup q None (Some w) is found = let h = here q w found in absurd cc
  same_lookup q None None is found = refl

  pub find-permutation : (q : BlockKey) → find key_order q fs ≡ find key_order q es
  find-permutation q = find-lookup q fs ∙ (same_lookup q _ _ refl refl ∙ sym (find-lookup q es))

-- two lists in order are equal if all searches find the same in them
pub same : (es fs : List Entry) → IsTrue (is_sorted key_order es) → IsTrue (is_sorted key_order fs) → ((q : BlockKey) → find key_order q es ≡ find key_order q fs) → es ≡ fs
same es fs up rise found = same_entries key_order key_total key_same es fs (holds (is_sorted key_order es) up) (holds (is_sorted key_order fs) rise) found

-- entries in order are already the map
pub as_they_stand : (es fs : List Entry) → IsPermutation es fs → IsDistinct (eq_by_cmp key_order) (keys_of es) → IsTrue (is_sorted key_order fs) → fs ≡ in_order es
as_they_stand es fs moved apart up = same fs (in_order es) up (told (is_sorted key_order (in_order es)) (in_order-sorted es)) (λ q. find-permutation es fs moved apart q ∙ sym (find-in_order q es))

-- the entry that a search finds
pub found : (es : List Entry) (q : BlockKey) (at : ℕ) (k : BlockKey) (place : Place) → IsTrue (is_sorted key_order es) → slice_get es at ≡ Some (k, place) → key_order q k ≡ Equal → find key_order q es ≡ Some place
found es q at k place up is tie = grind (arith, lookup_from_place, key_total, distinct, holds, key_same, find-lookup q es, lookup_from_place (eq_by_cmp_equiv key_total) es, distinct es (holds (is_sorted key_order es) up), holds (is_sorted key_order es) up, key_same q k tie)

-- the entries before `low` have lesser keys, and those from `high` on have greater ones
pub record IsBetween (es : List Entry) (q : BlockKey) (low high : ℕ) : Type 0 where
  pub ordered : low ≤ high
  pub within : high ≤ length es
  pub before : (j : ℕ) (e : Entry) → j < low → slice_get es j ≡ Some e → key_order q e.0 ≡ Greater
  pub behind : (j : ℕ) (e : Entry) → high ≤ j → slice_get es j ≡ Some e → key_order q e.0 ≡ Less

pub missed : (es : List Entry) (q : BlockKey) (low high : ℕ) → IsTrue (is_sorted key_order es) → high ≤ low → IsBetween es q low high → find key_order q es ≡ None
missed es q low high up met between =
    find-lookup q es ∙ lookup_at_gap key_total q es low (rises es (holds (is_sorted key_order es) up)) between.before (λ e is. between.behind low e met is)

-- of two entries of a list in order, the first has the lesser key
rising : (es : List Entry) (i j : ℕ) (e f : Entry) → IsTrue (is_sorted key_order es) → i < j → slice_get es i ≡ Some e → slice_get es j ≡ Some f → key_order e.0 f.0 ≡ Less
rising es i j e f up lt first second =
    let one : get_or (keys_of es) i e.0 ≡ e.0 = get_or-map (λ (x : Entry). x.0) es i e e.0 (slice_get_within es i e first) ∙ ap (λ (x : Entry). x.0) (get_or_from_slice_get es i e e first) in
    let other : get_or (keys_of es) j e.0 ≡ f.0 = get_or-map (λ (x : Entry). x.0) es j f e.0 (slice_get_within es j f second) ∙ ap (λ (x : Entry). x.0) (get_or_from_slice_get es j f f second) in
    let small : j < length (keys_of es) = omega (arith, length-map es (λ (x : Entry). x.0), slice_get_within es j f second) in
    sym (ap (λ (k : BlockKey). key_order k f.0) one) ∙ (sym (ap (key_order (get_or (keys_of es) i e.0)) other) ∙ Less-from_sorted key_order (keys_of es) i j e.0 (rises es (holds (is_sorted key_order es) up)) lt small)

-- the entry at an index is unique
one_entry : (es : List Entry) (i j : ℕ) (e f : Entry) → i ≡ j → slice_get es i ≡ Some e → slice_get es j ≡ Some f → e ≡ f
one_entry es i j e f same first second = let s : Some e ≡ Some f = sym first ∙ (ap (slice_get es) same ∙ second) in cc

pub lower_half : (es : List Entry) (q : BlockKey) (low high middle : ℕ) (e : Entry) → IsTrue (is_sorted key_order es) → IsBetween es q low high → low ≤ middle → middle < high → slice_get es middle ≡ Some e → key_order q e.0 ≡ Less → IsBetween es q low middle
lower_half es q low high middle e up between from to is less = record {
  ordered = from;
  within = omega (arith, to, between.within);
  before = between.before;
  behind = λ j f past at. elim (cases_eq middle j) [
    | inl same ↦ ap (λ (x : Entry). key_order q x.0) (sym (one_entry es middle j e f same is at)) ∙ less
    | inr other ↦ key_total.trans q e.0 f.0 less (rising es middle j e f up (omega (arith, past, other)) is at)
  ];
}

pub upper_half : (es : List Entry) (q : BlockKey) (low high middle : ℕ) (e : Entry) → IsTrue (is_sorted key_order es) → IsBetween es q low high → low ≤ middle → middle < high → slice_get es middle ≡ Some e → key_order q e.0 ≡ Greater → IsBetween es q (middle + 1) high
upper_half es q low high middle e up between from to is greater = record {
  ordered = omega (arith, to);
  within = between.within;
  before = λ j f lt at. elim (cases_eq j middle) [
    | inl same ↦ ap (λ (x : Entry). key_order q x.0) (one_entry es j middle f e same at is) ∙ greater
    | inr other ↦
        let behind : key_order e.0 q ≡ Less = key_total.antisymm e.0 q ∙ ap ordering_reverse greater in
        let lower : key_order f.0 q ≡ Less = key_total.trans f.0 e.0 q (rising es j middle f e up (omega (arith, lt, other)) at is) behind in
        key_total.antisymm q f.0 ∙ ap ordering_reverse lower
  ];
  behind = between.behind;
}
