-- The places of a block's BLEs differ.
use Rattle.configuration.proofs.Prelude.{get_or, ◌≡◌, ◌≢◌, ℕ, suc, zero, ◌+◌, ◌<◌, ◌≤◌, Bool, true, false, ◌||◌, ◌==◌, not, List, [], ◌∷◌, cond, filter, length, Option, Some, None, slice_get, sym, ap, refl, ◌∙◌, inl, inr, ◌⊎◌, subst, arith, All, AllPairs, Contains, count_by, slice_index, list_any, range_with_len, cases_order, eqb-true, false≢true, length-range_with_len, AllPairs-filter, pairs_head, pairs_tail, from_filter, in_first, in_later, count-cons, filled_places, free_places, is_place}

-- no place is asked for twice
abbrev pub AreOnce : List (Option ℕ) → Type 0
AreOnce routed = (i j place : ℕ) → slice_get routed i ≡ Some (Some place) → slice_get routed j ≡ Some (Some place) → i ≡ j

abbrev is_open : Option ℕ → Bool
is_open None = true
is_open (Some place) = false

abbrev is_asked : Option ℕ → Bool
is_asked None = false
is_asked (Some place) = true

-- what is asked for is found
asked : (routed : List (Option ℕ)) (i place : ℕ) → slice_get routed i ≡ Some (Some place) → list_any (is_place place) routed ≡ true
asked [] i place e = absurd cc
asked (Some other ∷ routed) zero place e = grind arith
asked (None ∷ routed) zero place e = absurd cc
asked (Some other ∷ routed) (suc i) place e = grind (arith, asked routed i place e)
asked (None ∷ routed) (suc i) place e = asked routed i place e

-- the places that are left: none is asked for, each is there once, and there are enough
pub record AreLeft (routed : List (Option ℕ)) (free : List ℕ) : Type 0 where
  pub unasked : (place : ℕ) → Contains free place → (i : ℕ) → slice_get routed i ≡ Some (Some place) → ⊥
  pub once : (i j : ℕ) → i < length free → j < length free → slice_index free i ≡ slice_index free j → i ≡ j
  pub enough : count_by is_open routed ≤ length free

after_asked : (place : ℕ) (routed : List (Option ℕ)) (free : List ℕ) → AreLeft (Some place ∷ routed) free → AreLeft routed free
after_asked place routed free left =
    let many = count-cons is_open (Some place) routed in
    let enough = left.enough in
    record { unasked = λ other c i e. left.unasked other c (suc i) e; once = left.once; enough = omega (arith, many, enough) }

after_open : (next : ℕ) (routed : List (Option ℕ)) (free : List ℕ) → AreLeft (None ∷ routed) (next ∷ free) → AreLeft routed free
after_open next routed free left =
    let many = count-cons is_open None routed in
    let enough = left.enough in
    record {
      unasked = λ other c i e. left.unasked other (in_later next other free c) (suc i) e;
      once = λ i j within small same. let e = left.once (suc i) (suc j) (omega (arith, within)) (omega (arith, small)) same in omega (arith, e);
      enough = omega (arith, many, enough);
    }

none_left : (routed : List (Option ℕ)) → AreLeft (None ∷ routed) [] → ⊥
none_left routed left = let many = count-cons is_open None routed in let enough = left.enough in omega (arith, many, enough)

-- where a BLE's place comes from
filled_from : (routed : List (Option ℕ)) (free : List ℕ) → AreLeft routed free → (i : ℕ) → i < length routed →
    (slice_get routed i ≡ Some (Some (slice_index (filled_places routed free) i))) ⊎ ((k : ℕ) × (k < length free) × (slice_index free k ≡ slice_index (filled_places routed free) i))
filled_from [] free left i h = absurd (omega (arith, h))
filled_from (Some place ∷ routed) free left zero h = inl refl
filled_from (Some place ∷ routed) free left (suc i) h = filled_from routed free (after_asked place routed free left) i (omega (arith, h))
filled_from (None ∷ routed) [] left i h = absurd (none_left routed left)
filled_from (None ∷ routed) (next ∷ free) left zero h = inr (zero, omega arith, refl)
filled_from (None ∷ routed) (next ∷ free) left (suc i) h = elim (filled_from routed free (after_open next routed free left) i (omega (arith, h))) [
  | inl e ↦ inl e
  | inr q ↦ (let small = q.1 in inr (suc q.0, omega (arith, small), q.2))
]

in_at : (free : List ℕ) (k x : ℕ) → k < length free → slice_index free k ≡ x → Contains free x
in_at [] k x h e = absurd (omega (arith, h))
in_at (y ∷ free) zero x h e = subst (λ z. Contains (y ∷ free) z) e (in_first y free)
in_at (y ∷ free) (suc k) x h e = in_later y x free (in_at free k x (omega (arith, h)) e)

-- the first BLE's place is no other one's
first_differs : (routed : List (Option ℕ)) (free : List ℕ) (head : Option ℕ) (rest : List (Option ℕ)) → head ∷ rest ≡ routed → AreOnce routed → AreLeft routed free → (j : ℕ) → suc j < length routed →
    slice_index (filled_places routed free) 0 ≡ slice_index (filled_places routed free) (suc j) → ⊥
first_differs [] free head rest is once left j h same = omega (arith, h)
first_differs (Some place ∷ routed) free head rest is once left j h same = elim (filled_from routed free (after_asked place routed free left) j (omega (arith, h))) [
  | inl e ↦ (let wrong = once 0 (suc j) place refl (e ∙ ap (λ (n : ℕ). Some (Some n)) (sym same)) in omega (arith, wrong))
  | inr q ↦ left.unasked place (in_at free q.0 place q.1 (q.2 ∙ sym same)) 0 refl
]
first_differs (None ∷ routed) [] head rest is once left j h same = none_left routed left
first_differs (None ∷ routed) (next ∷ free) head rest is once left j h same = elim (filled_from routed free (after_open next routed free left) j (omega (arith, h))) [
  | inl e ↦ left.unasked next (in_first next free) (suc j) (e ∙ ap (λ (n : ℕ). Some (Some n)) (sym same))
  | inr q ↦ (let small = q.1 in let wrong = left.once 0 (suc q.0) (omega arith) (omega (arith, small)) (same ∙ sym q.2) in omega (arith, wrong))
]

once_tail : (head : Option ℕ) (routed : List (Option ℕ)) → AreOnce (head ∷ routed) → AreOnce routed
once_tail head routed once i j place e f = let same = once (suc i) (suc j) place e f in omega (arith, same)

-- the places differ
pub filled_once : (routed : List (Option ℕ)) (free : List ℕ) → AreOnce routed → AreLeft routed free → (i j : ℕ) → i < length routed → j < length routed →
    slice_index (filled_places routed free) i ≡ slice_index (filled_places routed free) j → i ≡ j
filled_once [] free once left i j h small same = absurd (omega (arith, h))
filled_once (head ∷ routed) free once left zero zero h small same = refl
filled_once (head ∷ routed) free once left zero (suc j) h small same = absurd (first_differs (head ∷ routed) free head routed refl once left j small same)
filled_once (head ∷ routed) free once left (suc i) zero h small same = absurd (first_differs (head ∷ routed) free head routed refl once left i h (sym same))
filled_once (Some place ∷ routed) free once left (suc i) (suc j) h small same = ap suc (filled_once routed free (once_tail (Some place) routed once) (after_asked place routed free left) i j (omega (arith, h)) (omega (arith, small)) same)
filled_once (None ∷ routed) [] once left (suc i) (suc j) h small same = absurd (none_left routed left)
filled_once (None ∷ routed) (next ∷ free) once left (suc i) (suc j) h small same = ap suc (filled_once routed free (once_tail None routed once) (after_open next routed free left) i j (omega (arith, h)) (omega (arith, small)) same)

-- ---- the places that are left

get_range : (start count k d : ℕ) → k < count → get_or (range_with_len start count) k d ≡ start + k
get_range start zero k d h = absurd (omega (arith, h))
get_range start (suc count) zero d h = omega arith
get_range start (suc count) (suc k) d h = let rest = get_range (start + 1) count k d (omega (arith, h)) in omega (arith, rest)

range_apart : (start count : ℕ) → AllPairs (λ place other. place ≢ other) (range_with_len start count)
range_apart start count i j d before small same = grind (arith, length-range_with_len, get_range)

-- a place more that is asked for takes one away at most
kept_same : (test : ℕ → Bool) (place : ℕ) (xs : List ℕ) → All (λ other. place ≢ other) xs → length (filter (λ p. not ((place == p) || test p)) xs) ≡ length (filter (λ p. not (test p)) xs)
kept_same test place [] differ = refl
kept_same test place (x ∷ xs) differ = by (place == x) refl (test x) (kept_same test place xs (λ k d lt. differ (suc k) d (omega (arith, lt))))
  where
    by : (b : Bool) → (place == x) ≡ b → (t : Bool) → length (filter (λ p. not ((place == p) || test p)) xs) ≡ length (filter (λ p. not (test p)) xs) →
        length (cond (not (b || t)) (x ∷ filter (λ p. not ((place == p) || test p)) xs) (filter (λ p. not ((place == p) || test p)) xs))
        ≡ length (cond (not t) (x ∷ filter (λ p. not (test p)) xs) (filter (λ p. not (test p)) xs))
    by true is t rest = absurd (differ 0 x (omega arith) (eqb-true place x is))
    by false is true rest = rest
    by false is false rest = ap suc rest

one_less : (test : ℕ → Bool) (place : ℕ) (xs : List ℕ) → AllPairs (λ p other. p ≢ other) xs → length (filter (λ p. not (test p)) xs) ≤ 1 + length (filter (λ p. not ((place == p) || test p)) xs)
one_less test place [] apart = omega arith
one_less test place (x ∷ xs) apart = by (place == x) refl (test x) (one_less test place xs (pairs_tail (λ p other. p ≢ other) x xs apart))
  where
    same : place ≡ x → length (filter (λ p. not ((place == p) || test p)) xs) ≡ length (filter (λ p. not (test p)) xs)
    same e = kept_same test place xs (λ k d lt is. pairs_head (λ p other. p ≢ other) x xs apart k d lt (sym e ∙ is))

    by : (b : Bool) → (place == x) ≡ b → (t : Bool) → length (filter (λ p. not (test p)) xs) ≤ 1 + length (filter (λ p. not ((place == p) || test p)) xs) →
        length (cond (not t) (x ∷ filter (λ p. not (test p)) xs) (filter (λ p. not (test p)) xs))
        ≤ 1 + length (cond (not (b || t)) (x ∷ filter (λ p. not ((place == p) || test p)) xs) (filter (λ p. not ((place == p) || test p)) xs))
    by true is true rest = let e = same (eqb-true place x is) in omega (arith, e)
    by true is false rest = let e = same (eqb-true place x is) in omega (arith, e)
    by false is true rest = rest
    by false is false rest = omega (arith, rest)

all_kept : (xs : List ℕ) → length (filter (λ (p : ℕ). true) xs) ≡ length xs
all_kept [] = refl
all_kept (x ∷ xs) = ap suc (all_kept xs)

few_taken : (routed : List (Option ℕ)) (xs : List ℕ) → AllPairs (λ p other. p ≢ other) xs → length xs ≤ count_by is_asked routed + length (filter (λ p. not (list_any (is_place p) routed)) xs)
few_taken [] xs apart = let all = all_kept xs in omega (arith, all)
few_taken (None ∷ routed) xs apart = let rest = few_taken routed xs apart in let many = count-cons is_asked None routed in omega (arith, rest, many)
few_taken (Some place ∷ routed) xs apart =
    let rest = few_taken routed xs apart in
    let many = count-cons is_asked (Some place) routed in
    let one = one_less (λ p. list_any (is_place p) routed) place xs apart in
    omega (arith, rest, many, one)

both_counts : (routed : List (Option ℕ)) → count_by is_open routed + count_by is_asked routed ≡ length routed
both_counts [] = refl
both_counts (None ∷ routed) = let rest = both_counts routed in let a = count-cons is_open None routed in let b = count-cons is_asked None routed in omega (arith, rest, a, b)
both_counts (Some place ∷ routed) = let rest = both_counts routed in let a = count-cons is_open (Some place) routed in let b = count-cons is_asked (Some place) routed in omega (arith, rest, a, b)

pub are_left : (count : ℕ) (routed : List (Option ℕ)) → length routed ≤ count → AreLeft routed (free_places count routed)
are_left count routed few = record {
  unasked = λ place c i e.
      let test = λ (p : ℕ). not (list_any (is_place p) routed) in
      let f = from_filter test (range_with_len 0 count) place c in
      let wrong : false ≡ true = sym (ap not (asked routed i place e)) ∙ f.1 in false≢true wrong;
  once = λ i j h small same. elim (cases_order i j) [
    | inl e ↦ e
    | inr differ ↦ elim differ [
      | inl less ↦ absurd (apart i j 0 less small same)
      | inr more ↦ absurd (apart j i 0 more h (sym same))
    ]
  ];
  enough =
      let long = length-range_with_len 0 count in
      let taken = few_taken routed (range_with_len 0 count) (range_apart 0 count) in
      let both = both_counts routed in
      omega (arith, long, taken, both, few);
}
  where
    apart : AllPairs (λ place other. place ≢ other) (free_places count routed)
    apart = AllPairs-filter (λ place other. place ≢ other) (λ p. not (list_any (is_place p) routed)) (range_with_len 0 count) (range_apart 0 count)
