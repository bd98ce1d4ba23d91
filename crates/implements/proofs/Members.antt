-- Members of lists.
use Rattle.implements.proofs.Prelude.{get_or, ◌≡◌, ℕ, suc, zero, ◌+◌, ◌<◌, ◌≤◌, ◌==◌, Bool, true, false, ◌||◌, List, [], ◌∷◌, ◌++◌, cond, drop, filter, length, map, take, Option, Some, slice_get, sym, ap, refl, ◌∙◌, inl, inr, ◌⊎◌, subst, arith, All, Contains, count_by, flat_map, list_all, list_any, range_with_len, option_to_list, eqb-true, get_or_default, nat_tests, has}

pub in_none : {X : Type 0} (x : X) → Contains [] x → ⊥
in_none x c = omega (arith, c.1)

pub in_first : {X : Type 0} (x : X) (xs : List X) → Contains (x ∷ xs) x
in_first x xs = (0, omega arith, refl)

pub in_later : {X : Type 0} (x y : X) (xs : List X) → Contains xs y → Contains (x ∷ xs) y
in_later x y xs c = (suc c.0, omega arith, c.2)

pub in_cases : {X : Type 0} (x y : X) (xs : List X) → Contains (x ∷ xs) y → (x ≡ y) ⊎ Contains xs y
in_cases x y xs h1 = grind arith

pub from_map : {X Y : Type 0} (f : X → Y) (xs : List X) (y : Y) → Contains (map f xs) y → (x : X) × Contains xs x × (f x ≡ y)
from_map f [] y c = absurd (in_none y c)
from_map f (x ∷ xs) y c = elim (in_cases (f x) y (map f xs) c) [
  | inl e ↦ (x, in_first x xs, e)
  | inr d ↦ (let q = from_map f xs y d in (q.0, in_later x q.0 xs q.1, q.2))
]

pub to_map : {X Y : Type 0} (f : X → Y) (xs : List X) (x : X) → Contains xs x → Contains (map f xs) (f x)
to_map f [] x c = absurd (in_none x c)
to_map f (y ∷ xs) x c = elim (in_cases y x xs c) [
  | inl e ↦ subst (λ z. Contains (f y ∷ map f xs) (f z)) e (in_first (f y) (map f xs))
  | inr d ↦ in_later (f y) (f x) (map f xs) (to_map f xs x d)
]

pub from_append : {X : Type 0} (xs ys : List X) (x : X) → Contains (xs ++ ys) x → Contains xs x ⊎ Contains ys x
from_append [] ys x c = inr c
from_append (y ∷ xs) ys x c = elim (in_cases y x (xs ++ ys) c) [
  | inl e ↦ inl (subst (λ z. Contains (y ∷ xs) z) e (in_first y xs))
  | inr d ↦ elim (from_append xs ys x d) [
    | inl l ↦ inl (in_later y x xs l)
    | inr r ↦ inr r
  ]
]

pub to_append_left : {X : Type 0} (xs ys : List X) (x : X) → Contains xs x → Contains (xs ++ ys) x
to_append_left [] ys x c = absurd (in_none x c)
to_append_left (y ∷ xs) ys x c = elim (in_cases y x xs c) [
  | inl e ↦ subst (λ z. Contains (y ∷ (xs ++ ys)) z) e (in_first y (xs ++ ys))
  | inr d ↦ in_later y x (xs ++ ys) (to_append_left xs ys x d)
]

pub to_append_right : {X : Type 0} (xs ys : List X) (x : X) → Contains ys x → Contains (xs ++ ys) x
to_append_right [] ys x c = c
to_append_right (y ∷ xs) ys x c = in_later y x (xs ++ ys) (to_append_right xs ys x c)

pub to_flat_map : {X Y : Type 0} (f : X → List Y) (xs : List X) (x : X) (y : Y) → Contains xs x → Contains (f x) y → Contains (flat_map f xs) y
to_flat_map f [] x y c d = absurd (in_none x c)
to_flat_map f (first ∷ xs) x y c d = elim (in_cases first x xs c) [
  | inl e ↦ to_append_left (f first) (flat_map f xs) y (subst (λ z. Contains (f z) y) (sym e) d)
  | inr later ↦ to_append_right (f first) (flat_map f xs) y (to_flat_map f xs x y later d)
]

-- what holds of each member holds of all
pub all_members : {X : Type 0} (P : X → Type 0) (xs : List X) → ((x : X) → Contains xs x → P x) → All P xs
all_members P xs h = λ k d lt. h (get_or xs k d) (k, lt, get_or_default xs k (get_or xs k d) d lt)

-- an option that holds something
pub only_one : {X : Type 0} (o : Option X) (x : X) → Contains (option_to_list o) x → o ≡ Some x
only_one o x c = grind arith

pub one_only : {X : Type 0} (o : Option X) (x : X) → o ≡ Some x → Contains (option_to_list o) x
one_only o x is = subst (λ o. Contains (option_to_list o) x) (sym is) (in_first x [])

pub from_flat_map : {X Y : Type 0} (f : X → List Y) (xs : List X) (y : Y) → Contains (flat_map f xs) y → (x : X) × Contains xs x × Contains (f x) y
from_flat_map f [] y c = absurd (in_none y c)
from_flat_map f (x ∷ xs) y c = elim (from_append (f x) (flat_map f xs) y c) [
  | inl e ↦ (x, in_first x xs, e)
  | inr d ↦ (let q = from_flat_map f xs y d in (q.0, in_later x q.0 xs q.1, q.2))
]

pub to_filter : {X : Type 0} (test : X → Bool) (xs : List X) (x : X) → Contains xs x → test x ≡ true → Contains (filter test xs) x
to_filter test [] x c passes = absurd (in_none x c)
to_filter {X} test (y ∷ xs) x c passes = elim (in_cases y x xs c) [
  | inl e ↦ (let here : test y ≡ true = ap test e ∙ passes in subst (λ b. Contains (cond b (y ∷ filter test xs) (filter test xs)) x) (sym here) (subst (λ z. Contains (y ∷ filter test xs) z) e (in_first y (filter test xs))))
  | inr d ↦ by (test y) (to_filter test xs x d passes)
]
  where
    by : (b : Bool) → Contains (filter test xs) x → Contains (cond b (y ∷ filter test xs) (filter test xs)) x
    by true rest = in_later y x (filter test xs) rest
    by false rest = rest

-- some member passes the test
pub from_any : {X : Type 0} (test : X → Bool) (xs : List X) → list_any test xs ≡ true → (x : X) × Contains xs x × (test x ≡ true)
from_any test [] h = absurd cc
from_any {X} test (x ∷ xs) h = grind (arith, in_later, from_any test xs)

pub to_any : {X : Type 0} (test : X → Bool) (xs : List X) (x : X) → Contains xs x → test x ≡ true → list_any test xs ≡ true
to_any test [] x c passes = absurd (in_none x c)
to_any test (y ∷ xs) x c passes = elim (in_cases y x xs c) [
  | inl e ↦ ap (λ (b : Bool). b || list_any test xs) (ap test e ∙ passes)
  | inr d ↦ (let rest = to_any test xs x d passes in grind (arith, rest))
]

-- each member passes it
pub from_all : {X : Type 0} (test : X → Bool) (xs : List X) (x : X) → list_all test xs ≡ true → Contains xs x → test x ≡ true
from_all test [] x h c = absurd (in_none x c)
from_all test (y ∷ xs) x h c = elim (in_cases y x xs c) [
  | inl e ↦ sym (ap test e) ∙ first
  | inr d ↦ from_all test xs x later d
]
  where
    first : test y ≡ true
    first = grind (arith, h)

    later : list_all test xs ≡ true
    later = grind (arith, h)

-- what is counted is there
pub counted : {X : Type 0} (test : X → Bool) (xs : List X) → count_by test xs ≡ 1 → list_any test xs ≡ true
counted test xs h = by (list_any test xs) refl
  where
    none : {X : Type 0} (test : X → Bool) (xs : List X) → list_any test xs ≡ false → count_by test xs ≡ 0
    none test [] h = refl
    none test (x ∷ xs) h = let rest = none test xs in grind (arith, h, rest)

    by : (b : Bool) → list_any test xs ≡ b → list_any test xs ≡ true
    by true is = is
    by false is = absurd (omega (arith, h, none test xs is))

-- members by `has`
pub from_has : (nets : List ℕ) (net : ℕ) → has nets net ≡ true → Contains nets net
from_has [] net h = absurd cc
from_has (first ∷ nets) net h = by (first == net) refl (from_has nets net)
  where
    by : (b : Bool) → (first == net) ≡ b → (has nets net ≡ true → Contains nets net) → Contains (first ∷ nets) net
    by true same rest = (0, omega arith, eqb-true first net same)
    by false other rest = let r = rest (grind (arith, h, other)) in (suc r.0, omega (arith, r.1), r.2)

pub to_has : (nets : List ℕ) (net : ℕ) → Contains nets net → has nets net ≡ true
to_has [] net c = absurd (in_none net c)
to_has (first ∷ nets) net c = elim (in_cases first net nets c) [
  | inl e ↦ grind (arith, nat_tests, e)
  | inr d ↦ (let rest = to_has nets net d in grind (arith, rest))
]

-- the member at a place
pub from_get : {X : Type 0} (xs : List X) (k : ℕ) (x : X) → slice_get xs k ≡ Some x → (k < length xs) × Contains xs x
from_get [] k x h = absurd cc
from_get (y ∷ xs) zero x h = (omega arith, subst (λ z. Contains (y ∷ xs) z) (grind (arith, h)) (in_first y xs))
from_get (y ∷ xs) (suc k) x h = let rest = from_get xs k x h in (omega (arith, rest.0), in_later y x xs rest.1)

pub in_range : (start count number : ℕ) → start ≤ number → number < start + count → Contains (range_with_len start count) number
in_range start zero number low high = absurd (omega (arith, low, high))
in_range start (suc count) number low high = by (start == number) refl (λ more. in_range (start + 1) count number more (omega (arith, high)))
  where
    by : (b : Bool) → (start == number) ≡ b → (start + 1 ≤ number → Contains (range_with_len (start + 1) count) number) → Contains (range_with_len start (suc count)) number
    by true same rest = (0, omega arith, eqb-true start number same)
    by false other rest = in_later start number (range_with_len (start + 1) count) (rest (grind (arith, nat_tests, other, low)))

-- members of parts
pub from_take : {X : Type 0} (n : ℕ) (xs : List X) (x : X) → Contains (take n xs) x → Contains xs x
from_take zero xs x c = absurd (in_none x c)
from_take (suc n) [] x c = absurd (in_none x c)
from_take (suc n) (y ∷ xs) x c = elim (in_cases y x (take n xs) c) [
  | inl e ↦ subst (λ z. Contains (y ∷ xs) z) e (in_first y xs)
  | inr d ↦ in_later y x xs (from_take n xs x d)
]

pub from_drop : {X : Type 0} (n : ℕ) (xs : List X) (x : X) → Contains (drop n xs) x → Contains xs x
from_drop zero xs x c = c
from_drop (suc n) [] x c = absurd (in_none x c)
from_drop (suc n) (y ∷ xs) x c = in_later y x xs (from_drop n xs x c)

pub from_filter : {X : Type 0} (test : X → Bool) (xs : List X) (x : X) → Contains (filter test xs) x → Contains xs x × (test x ≡ true)
from_filter test [] x c = absurd (in_none x c)
from_filter {X} test (y ∷ xs) x c = search (in_later, from_filter test xs x, arith)
